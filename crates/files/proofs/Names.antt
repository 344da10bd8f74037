-- The name of a bus is its number in base ten.
use Rattle.std.proofs.Common.{◌≡◌, ℕ, ◌/◌, ◌%◌, ◌+◌, ◌<◌, ◌≤◌, ltb, List, [], ◌∷◌, ◌++◌, decimal, sym, ap, ◌∙◌, arith}
use Rattle.std.proofs.lemmas.Bool.{cond_both, ltb-true, ltb-false}
use Rattle.std.proofs.lemmas.Fmt.{decimal_digit, decimal_step}
use Rattle.files.specs.Columns.{bus_name}

two_digits : (n : ℕ) → 10 ≤ n → n < 100 → (0x30 + n / 10) ∷ (0x30 + n % 10) ∷ [] ≡ decimal n
two_digits n l h =
    ap (λ t. t ++ (0x30 + n % 10) ∷ []) (sym (decimal_digit (n / 10) (omega arith)))
    ∙ sym (decimal_step n l (omega arith))

pub name_decimal : (n : ℕ) → n < 100 → bus_name n ≡ decimal n
name_decimal n small =
    cond_both (ltb n 10) _ _ (λ (xs : List ℕ). xs ≡ decimal n) (λ h. sym (decimal_digit n (ltb-true n 10 h))) (λ h. two_digits n (ltb-false n 10 h) small)
