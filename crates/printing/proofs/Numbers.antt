-- How long a number's text is, and the texts of short numbers.
use Rattle.std.proofs.Common.{◌≡◌, ℕ, ◌+◌, ◌/◌, ◌%◌, ◌^◌, ◌<◌, ◌≤◌, ltb, List, [], ◌∷◌, ◌++◌, length, get_or, drop, map, decimal, sym, ap, ◌∙◌, arith}
use Rattle.std.proofs.lemmas.List.{append_assoc, drop_more}
use Rattle.std.proofs.lemmas.Bool.{cond_both, ltb-true, ltb-false}
use Rattle.std.proofs.lemmas.Fmt.{decimal_digit, decimal_step, length-decimal-le}
use Rattle.printing.specs.MapTexts.{digit_at, short_number, per_unit}
use Rattle.printing.proofs.Digits.{behind}

pub one_long : (n : ℕ) → n < 10 → length (decimal n) ≡ 1
one_long n h = ap length (decimal_digit n h)

pub three_long : (n : ℕ) → n < 1000 → length (decimal n) ≤ 3
three_long n h = length-decimal-le 3 n (omega arith) (omega arith) (omega arith)

pub twenty_digits : (n : ℕ) → n < 2 ^ 64 → length (decimal n) ≤ 20
twenty_digits n h = length-decimal-le 20 n (omega arith) (omega arith) h

-- A number below 1,000.

one : (n : ℕ) → n < 10 → digit_at n 1 ∷ [] ≡ decimal n
one n h = ap (λ d. (48 + d) ∷ []) (omega arith) ∙ sym (decimal_digit n h)

two : (n : ℕ) → 10 ≤ n → n < 100 → digit_at n 10 ∷ digit_at n 1 ∷ [] ≡ decimal n
two n l h =
    let tens : n / 10 % 10 ≡ n / 10 = omega arith in
    let ones : n / 1 % 10 ≡ n % 10 = omega arith in
    ap (λ d. (48 + d) ∷ digit_at n 1 ∷ []) tens
    ∙ ap (λ d. (48 + n / 10) ∷ (48 + d) ∷ []) ones
    ∙ ap (λ t. t ++ (48 + n % 10) ∷ []) (sym (decimal_digit (n / 10) (omega arith)))
    ∙ sym (decimal_step n l (omega arith))

three : (n : ℕ) → 100 ≤ n → n < 1000 → digit_at n 100 ∷ digit_at n 10 ∷ digit_at n 1 ∷ [] ≡ decimal n
three n l h =
    let hundreds : n / 100 % 10 ≡ n / 10 / 10 % 10 = omega arith in
    let tens : n / 10 % 10 ≡ n / 10 / 1 % 10 = omega arith in
    let ones : n / 1 % 10 ≡ n % 10 = omega arith in
    ap (λ d. (48 + d) ∷ digit_at n 10 ∷ digit_at n 1 ∷ []) hundreds
    ∙ ap (λ d. digit_at (n / 10) 10 ∷ (48 + d) ∷ digit_at n 1 ∷ []) tens
    ∙ ap (λ d. digit_at (n / 10) 10 ∷ digit_at (n / 10) 1 ∷ (48 + d) ∷ []) ones
    ∙ ap (λ t. t ++ (48 + n % 10) ∷ []) (two (n / 10) (omega arith) (omega arith))
    ∙ sym (decimal_step n (omega arith) (omega arith))

pub short_decimal : (n : ℕ) → n < 1000 → short_number n ≡ decimal n
short_decimal n small =
    cond_both (ltb n 10) _ _ (λ (xs : List ℕ). xs ≡ decimal n) (λ h. one n (ltb-true n 10 h))
    (λ h. cond_both (ltb n 100) _ _ (λ (xs : List ℕ). xs ≡ decimal n) (λ k. two n (ltb-false n 10 h) (ltb-true n 100 k)) (λ k. three n (ltb-false n 100 k) small))

-- A number of millionths, digit by digit.

pub behind_more : (front : List ℕ) (n i : ℕ) → i < 6 → (front ++ decimal (n / get_or behind i 0 % 10)) ++ map (digit_at n) (drop (i + 1) behind) ≡ front ++ map (digit_at n) (drop i behind)
behind_more front n i h =
    ap (λ t. (front ++ t) ++ map (digit_at n) (drop (i + 1) behind)) (decimal_digit (n / get_or behind i 0 % 10) (omega arith))
    ∙ append_assoc front (digit_at n (get_or behind i 0) ∷ []) (map (digit_at n) (drop (i + 1) behind))
    ∙ ap (λ units. front ++ map (digit_at n) units) (sym (drop_more behind i 0 h))

pub per_unit_put : (front : List ℕ) (n : ℕ) → ((front ++ decimal (n / 1000000 % 10)) ++ 0x2E ∷ []) ++ map (digit_at n) behind ≡ front ++ per_unit n
per_unit_put front n =
    ap (λ t. ((front ++ t) ++ 0x2E ∷ []) ++ map (digit_at n) behind) (decimal_digit (n / 1000000 % 10) (omega arith))
    ∙ append_assoc (front ++ digit_at n 1000000 ∷ []) (0x2E ∷ []) (map (digit_at n) behind)
    ∙ append_assoc front (digit_at n 1000000 ∷ []) (0x2E ∷ map (digit_at n) behind)
