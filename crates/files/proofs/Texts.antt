-- What a field holds, from its text in the file: a blank and a field that holds a quote are no number and no name.
use Rattle.std.proofs.Common.{Bor, ◌&&◌, sym, ◌≡◌, ℕ, zero, suc, ◌+◌, ◌≤◌, Bool, true, false, cond, not, eqb, ltb, ◌⊎◌, List, [], ◌∷◌, ◌++◌, length, ℤ, Some, None, Option, refl, ap, ◌∙◌, subst, inl, inr, ⊎_elim, arith, length-append}
use Rattle.std.specs.Option.{option_map, MatchOption}
use Rattle.std.specs.Str.{bytes_eq}
use Rattle.std.proofs.lemmas.Slice.Eq.{bytes_eq-Decides}
use Rattle.std.proofs.lemmas.Bool.{and_right, and_parts, and_from, both_ways, cases_Bool, cond_both}
use Rattle.rfc4180.specs.Places.{Content, plainly, quotedly, nothing, held}
use Rattle.rfc4180.specs.Views.{quoteless, text_of}
use Rattle.units.specs.Decimals.{digit, digits, Decimal, Form, pointed, written, decimal_of}
use Rattle.units.proofs.Forms.{value_reads}
use Rattle.refusals.proofs.Checks.{clash}
use Rattle.files.specs.Columns.{bus_name, column_name}

pub text_some : (c : Content) (t : List ℕ) → Some t ≡ text_of c → held c ≡ t
text_some (plainly xs) t e = cc
text_some (quotedly xs) t e = go (quoteless xs) e
  where
    go : (b : Bool) → Some t ≡ cond b (Some xs) None → xs ≡ t
    go true e = cc
    go false e = clash cc
text_some nothing t e = clash cc

-- a text that is no number and no name: empty, or with a quote in it
abbrev pub Odd : List ℕ → Type 0
Odd xs = (xs ≡ []) ⊎ (quoteless xs ≡ false)

pub text_none : (c : Content) → None ≡ text_of c → Odd (held c)
text_none (plainly xs) e = clash cc
text_none (quotedly xs) e = go (quoteless xs) refl e
  where
    go : (b : Bool) → quoteless xs ≡ b → None ≡ cond b (Some xs) None → Odd xs
    go true q e = clash cc
    go false q e = inr q
text_none nothing e = inl refl

bus_quoteless : (n : ℕ) → quoteless (bus_name n) ≡ true
bus_quoteless n = cond_both (ltb n 10) _ _ (λ (xs : List ℕ). quoteless xs ≡ true) (λ h. grind arith) (λ h. grind arith)

pub name_quoteless : (k : ℕ) → quoteless (column_name k) ≡ true
name_quoteless zero = refl
name_quoteless (suc zero) = refl
name_quoteless (suc (suc n)) = bus_quoteless (n + 1)

bus_some : (n : ℕ) → bytes_eq [] (bus_name n) ≡ false
bus_some n = cond_both (ltb n 10) _ _ (λ (xs : List ℕ). bytes_eq [] xs ≡ false) (λ h. refl) (λ h. refl)

pub name_some : (k : ℕ) → bytes_eq [] (column_name k) ≡ false
name_some zero = refl
name_some (suc zero) = refl
name_some (suc (suc n)) = bus_some (n + 1)

odd_name : (name xs : List ℕ) → bytes_eq [] name ≡ false → quoteless name ≡ true → Odd xs → bytes_eq xs name ≡ false
odd_name name xs some plain (inl e) = ap (λ t. bytes_eq t name) e ∙ some
odd_name name xs some plain (inr q) =
    ⊎_elim
    (λ t. absurd (both_ways _ q (ap quoteless ((bytes_eq-Decides xs name).0 t) ∙ plain)))
    (λ f. f)
    (cases_Bool (bytes_eq xs name))

-- whether a field is right as field k of a header, from whether its text is the name of column k
pub is_column : (most k : ℕ) (name : List ℕ) → bytes_eq [] name ≡ false → quoteless name ≡ true → (c : Content) (text : Option (Bor (List ℕ))) (right : Bool) (P : Bor (List ℕ) → Type 0) → option_map (λ x. x.now) text ≡ text_of c → ((x : Bor (List ℕ)) → P x → right ≡ ltb k most && bytes_eq x.now name) → MatchOption text (right ≡ false) P → right ≡ ltb k most && bytes_eq (held c) name
is_column most k name some plain c None right P e f m = m ∙ sym (and_right _ _ (odd_name name (held c) some plain (text_none c e)))
is_column most k name some plain c (Some x) right P e f m = f x m ∙ ap (λ t. ltb k most && bytes_eq t name) (sym (text_some c x.now e))

digit_quoteless : (b : ℕ) → digit b ≡ true → not (eqb b 0x22) ≡ true
digit_quoteless b h = grind arith

digits_quoteless : (xs : List ℕ) → digits xs ≡ true → quoteless xs ≡ true
digits_quoteless [] d = refl
digits_quoteless (x ∷ xs) d =
    let parts = and_parts (digit x) (digits xs) d in
    and_from _ _ (digit_quoteless x parts.0) (digits_quoteless xs parts.1)

both_quoteless : (xs ys : List ℕ) → quoteless xs ≡ true → quoteless ys ≡ true → quoteless (xs ++ ys) ≡ true
both_quoteless [] ys p q = q
both_quoteless (x ∷ xs) ys p q =
    let parts = and_parts (not (eqb x 0x22)) (quoteless xs) p in
    and_from _ _ parts.0 (both_quoteless xs ys parts.1 q)

pointed_quoteless : (xs : List ℕ) → digits xs ≡ true → quoteless (pointed xs) ≡ true
pointed_quoteless [] d = refl
pointed_quoteless (x ∷ xs) d = digits_quoteless (x ∷ xs) d

sign_quoteless : (minus : Bool) → quoteless (cond minus (0x2D ∷ []) []) ≡ true
sign_quoteless true = refl
sign_quoteless false = refl

written_quoteless : (places : ℕ) (d : Decimal) → Form places d → quoteless (written d) ≡ true
written_quoteless places d form =
    both_quoteless (cond d.minus (0x2D ∷ []) []) (d.whole ++ pointed d.fraction) (sign_quoteless d.minus)
    (both_quoteless d.whole (pointed d.fraction) (digits_quoteless d.whole form.whole) (pointed_quoteless d.fraction form.fraction))

written_some : (places : ℕ) (d : Decimal) → Form places d → 1 ≤ length (written d)
written_some places d form =
    let front = length-append (cond d.minus (0x2D ∷ []) []) (d.whole ++ pointed d.fraction) in
    let back = length-append d.whole (pointed d.fraction) in
    omega (arith, form.some)

-- an odd text passes no test that wants a byte and no quote
odd_never : (xs : List ℕ) → Odd xs → 1 ≤ length xs → quoteless xs ≡ true → ⊥
odd_never xs (inl e) l q = omega (arith, ap length e)
odd_never xs (inr f) l q = both_ways _ f q

pub odd_decimal : (places : ℕ) (xs : List ℕ) → Odd xs → decimal_of places xs ≡ None
odd_decimal places xs odd = go (decimal_of places xs) refl
  where
    go : (r : Option ℤ) → decimal_of places xs ≡ r → r ≡ None
    go None e = refl
    go (Some v) e =
        let found = value_reads places xs v e in
        absurd (odd_never xs odd (subst (λ t. 1 ≤ length t) found.2 (written_some places found.0 found.1)) (subst (λ t. quoteless t ≡ true) found.2 (written_quoteless places found.0 found.1)))
