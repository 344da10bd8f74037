-- Bytes between quotes that hold no quote stand in the file just so.
use Rattle.std.proofs.Common.{◌≡◌, ℕ, Bool, true, false, cond, not, ◌&&◌, ◌||◌, ◌==◌, eqb, List, [], ◌∷◌, Some, None, Bor, sym, refl, ap, ◌∙◌, arith}
use Rattle.std.specs.Bool.{then_some}
use Rattle.std.specs.List.{list_any}
use Rattle.std.specs.Option.{option_map}
use Rattle.rfc4180.specs.Reading.{undoubled}
use Rattle.rfc4180.specs.Places.{quotedly}
use Rattle.rfc4180.specs.Views.{quoteless, text_of}

step : (x y : ℕ) (ys : List ℕ) (b : Bool) → eqb x 0x22 ≡ b → quoteless (undoubled (y ∷ ys)) ≡ quoteless (y ∷ ys) →
    quoteless (cond b (x ∷ undoubled ys) (x ∷ undoubled (y ∷ ys))) ≡ (not b && quoteless (y ∷ ys))
step x y ys true e ih = ap (λ (t : Bool). not t && quoteless (undoubled ys)) e
step x y ys false e ih = ap (λ (t : Bool). not t && quoteless (undoubled (y ∷ ys))) e ∙ ih

-- making pairs of quotes one neither brings a quote nor takes the last away
pub same_quotes : (xs : List ℕ) → quoteless (undoubled xs) ≡ quoteless xs
same_quotes [] = refl
same_quotes (x ∷ []) = refl
same_quotes (x ∷ y ∷ ys) = step x y ys (eqb x 0x22) refl (same_quotes (y ∷ ys))

whole : (x y : ℕ) (ys : List ℕ) (b : Bool) → (not b && quoteless (y ∷ ys)) ≡ true → (quoteless (y ∷ ys) ≡ true → undoubled (y ∷ ys) ≡ y ∷ ys) →
    cond b (x ∷ undoubled ys) (x ∷ undoubled (y ∷ ys)) ≡ x ∷ y ∷ ys
whole x y ys true h ih = absurd (let z : ◌≡◌ {A = Bool} false true = h in let w : ◌≡◌ {A = ℕ} 0 1 = cc in omega arith)
whole x y ys false h ih = ap (λ t. x ∷ t) (ih h)

pub undoubled_same : (xs : List ℕ) → quoteless xs ≡ true → undoubled xs ≡ xs
undoubled_same [] h = refl
undoubled_same (x ∷ []) h = refl
undoubled_same (x ∷ y ∷ ys) h = whole x y ys (eqb x 0x22) h (undoubled_same (y ∷ ys))

pub quote_found : (xs : List ℕ) → list_any (λ b. b == 0x22) xs ≡ not (quoteless xs)
quote_found [] = refl
quote_found (x ∷ xs) = elim (x == 0x22) as (λ b. (b || list_any (λ b. b == 0x22) xs) ≡ not (not b && quoteless xs)) [ true ↦ refl | false ↦ quote_found xs ]

-- what a quoted field holds, from its bytes as written
quoted_text : (raw : List ℕ) (b : Bool) → quoteless raw ≡ b → text_of (quotedly (undoubled raw)) ≡ cond b (Some raw) None
quoted_text raw true e = ap (λ (t : Bool). cond t (Some (undoubled raw)) None) (same_quotes raw ∙ e) ∙ ap Some (undoubled_same raw e)
quoted_text raw false e = ap (λ (t : Bool). cond t (Some (undoubled raw)) None) (same_quotes raw ∙ e)

-- the bytes of a quoted field are its text where no quote is among them
pub text_quoted : (bytes : Bor (List ℕ)) (found : Bool) → found ≡ not (quoteless bytes.now) → option_map (λ x. x.now) (then_some (not found) bytes) ≡ text_of (quotedly (undoubled bytes.now))
text_quoted bytes true h = sym (quoted_text bytes.now false (grind arith))
text_quoted bytes false h = sym (quoted_text bytes.now true (grind arith))
