-- A response times its step is the change.
use Rattle.std.proofs.Common.{◌≡◌, ℕ, zero, suc, ◌*◌, ◌<◌, ◌/◌, ◌%◌, Bool, true, false, cond, ◌&&◌, eqb, leb, ◌≢◌, ℤ, pos, negsuc, ◌*ℤ◌, neg_ℤ, nat_abs, Some, None, Option, sym, refl, ap, ◌∙◌, mul-div_cancel, mul-pos, arith}
use native.Mathlib.Nat.{mul-mod_left}
use lib.Signed.{quot_z, rem_z}
use Rattle.std.proofs.lemmas.Bool.{eqb-true, eq-eqb, ne_eqb, leb-true, le-leb, and_parts, and_from, cond-false, both_ways}
use Rattle.std.proofs.lemmas.Int.{ints, quot-rem, unsigned_abs-mul}
use Rattle.units.specs.Quotients.{Divides, response_of}

abs_neg : (n : ℕ) → nat_abs (neg_ℤ (pos n)) ≡ n
abs_neg zero = refl
abs_neg (suc n) = refl

pub abs_quotient : (a b : ℤ) → nat_abs (quot_z a b) ≡ nat_abs a / nat_abs b
abs_quotient (pos a) (pos b) = refl
abs_quotient (pos a) (negsuc b) = abs_neg (a / suc b)
abs_quotient (negsuc a) (pos b) = abs_neg (suc a / b)
abs_quotient (negsuc a) (negsuc b) = refl

pub abs_remainder : (a b : ℤ) → nat_abs (rem_z a b) ≡ nat_abs a % nat_abs b
abs_remainder (pos a) b = refl
abs_remainder (negsuc a) b = abs_neg (suc a % nat_abs b)

abs_zero : (z : ℤ) → nat_abs z ≡ 0 → z ≡ pos 0
abs_zero (pos n) h = ap pos h
abs_zero (negsuc n) h = absurd (omega arith)

-- a division without remainder is undone by the product
undone : (a b : ℤ) → nat_abs (rem_z a b) ≡ 0 → quot_z a b *ℤ b ≡ a
undone a b h = omega (arith, ints, quot-rem a b, abs_zero (rem_z a b) h)

-- a product is divided without remainder, by its factor
pub divides : (change step : ℤ) → (step ≡ pos 0 → ⊥) → Divides change step (response_of change step)
divides change step some = go (response_of change step) refl
  where
    nonzero : nat_abs step ≢ 0
    nonzero e = some (abs_zero step e)

    test : Bool
    test = eqb (nat_abs (rem_z change step)) 0 && leb (nat_abs (quot_z change step)) 1000000

    skip : response_of change step ≡ cond test (Some (quot_z change step)) None
    skip = cond-false _ _ _ (ne_eqb (nat_abs step) 0 nonzero)

    taken : (t : Bool) → test ≡ t → (r : Option ℤ) → cond t (Some (quot_z change step)) None ≡ r → Divides change step r
    taken true e (Some q) h =
        let same : q ≡ quot_z change step = cc in
        let parts = and_parts (eqb (nat_abs (rem_z change step)) 0) (leb (nat_abs (quot_z change step)) 1000000) e in
        (ap (λ k. k *ℤ step) same ∙ undone change step (eqb-true _ 0 parts.0), omega (arith, ap nat_abs same, leb-true (nat_abs (quot_z change step)) 1000000 parts.1))
    taken true e None h = absurd (let z : ◌≡◌ {A = ℕ} 0 1 = cc in omega arith)
    taken false e (Some q) h = absurd (let z : ◌≡◌ {A = ℕ} 0 1 = cc in omega arith)
    taken false e None h = λ q small product.
        let sizes = sym (ap nat_abs product) ∙ unsigned_abs-mul q step in
        let rem : nat_abs (rem_z change step) ≡ 0 = abs_remainder change step ∙ ap (λ n. n % nat_abs step) sizes ∙ mul-mod_left (nat_abs q) (nat_abs step) in
        let quot : nat_abs (quot_z change step) ≡ nat_abs q = abs_quotient change step ∙ ap (λ n. n / nat_abs step) sizes ∙ mul-div_cancel (nat_abs q) (omega (arith, nonzero)) in
        both_ways test e (and_from _ _ (eq-eqb _ 0 rem) (le-leb _ 1000000 (omega arith)))

    go : (r : Option ℤ) → response_of change step ≡ r → Divides change step r
    go r e = taken test refl r (sym skip ∙ e)

-- A change is one response alone times the step.

-- only 0 is its own opposite
opposite : (n : ℕ) → pos n ≡ neg_ℤ (pos n) → n ≡ 0
opposite zero e = refl
opposite (suc n) e = absurd (let z : ◌≡◌ {A = ℕ} 0 1 = cc in omega arith)

-- opposite factors give different products
unlike : (n : ℕ) (step : ℤ) → nat_abs step ≢ 0 → pos (suc n) *ℤ step ≡ negsuc n *ℤ step → ⊥
unlike n (pos b) some e = let none = opposite (suc n * b) e in let more = mul-pos {m = suc n} {n = b} (omega arith) (omega arith) in omega arith
unlike n (negsuc b) some e = let none = opposite (suc n * suc b) (sym e) in let more = mul-pos {m = suc n} {n = suc b} (omega arith) (omega arith) in omega arith

-- a factor that is not 0 cancels
factor : (p q step : ℤ) → nat_abs step ≢ 0 → p *ℤ step ≡ q *ℤ step → p ≡ q
factor p q step some e = go p q e sizes
  where
    sizes : nat_abs p ≡ nat_abs q
    sizes =
        let more : 0 < nat_abs step = omega (arith, some) in
        sym (mul-div_cancel (nat_abs p) more) ∙ ap (λ n. n / nat_abs step) (sym (unsigned_abs-mul p step) ∙ ap nat_abs e ∙ unsigned_abs-mul q step) ∙ mul-div_cancel (nat_abs q) more

    go : (p q : ℤ) → p *ℤ step ≡ q *ℤ step → nat_abs p ≡ nat_abs q → p ≡ q
    go (pos m) (pos n) e s = ap pos s
    go (pos m) (negsuc n) e s = absurd (unlike n step some (ap (λ k. pos k *ℤ step) (sym s) ∙ e))
    go (negsuc m) (pos n) e s = absurd (unlike m step some (ap (λ k. pos k *ℤ step) s ∙ sym e))
    go (negsuc m) (negsuc n) e s = ap negsuc (omega arith)

pub divides_unique : (change step : ℤ) → (step ≡ pos 0 → ⊥) → (a b : Option ℤ) → Divides change step a → Divides change step b → a ≡ b
divides_unique change step some (Some p) (Some q) (product, small) (same, moderate) =
    ap Some (factor p q step (λ e. some (abs_zero step e)) (product ∙ sym same))
divides_unique change step some (Some p) None (product, small) none = absurd (none p small product)
divides_unique change step some None (Some q) none (product, small) = absurd (none q small product)
divides_unique change step some None None p q = refl
