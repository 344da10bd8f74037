-- A decimal is below 0 exactly when its minus is there and some digit is not 0.
use Rattle.std.proofs.Common.{◌≡◌, ℕ, ◌+◌, ◌-◌, ◌*◌, ◌^◌, ◌<◌, Bool, true, false, cond, eqb, ◌⊎◌, List, [], ◌∷◌, ◌++◌, length, pos, neg_ℤ, ◌<ℤ◌, fold, sym, refl, ap, ◌∙◌, subst, inl, inr, ⊎_elim, mul-pos, arith}
use native.Mathlib.Nat.{one-le-pow}
use Rattle.std.proofs.lemmas.Bool.{eqb-true, and_parts, cases_Bool}
use Rattle.std.proofs.lemmas.Int.{ints}
use Rattle.units.specs.Decimals.{digit, digits, push, number, nonzero, Decimal, Form, size, Sign}

-- a number stays above 0 with more digits behind it
stays_above : (a : ℕ) (xs : List ℕ) → 0 < a → 0 < fold push a xs
stays_above a [] h = h
stays_above a (x ∷ xs) h = stays_above (push a x) xs (omega arith)

not_zero : (b : ℕ) → digit b ≡ true → eqb b 0x30 ≡ false → 0 < push 0 b
not_zero b d e = grind arith

above : (xs : List ℕ) → digits xs ≡ true → nonzero xs ≡ true → 0 < number xs
above [] d h = absurd (let z : ◌≡◌ {A = ℕ} 0 1 = cc in omega arith)
above (x ∷ xs) d h = go (above xs (and_parts (digit x) (digits xs) d).1) (eqb x 0x30) refl h
  where
    go : (nonzero xs ≡ true → 0 < number xs) → (t : Bool) → eqb x 0x30 ≡ t → cond t (nonzero xs) true ≡ true → 0 < fold push (push 0 x) xs
    go ih true e h =
        let none : push 0 x ≡ 0 = omega (arith, eqb-true x 0x30 e) in
        subst (λ n. 0 < fold push n xs) (sym none) (ih h)
    go ih false e h = stays_above (push 0 x) xs (not_zero x (and_parts (digit x) (digits xs) d).0 e)

zeros : (xs : List ℕ) → nonzero xs ≡ false → number xs ≡ 0
zeros [] h = refl
zeros (x ∷ xs) h = go (zeros xs) (eqb x 0x30) refl h
  where
    go : (nonzero xs ≡ false → number xs ≡ 0) → (t : Bool) → eqb x 0x30 ≡ t → cond t (nonzero xs) true ≡ false → fold push (push 0 x) xs ≡ 0
    go ih true e h =
        let none : push 0 x ≡ 0 = omega (arith, eqb-true x 0x30 e) in
        ap (λ n. fold push n xs) none ∙ ih h
    go ih false e h = absurd (let z : ◌≡◌ {A = ℕ} 0 1 = cc in omega arith)

-- some digit of two parts is not 0 where one of either is
either : (xs ys : List ℕ) → nonzero (xs ++ ys) ≡ true → (nonzero xs ≡ true) ⊎ (nonzero ys ≡ true)
either [] ys h = inr h
either (x ∷ xs) ys h = go (either xs ys) (eqb x 0x30) h
  where
    go : (nonzero (xs ++ ys) ≡ true → (nonzero xs ≡ true) ⊎ (nonzero ys ≡ true)) → (t : Bool) → cond t (nonzero (xs ++ ys)) true ≡ true → (cond t (nonzero xs) true ≡ true) ⊎ (nonzero ys ≡ true)
    go ih true h = ih h
    go ih false h = inl refl

neither : (xs ys : List ℕ) → nonzero (xs ++ ys) ≡ false → (nonzero xs ≡ false) × (nonzero ys ≡ false)
neither [] ys h = (refl, h)
neither (x ∷ xs) ys h = go (neither xs ys) (eqb x 0x30) h
  where
    go : (nonzero (xs ++ ys) ≡ false → (nonzero xs ≡ false) × (nonzero ys ≡ false)) → (t : Bool) → cond t (nonzero (xs ++ ys)) true ≡ false → (cond t (nonzero xs) true ≡ false) × (nonzero ys ≡ false)
    go ih true h = ih h
    go ih false h = absurd (let z : ◌≡◌ {A = ℕ} 0 1 = cc in omega arith)

times_above : (a k : ℕ) → 0 < a → 0 < a * 10 ^ k
times_above a k h = mul-pos h (one-le-pow k 10 (omega arith))

size_above : (places : ℕ) (d : Decimal) → Form places d → nonzero (d.whole ++ d.fraction) ≡ true → 0 < size places d
size_above places d form h =
    ⊎_elim
    (λ w. omega (arith, times_above (number d.whole) places (above d.whole form.whole w)))
    (λ f. omega (arith, times_above (number d.fraction) (places - length d.fraction) (above d.fraction form.fraction f)))
    (either d.whole d.fraction h)

size_zero : (places : ℕ) (d : Decimal) → nonzero (d.whole ++ d.fraction) ≡ false → size places d ≡ 0
size_zero places d h =
    let none = neither d.whole d.fraction h in
    ap (λ w. w * 10 ^ places + number d.fraction * 10 ^ (places - length d.fraction)) (zeros d.whole none.0) ∙
    ap (λ f. 0 * 10 ^ places + f * 10 ^ (places - length d.fraction)) (zeros d.fraction none.1) ∙ omega arith

below_zero : (minus : Bool) (n : ℕ) → cond minus (neg_ℤ (pos n)) (pos n) <ℤ pos 0 → (minus ≡ true) × (0 < n)
below_zero true n h = (refl, omega (arith, ints))
below_zero false n h = absurd (omega (arith, ints))

zero_below : (n : ℕ) → 0 < n → neg_ℤ (pos n) <ℤ pos 0
zero_below n h = omega (arith, ints)

pub signs : (places : ℕ) (d : Decimal) → Form places d → Sign places d
signs places d form =
    record {
      below = λ h. let b = below_zero d.minus (size places d) h in (b.0, ⊎_elim (λ e. e) (λ e. absurd (omega (arith, b.1, size_zero places d e))) (cases_Bool (nonzero (d.whole ++ d.fraction))));
      only = λ minus some. subst (λ (t : Bool). cond t (neg_ℤ (pos (size places d))) (pos (size places d)) <ℤ pos 0) (sym minus) (zero_below (size places d) (size_above places d form some));
    }
