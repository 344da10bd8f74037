-- The first entry of a list that is refused, and the marks of those listed.
use Rattle.std.proofs.Common.{◌≡◌, ℕ, zero, suc, ◌+◌, ◌-◌, ◌<◌, ◌≤◌, Bool, true, false, cond, not, ◌&&◌, eqb, leb, ◌⊎◌, List, [], ◌∷◌, ◌++◌, length, get_or, take, drop, set, replicate, ℤ, pos, nat_abs, Some, None, Option, sym, refl, ap, ◌∙◌, subst, inl, inr, add-one, arith}
use Rattle.std.proofs.lemmas.List.{get_or-set_same, get_or-set_other, get_or_past, get_or_append_left, get_or-append_right, get_or-drop, take_more}
use Rattle.std.proofs.lemmas.List.Sums.{fails_before_first, passes_at_first}
use Rattle.std.specs.List.{position, position_or_len}
use Rattle.std.proofs.lemmas.Bool.{cases_lt, cases_eq, cases_Bool, leb-true, lt-ltb, le-ltb, ltb-false, not-false, and_parts, eq-eqb, ne_eqb, cond-true, cond-false}
use Rattle.feeder.specs.Way.{is_in}
use Rattle.files.proofs.Bounds.{everywhere}
use Rattle.sources.specs.GridFacts.{within}
use Rattle.sources.specs.LineFacts.{AreStandings}
use Rattle.sources.specs.LineMaking.{first_at, misplaced, too_far, first_too_far, Marks, Copies}

-- the first that passes

pub first_none : (test : ℕ → Bool) → first_at 0 test ≡ None
unfolding first_at
first_none test = refl

first_suc_none : (i : ℕ) (test : ℕ → Bool) → first_at i test ≡ None → first_at (suc i) test ≡ cond (test i) (Some i) None
unfolding first_at
first_suc_none i test e = rw e refl

first_suc_some : (i n : ℕ) (test : ℕ → Bool) → first_at i test ≡ Some n → first_at (suc i) test ≡ Some n
unfolding first_at
first_suc_some i n test e = rw e refl

pub first_more : (i : ℕ) (test : ℕ → Bool) → first_at i test ≡ None → test i ≡ false → first_at (i + 1) test ≡ None
first_more i test e f = ap (λ k. first_at k test) (add-one i) ∙ first_suc_none i test e ∙ cond-false _ _ _ f

first_here : (i : ℕ) (test : ℕ → Bool) → first_at i test ≡ None → test i ≡ true → first_at (suc i) test ≡ Some i
first_here i test e t = first_suc_none i test e ∙ cond-true _ _ _ t

-- once found it stays
first_stays : (a b n : ℕ) (test : ℕ → Bool) → a ≤ b → first_at a test ≡ Some n → first_at b test ≡ Some n
first_stays a zero n test le e = ap (λ k. first_at k test) (omega arith) ∙ e
first_stays a (suc b) n test le e =
    elim (cases_eq a (suc b)) [
      | inl same ↦ ap (λ k. first_at k test) (sym same) ∙ e
      | inr other ↦ first_suc_some b n test (first_stays a b n test (omega arith) e)
    ]

pub first_found : (i count : ℕ) (test : ℕ → Bool) → i < count → first_at i test ≡ None → test i ≡ true → first_at count test ≡ Some i
first_found i count test lt e t = first_stays (suc i) count i test (omega arith) (first_here i test e t)

pub first_unpassed : (count : ℕ) (test : ℕ → Bool) → ((k : ℕ) → k < count → test k ≡ false) → first_at count test ≡ None
first_unpassed zero test h = first_none test
first_unpassed (suc k) test h = first_suc_none k test (first_unpassed k test (λ i lt. h i (omega arith))) ∙ cond-false _ _ _ (h k (omega arith))

-- the first entry that passes is at the list's own position
pub first_position : (p : ℤ → Bool) (xs : List ℤ) → first_at (length xs) (λ i. p (get_or xs i (pos 0))) ≡ position p xs
first_position p xs =
    elim (cases_lt at (length xs)) [
      | inl lt ↦ first_found at (length xs) test lt (first_unpassed at test (λ k h. fails_before_first p xs k (pos 0) h)) (passes_at_first p xs (pos 0) lt) ∙ sym (cond-true _ _ _ (lt-ltb at (length xs) lt))
      | inr past ↦ first_unpassed (length xs) test (λ k h. fails_before_first p xs k (pos 0) (omega arith)) ∙ sym (cond-false _ _ _ (le-ltb at (length xs) past))
    ]
  where
    at : ℕ
    at = position_or_len p xs

    test : ℕ → Bool
    test i = p (get_or xs i (pos 0))

first_before : (k : ℕ) (test : ℕ → Bool) → first_at (suc k) test ≡ None → (first_at k test ≡ None) × (test k ≡ false)
first_before k test e = elim (cases_none (first_at k test)) [
  | inl none ↦ (
    none,
    elim (cases_Bool (test k)) [
      | inl t ↦ absurd (let s = first_here k test none t in let z : ◌≡◌ {A = ℕ} 0 1 = cc in omega arith)
      | inr f ↦ f
    ],
  )
  | inr some ↦ absurd (let s = first_suc_some k some.0 test some.1 in let z : ◌≡◌ {A = ℕ} 0 1 = cc in omega arith)
]
  where
    cases_none : (o : Option ℕ) → (o ≡ None) ⊎ ((n : ℕ) × (o ≡ Some n))
    cases_none None = inl refl
    cases_none (Some n) = inr (n, refl)

pub first_fails : (count k : ℕ) (test : ℕ → Bool) → first_at count test ≡ None → k < count → test k ≡ false
first_fails zero k test e lt = absurd (omega arith)
first_fails (suc count) k test e lt =
    elim (cases_eq k count) [
      | inl same ↦ ap test same ∙ (first_before count test e).1
      | inr other ↦ first_fails count k test (first_before count test e).0 (omega arith)
    ]

-- marks

swap : (a b t : Bool) → cond a true (cond b true t) ≡ cond b true (cond a true t)
swap true true t = refl
swap true false t = refl
swap false true t = refl
swap false false t = refl

in_push : (xs : List ℕ) (b m : ℕ) → is_in (xs ++ b ∷ []) m ≡ cond (eqb m b) true (is_in xs m)
in_push [] b m = refl
in_push (x ∷ xs) b m = ap (cond (eqb m x) true) (in_push xs b m) ∙ swap (eqb m x) (eqb m b) (is_in xs m)

pub marks_none : (xs : List ℕ) → Marks (take 0 xs) (replicate 64 false)
marks_none xs m some few = everywhere 64 (m - 1) false

pub marks_more :
    (xs : List ℕ) (i : ℕ) (marks : List Bool) → i < length xs → 1 ≤ get_or xs i 0 → get_or xs i 0 ≤ 64 → length marks ≡ 64 →
    Marks (take i xs) marks → Marks (take (i + 1) xs) (set marks (get_or xs i 0 - 1) true)
marks_more xs i marks lt some few long h m m-some m-few =
    elim (cases_eq m b) [
      | inl same ↦ ap (λ j. get_or (set marks (b - 1) true) (j - 1) false) same ∙ get_or-set_same marks (b - 1) true false (omega arith) ∙ sym (listed ∙ cond-true _ _ _ (eq-eqb m b same))
      | inr other ↦ get_or-set_other marks (b - 1) (m - 1) true false (λ e. other (omega arith)) ∙ h m m-some m-few ∙ sym (listed ∙ cond-false _ _ _ (ne_eqb m b other))
    ]
  where
    b : ℕ
    b = get_or xs i 0

    listed : is_in (take (i + 1) xs) m ≡ cond (eqb m (get_or xs i 0)) true (is_in (take i xs) m)
    listed = ap (λ ys. is_in ys m) (take_more xs i 0 lt) ∙ in_push (take i xs) (get_or xs i 0) m

pub within_le : (last m : ℕ) → within last m ≡ true → (1 ≤ m) × (m ≤ last)
within_le last m e =
    let p = and_parts (leb 1 m) (leb m last) e in
    (leb-true 1 m p.0, leb-true m last p.1)

-- the marks tell a misplaced entry
pub misplaced_told :
    (last : ℕ) (xs : List ℕ) (i : ℕ) (marks : List Bool) → last ≤ 64 → Marks (take i xs) marks →
    not (within last (get_or xs i 0) && not (get_or marks (get_or xs i 0 - 1) false)) ≡ misplaced last xs i
misplaced_told last xs i marks few h =
    elim (cases_Bool (within last b)) [
      | inl t ↦ let p = within_le last b t in ap (λ q. not (within last b && not q)) (h b p.0 (omega (arith, p.1)))
      | inr f ↦ ap (λ q. not (q && not (get_or marks (b - 1) false))) f ∙ sym (ap (λ q. not (q && not (is_in (take i xs) b))) f)
    ]
  where
    b : ℕ
    b = get_or xs i 0

pub placed_entry : (last b : ℕ) (t : Bool) → not (within last b && t) ≡ false → (1 ≤ b) × (b ≤ last)
placed_entry last b t e = within_le last b (and_parts (within last b) t (not-false (within last b && t) e)).0

-- no entry before k is this, or one is

pub in_take : (xs : List ℕ) (i k : ℕ) → i < k → i < length xs → is_in (take k xs) (get_or xs i 0) ≡ true
in_take [] i k before lt = absurd (omega arith)
in_take (x ∷ xs) i zero before lt = absurd (omega arith)
in_take (x ∷ xs) zero (suc k) before lt = cond-true _ _ _ (eq-eqb x x refl)
in_take (x ∷ xs) (suc i) (suc k) before lt =
    elim (cases_Bool (eqb (get_or xs i 0) x)) [
      | inl t ↦ cond-true _ _ _ t
      | inr f ↦ cond-false _ _ _ f ∙ in_take xs i k (omega arith) (omega arith)
    ]

pub none_in_take : (xs : List ℕ) (k b : ℕ) → ((i : ℕ) → i < k → i < length xs → get_or xs i 0 ≡ b → ⊥) → is_in (take k xs) b ≡ false
none_in_take [] zero b h = refl
none_in_take [] (suc k) b h = refl
none_in_take (x ∷ xs) zero b h = refl
none_in_take (x ∷ xs) (suc k) b h =
    cond-false _ _ _ (ne_eqb b x (λ e. h 0 (omega arith) (omega arith) (sym e))) ∙
    none_in_take xs k b (λ i before lt e. h (suc i) (omega arith) (omega arith) e)

-- standing voltages

pub copies_before : (xs : List ℤ) (n : ℕ) → length xs ≡ n → Copies xs (xs ++ drop n (replicate 64 (pos 0)))
copies_before xs n long k =
    elim (cases_lt k (length xs)) [
      | inl under ↦ get_or_append_left xs (drop n (replicate 64 (pos 0))) (pos 0) k under
      | inr past ↦
          get_or-append_right xs (drop n (replicate 64 (pos 0))) n k (pos 0) long (omega (arith, long)) ∙ get_or-drop n (replicate 64 (pos 0)) (k - n) (pos 0) ∙
          everywhere 64 (n + (k - n)) (pos 0) ∙ sym (get_or_past xs k (pos 0) past)
    ]

pub copies_are_standings : (xs places : List ℤ) → first_too_far xs ≡ None → Copies xs places → AreStandings places
copies_are_standings xs places e h k = subst (λ z. nat_abs z ≤ 1000000000) (sym (h k)) (elim (cases_lt k (length xs)) [
  | inl under ↦ ltb-false 1000000000 (nat_abs (get_or xs k (pos 0))) (first_fails (length xs) k (too_far xs) e under)
  | inr past ↦ subst (λ z. nat_abs z ≤ 1000000000) (sym (get_or_past xs k (pos 0) past)) (omega arith)
])

pub zeros_are_standings : AreStandings (replicate 64 (pos 0))
zeros_are_standings k = subst (λ z. nat_abs z ≤ 1000000000) (sym (everywhere 64 k (pos 0))) (omega arith)
