-- The pigeonhole: a list without repeats of numbers 1 to B has at most B elements, and with B elements it has them all.
use Rattle.std.proofs.Common.{◌≡◌, ℕ, zero, suc, ◌<◌, ◌≤◌, true, false, eqb, ◌⊎◌, List, [], ◌∷◌, length, sym, refl, ap, inl, inr, ⊎_elim, arith}
use Rattle.std.proofs.lemmas.Bool.{cases_eq, cases_Bool, eq-eqb, ne_eqb, both_ways}
use Rattle.std.proofs.lemmas.Map.Steps.{length-le_from_distinct_below}
use Rattle.std.specs.List.{list_any, AllByRecursion, IsDistinct}
use Rattle.feeder.specs.Way.{is_in, NoRepeats}

-- each number of the list is one of 1 to B
abbrev pub Within : ℕ → List ℕ → Type 0
Within B xs = (c : ℕ) → is_in xs c ≡ true → (0 < c) × (c ≤ B)

-- a test of membership in a list of one more, by cases
pub in_cons : (x : ℕ) (xs : List ℕ) (c : ℕ) → is_in (x ∷ xs) c ≡ true → (c ≡ x) ⊎ (is_in xs c ≡ true)
in_cons x xs c e = ⊎_elim inl (λ z. inr (rw (ne_eqb c x z) at e)) (cases_eq c x)

-- what std's test of membership finds is there
any_in : (xs : List ℕ) (c : ℕ) → list_any (eqb c) xs ≡ true → is_in xs c ≡ true
any_in [] c e = e
any_in (x ∷ xs) c e = ⊎_elim (λ q. rw (eq-eqb c x q)) (λ z. rw (ne_eqb c x z) (any_in xs c (rw (ne_eqb c x z) at e))) (cases_eq c x)

apart : (x : ℕ) (xs : List ℕ) → is_in xs x ≡ false → AllByRecursion (λ y. eqb x y ≡ false) xs
apart x [] e = tt
apart x (y ∷ ys) e = ⊎_elim (λ q. absurd (both_ways true (rw (eq-eqb x y q) at e) refl)) (λ z. (ne_eqb x y z, apart x ys (rw (ne_eqb x y z) at e))) (cases_eq x y)

-- a list without repeats is distinct in std's sense
distinct : (xs : List ℕ) → NoRepeats xs → IsDistinct eqb xs
unfolding IsDistinct
distinct [] n = tt
distinct (x ∷ xs) n = (apart x xs n.0, distinct xs n.1)

-- at most as many as there are numbers: with 0 before it, the list has numbers below B + 1
pub at_most : (B : ℕ) (xs : List ℕ) → NoRepeats xs → Within B xs → length xs ≤ B
at_most B xs n h = omega (arith, length-le_from_distinct_below (0 ∷ xs) (suc B) (distinct (0 ∷ xs) (no_zero, n)) below)
  where
    no_zero : is_in xs 0 ≡ false
    no_zero = ⊎_elim (λ e. absurd (omega (arith, h 0 e))) (λ e. e) (cases_Bool (is_in xs 0))

    below : (c : ℕ) → list_any (eqb c) (0 ∷ xs) ≡ true → c < suc B
    below c e = ⊎_elim (λ q. omega arith) (λ u. omega (arith, h c u)) (in_cons 0 xs c (any_in (0 ∷ xs) c e))

-- as many as there are numbers: each is there
pub has_all : (B : ℕ) (xs : List ℕ) → NoRepeats xs → Within B xs → B ≤ length xs → (c : ℕ) → 0 < c → c ≤ B → is_in xs c ≡ true
has_all B xs n h k c a b = ⊎_elim (λ e. e) missing (cases_Bool (is_in xs c))
  where
    missing : is_in xs c ≡ false → is_in xs c ≡ true
    missing e = absurd (omega (arith, at_most B (c ∷ xs) (e, n) (λ d u. ⊎_elim (λ q. omega arith) (h d) (in_cons c xs d u))))

-- f takes the numbers 1 to m into 1 to n, no two to one
pub record Into (f : ℕ → ℕ) (m n : ℕ) : Type 0 where
  pub inside : (x : ℕ) → 0 < x → x ≤ m → (0 < f x) × (f x ≤ n)
  pub apart : (x y : ℕ) → 0 < x → x ≤ m → 0 < y → y ≤ m → f x ≡ f y → x ≡ y

-- the values of f at m down to 1
images : (ℕ → ℕ) → ℕ → List ℕ
images f zero = []
images f (suc m) = f (suc m) ∷ images f m

module _ (f : ℕ → ℕ) where
  length_images : (m : ℕ) → length (images f m) ≡ m
  unfolding images
  length_images zero = refl
  length_images (suc m) = ap suc (length_images m)

  in_images : (m c : ℕ) → is_in (images f m) c ≡ true → (x : ℕ) × (0 < x) × (x ≤ m) × (f x ≡ c)
  unfolding images
  in_images zero c e = absurd (both_ways false refl e)
  in_images (suc m) c e = ⊎_elim (λ q. (suc m, omega arith, omega arith, sym q)) (λ u. let t = in_images m c u in (t.0, t.1, omega (arith, t.2), t.3)) (in_cons (f (suc m)) (images f m) c e)

  images_differ : (m : ℕ) → ((x y : ℕ) → 0 < x → x ≤ m → 0 < y → y ≤ m → f x ≡ f y → x ≡ y) → NoRepeats (images f m)
  unfolding images
  images_differ zero h = tt
  images_differ (suc m) h = (⊎_elim (λ e. absurd (again e)) (λ e. e) (cases_Bool (is_in (images f m) (f (suc m)))), images_differ m (λ x y a b c d e. h x y a (omega arith) c (omega arith) e))
    where
      again : is_in (images f m) (f (suc m)) ≡ true → ⊥
      again e = let t = in_images m (f (suc m)) e in omega (arith, t.2, h t.0 (suc m) t.1 (omega (arith, t.2)) (omega arith) (omega arith) t.3)

  module _ (m n : ℕ) (h : Into f m n) where
    images_within : Within n (images f m)
    images_within c e = let t = in_images m c e in let k = h.inside t.0 t.1 t.2 in (omega (arith, k.0, t.3), omega (arith, k.1, t.3))

    -- there are at least as many to take
    pub into_le : m ≤ n
    into_le = omega (arith, length_images m, at_most n (images f m) (images_differ m h.apart) images_within)

    -- as many as there are: each is taken
    pub onto : n ≤ m → (c : ℕ) → 0 < c → c ≤ n → (x : ℕ) × (0 < x) × (x ≤ m) × (f x ≡ c)
    onto l c a b = in_images m c (has_all n (images f m) (images_differ m h.apart) images_within (omega (arith, length_images m)) c a b)
