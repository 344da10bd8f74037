-- Order along ways, over any parents: who lies on whose way, and where two ways meet. No resistance is named here.
use Rattle.std.proofs.Common.{◌≡◌, ℕ, zero, suc, ◌<◌, ◌≤◌, true, false, ◌⊎◌, List, [], ◌∷◌, length, sym, refl, ap, ◌∙◌, subst, inl, inr, ⊎_elim, arith}
use Rattle.std.proofs.lemmas.Bool.{cases_eq, cases_Bool, eq-eqb, ne_eqb, both_ways}
use Rattle.feeder.specs.Way.{Way, top, up, On, here, above, climb, is_in, shared, NoRepeats}

-- a bus has at most one way
pub way_unique : {p : ℕ → ℕ} {b : ℕ} {v w : List ℕ} → Way p b v → Way p b w → v ≡ w
way_unique top top = refl
way_unique top (up h y) = absurd (omega arith)
way_unique (up h x) top = absurd (omega arith)
way_unique (up {b = b} h x) (up k y) = ap (λ t. b ∷ t) (way_unique x y)

-- the way of a bus is the bus and the way of its parent
pub way_down : {p : ℕ → ℕ} {b : ℕ} {w : List ℕ} → Way p b w → 0 < b → (v : List ℕ) × Way p (p b) v × (w ≡ b ∷ v)
way_down top h = absurd (omega arith)
way_down (up {w = v} k y) h = (v, y, refl)

-- the substation lies on no way, and nothing lies on its way
pub on_pos : {p : ℕ → ℕ} {c b : ℕ} → On p c b → 0 < c
on_pos (here h) = h
on_pos (above h o) = on_pos o

pub on_below : {p : ℕ → ℕ} {c b : ℕ} → On p c b → 0 < b
on_below (here h) = h
on_below (above h o) = h

pub on_trans : {p : ℕ → ℕ} {c b a : ℕ} → On p c b → On p b a → On p c a
on_trans o (here h) = o
on_trans o (above h u) = above h (on_trans o u)

-- of two buses on one way, one lies on the other's way
pub on_chain : {p : ℕ → ℕ} {c d b : ℕ} → On p c b → On p d b → On p c d ⊎ On p d c
on_chain (here h) u = inr u
on_chain (above h o) (here k) = inl (above h o)
on_chain (above h o) (above k u) = on_chain o u

-- a bus on the way of b is b, or lies on the way of its parent
pub on_step : {p : ℕ → ℕ} {c b : ℕ} → On p c b → (c ≡ b) ⊎ On p c (p b)
on_step (here h) = inl refl
on_step (above h o) = inr o

-- a bus on the way of b is b, or the parent of one on that way
pub on_child : {p : ℕ → ℕ} {c b : ℕ} → On p c b → (c ≡ b) ⊎ ((a : ℕ) × (p a ≡ c) × On p a b)
on_child (here h) = inl refl
on_child (above {b = b} h o) = inr (⊎_elim (λ e. (b, sym e, here h)) (λ t. (t.0, t.1, above h t.2)) (on_child o))

-- where parents are at most B, so is what lies on the way of a bus up to B
pub on_small : {p : ℕ → ℕ} {c b : ℕ} (B : ℕ) → ((a : ℕ) → 0 < a → a ≤ B → p a ≤ B) → On p c b → b ≤ B → c ≤ B
on_small B small (here h) l = l
on_small B small (above {b = b} h o) l = on_small B small o (small b h l)

-- what stands in the list of a way lies on it
pub in_on : {p : ℕ → ℕ} {b : ℕ} {w : List ℕ} → Way p b w → (c : ℕ) → is_in w c ≡ true → On p c b
in_on top c e = absurd (both_ways false refl e)
in_on {p} (up {b = b} {w = w} h x) c e = ⊎_elim (λ q. subst (λ t. On p t b) (sym q) (here h)) (λ q. above h (in_on x c (rw (ne_eqb c b q) at e))) (cases_eq c b)

pub on_in : {p : ℕ → ℕ} {b : ℕ} {w : List ℕ} → Way p b w → (c : ℕ) → On p c b → is_in w c ≡ true
on_in top c o = absurd (omega (arith, on_below o))
on_in {p} (up {b = b} {w = w} h x) c o = go (λ u. on_in x c u) (on_step o) (cases_eq c b)
  where
    go : (On p c (p b) → is_in w c ≡ true) → (c ≡ b) ⊎ On p c (p b) → (c ≡ b) ⊎ (c ≡ b → ⊥) → is_in (b ∷ w) c ≡ true
    go f s (inl q) = rw (eq-eqb c b q)
    go f (inl q) (inr n) = absurd (n q)
    go f (inr u) (inr n) = rw (ne_eqb c b n) (f u)

-- climbing as many lines as a way has gives the way
pub climb_way : {p : ℕ → ℕ} {b : ℕ} {w : List ℕ} → Way p b w → (k : ℕ) → length w ≤ k → climb k p b ≡ w
climb_way top zero l = refl
climb_way top (suc k) l = refl
climb_way (up h x) zero l = absurd (omega arith)
climb_way {p} (up {b = b} {w = w} h x) (suc k) l = rw (ne_eqb b 0 (λ e. omega arith)) (ap (λ t. b ∷ t) (climb_way x k (omega arith)))

-- the ways of all buses, given
module _ {p : ℕ → ℕ} {way : ℕ → List ℕ} (is_way : (b : ℕ) → Way p b (way b)) where
  -- what holds of 0, and of a bus if of its parent, holds of each bus
  pub climbing : (P : ℕ → Type 0) → P 0 → ((b : ℕ) → 0 < b → P (p b) → P b) → (b : ℕ) → P b
  climbing P base step b = go (is_way b)
    where
      go : {a : ℕ} {w : List ℕ} → Way p a w → P a
      go top = base
      go (up {b = a} h x) = step a h (go x)

  pub way_top : way 0 ≡ []
  way_top = way_unique (is_way 0) top

  pub way_up : (b : ℕ) → 0 < b → way b ≡ b ∷ way (p b)
  way_up b h = way_unique (is_way b) (up h (is_way (p b)))

  way_length : (b : ℕ) → 0 < b → length (way b) ≡ suc (length (way (p b)))
  way_length b h = ap length (way_up b h)

  -- a bus on the way of another has a way no longer
  pub on_length : {c b : ℕ} → On p c b → length (way c) ≤ length (way b)
  on_length (here h) = omega arith
  on_length (above {b = b} h o) = omega (arith, on_length o, way_length b h)

  -- no bus lies on its parent's way
  pub not_above : (b : ℕ) → 0 < b → On p b (p b) → ⊥
  not_above b h o = omega (arith, on_length o, way_length b h)

  -- two buses that lie on each other's ways are one
  pub on_antisym : {a b : ℕ} → On p a b → On p b a → a ≡ b
  on_antisym {a} {b} o u = ⊎_elim (λ e. e) (λ v. absurd (omega (arith, on_length v, on_length u, way_length b (on_below o)))) (on_step o)

  pub dec_on : (c b : ℕ) → On p c b ⊎ (On p c b → ⊥)
  dec_on c b = ⊎_elim (λ e. inl (in_on (is_way b) c e)) (λ e. inr (λ o. both_ways _ e (on_in (is_way b) c o))) (cases_Bool (is_in (way b) c))

  pub not_in : (c b : ℕ) → (On p c b → ⊥) → is_in (way b) c ≡ false
  not_in c b z = ⊎_elim (λ e. absurd (z (in_on (is_way b) c e))) (λ e. e) (cases_Bool (is_in (way b) c))

  -- no bus stands twice on a way
  pub no_repeats : (b : ℕ) → NoRepeats (way b)
  no_repeats = climbing (λ b. NoRepeats (way b)) (rw way_top tt) (λ b h ih. rw (way_up b h) (not_in b (p b) (not_above b h), ih))

  -- a way that lies on the way of m is shared with it whole
  shared_whole : {a : ℕ} {w : List ℕ} (m : ℕ) → Way p a w → (a ≡ 0) ⊎ On p a m → shared w (way m) ≡ w
  shared_whole m top h = refl
  shared_whole m (up {b = a} {w = w} h x) s = go (shared_whole m x (parent (cases_eq (p a) 0))) s
    where
      parent : (p a ≡ 0) ⊎ (p a ≡ 0 → ⊥) → (p a ≡ 0) ⊎ On p (p a) m
      parent (inl e) = inl e
      parent (inr e) = ⊎_elim (λ z. absurd (omega arith)) (λ o. inr (on_trans (above h (here (omega arith))) o)) s

      go : shared w (way m) ≡ w → (a ≡ 0) ⊎ On p a m → shared (a ∷ w) (way m) ≡ a ∷ w
      go ih (inl z) = absurd (omega arith)
      go ih (inr o) = rw (on_in (is_way m) a o) (ap (λ t. a ∷ t) ih)

  -- a bus that lies on its own way only shares with m what its parent shares
  pub shared_up : (n m : ℕ) → 0 < n → (On p n m → ⊥) → shared (way n) (way m) ≡ shared (way (p n)) (way m)
  shared_up n m h z = rw (way_up n h, not_in n m z)

  pub shared_own : (m : ℕ) → shared (way m) (way m) ≡ way m
  shared_own m = ⊎_elim (λ e. shared_whole m (is_way m) (inl e)) (λ z. shared_whole m (is_way m) (inr (here (omega arith)))) (cases_eq m 0)

  -- q is the meet of n and m: the lowest bus on both ways, or 0 where there is none; what they share is its way
  pub record Meet (n m q : ℕ) : Type 0 where
    pub both : (q ≡ 0) ⊎ (On p q n × On p q m)
    pub lowest : (c : ℕ) → On p c n → On p c m → On p c q
    pub common : shared (way n) (way m) ≡ way q

  pub meet : (n m : ℕ) → (q : ℕ) × Meet n m q
  meet n m = climbing (λ n. (q : ℕ) × Meet n m q) base step n
    where
      base : (q : ℕ) × Meet 0 m q
      base = (0, record { both = inl refl; lowest = λ c o u. o; common = rw way_top })

      step : (n : ℕ) → 0 < n → (q : ℕ) × Meet (p n) m q → (q : ℕ) × Meet n m q
      step n h (q, ih) = ⊎_elim yes_on no_on (dec_on n m)
        where
          yes_on : On p n m → (q : ℕ) × Meet n m q
          yes_on o = (n, record { both = inr (here h, o); lowest = λ c a b. a; common = shared_whole m (is_way n) (inr o) })

          no_on : (On p n m → ⊥) → (q : ℕ) × Meet n m q
          no_on z = (q, record { both = ⊎_elim inl (λ t. inr (above h t.0, t.1)) ih.both; lowest = λ c a b. ⊎_elim (λ e. absurd (z (subst (λ t. On p t m) e b))) (λ u. ih.lowest c u b) (on_step a); common = shared_up n m h z ∙ ih.common })

  -- the meet of n and m is the meet of m and n
  pub meet_sym : {n m q s : ℕ} → Meet n m q → Meet m n s → q ≡ s
  meet_sym {n} {m} {q} {s} k l = go k.both l.both
    where
      go : (q ≡ 0) ⊎ (On p q n × On p q m) → (s ≡ 0) ⊎ (On p s m × On p s n) → q ≡ s
      go (inl e) (inl d) = e ∙ sym d
      go (inl e) (inr u) = absurd (omega (arith, on_below (k.lowest s u.1 u.0)))
      go (inr t) (inl d) = absurd (omega (arith, on_below (l.lowest q t.1 t.0)))
      go (inr t) (inr u) = on_antisym (l.lowest q t.1 t.0) (k.lowest s u.1 u.0)

  pub shared_sym : (n m : ℕ) → shared (way n) (way m) ≡ shared (way m) (way n)
  shared_sym n m = let k = (meet n m).1 in let l = (meet m n).1 in k.common ∙ ap way (meet_sym k l) ∙ sym l.common
