-- What `all`, `any`, `find` and `find_map` over `a..=b` tell of its numbers, where the calls leave the closure as it was.
use Rattle.std.proofs.Common.{◌≡◌, ℕ, ◌+◌, ◌-◌, ◌<◌, ◌≤◌, Bool, true, false, [], Some, None, Option, sym, ap, refl, ◌∙◌, subst, arith}
use Rattle.std.proofs.lemmas.Bool.{false≢true}
use Rattle.std.proofs.lemmas.Option.{same_Some}
use Rattle.std.specs.Bool.{IsTrue, Decides, MatchBool}
use Rattle.std.specs.Fn.{Called, CalledAt}
use Rattle.std.specs.Iterator.Runs.{Run, SomeRun, CallKeepsClosure, AllItemsGive, AnyItemGives, IsFirstToGive, NoItemPasses, EndsAtFirstPassing}
use Rattle.std.specs.Option.{MatchOption, IfSome, IsSomeAnd, option_map}
use Rattle.std.specs.Range.{range_inclusive_start, range_inclusive_end, range_inclusive_exhausted}
use Rattle.std.specs.declared.ops.RangeInclusive.{RangeInclusive}
use Rattle.std.proofs.iter.runs.Sources.{nat_range_inclusive_steps, inclusive_listed}
use denote.Param.Members.{Mut}
use denote.Ref.{Bor}

here : (o : Option ℕ) (x : ℕ) (Q : ℕ → Type 0) → option_map (λ y. y) o ≡ Some x → IfSome o Q → Q x
here None x Q e h = absurd (let z : ⊥ = cc in z)
here (Some y) x Q e h = let same : y ≡ x = cc in subst Q same h

both : (o : Option ℕ) (P Q : ℕ → Type 0) → IsSomeAnd o P → IfSome o Q → (x : ℕ) × P x × Q x
both None P Q s h = absurd s
both (Some y) P Q s h = (y, s, h)

both' : (o : Option ℕ) (x : ℕ) (Q : ℕ → Type 0) → option_map (λ y. y) o ≡ Some x → IsSomeAnd o Q → Q x
both' None x Q e h = absurd h
both' (Some y) x Q e h = let same : y ≡ x = cc in subst Q same h

each : (o : Option ℕ) {P Q : ℕ → Type 0} → ((x : ℕ) → P x → Q x) → IfSome o P → IfSome o Q
each None f h = h
each (Some x) f h = f x h

module _ (r : RangeInclusive ℕ) (a b : ℕ) (from : range_inclusive_start r ≡ a) (to : range_inclusive_end r ≡ b) (fresh : range_inclusive_exhausted r ≡ false) where
  at' : (p : Run nat_range_inclusive_steps) → p.from ≡ r → (range_inclusive_start p.from ≡ a) × (range_inclusive_end p.from ≡ b)
  at' p at = (ap range_inclusive_start at ∙ from, ap range_inclusive_end at ∙ to)

  -- each number of the range is an item of a whole run, and each item is a number of the range
  covers : (p : Run nat_range_inclusive_steps) → p.from ≡ r → IsTrue p.whole → (Q : ℕ → Type 0) → ((k : ℕ) → IfSome (p.at k) Q) → (n : ℕ) → a ≤ n → n ≤ b → Q n
  covers p at whole Q all n lo hi =
      let h = inclusive_listed p p.seen in
      let up = h.4 (rw at fresh) in
      here (p.at (n - h.0)) n Q ((up.1 [] n 0 (omega (arith, h.2, at' p at)) (omega (arith, h.2, h.3, at' p at, up.0.1 whole))).1) (all (n - h.0))

  counts : (p : Run nat_range_inclusive_steps) → p.from ≡ r → (k : ℕ) → k < p.len → option_map (λ y. y) (p.at k) ≡ Some (a + k)
  counts p at k lt = let h = inclusive_listed p p.seen in let e : h.0 ≡ a = omega (arith, h.2, at' p at) in rw e at ((h.4 (rw at fresh)).0.3 k lt)

  within : (p : Run nat_range_inclusive_steps) → p.from ≡ r → (k : ℕ) → IfSome (p.at k) (λ x. (a ≤ x) × (x ≤ b))
  within p at k = let h = inclusive_listed p p.seen in each (p.at k) (λ x t. (omega (arith, t.0, h.2, at' p at), omega (arith, t.1, h.3, at' p at))) ((h.4 (rw at fresh)).0.2 k)

  module _ {F : Type 0} (g : Mut F (ℕ × Unit {0}) Bool) (f : F) (keeps : CallKeepsClosure g f) (P : ℕ → Type 0) (told : (n : ℕ) (t : Bool) → a ≤ n → n ≤ b → Called g f (n, tt) t f → Decides t (P n)) where
    pub all_decided : (t : Bool) → SomeRun nat_range_inclusive_steps r (λ p. MatchBool t (IsTrue p.whole × AllItemsGive p g f true) (AnyItemGives p g f false)) → Decides t ((n : ℕ) → a ≤ n → n ≤ b → P n)
    all_decided true (p, at, (whole, all)) = (λ _ n lo hi. (told n true lo hi (covers p at whole (λ x. Called g f (x, tt) true f) (all keeps) n lo hi)).0 refl, λ _. refl)
    all_decided false (p, at, any) =
        let t = any keeps in
        let u = both (p.at t.0) (λ x. Called g f (x, tt) false f) (λ x. (a ≤ x) × (x ≤ b)) t.2 (within p at t.0) in
        (λ e. absurd (false≢true e), λ h. (told u.0 false u.2.0 u.2.1 u.1).1 (h u.0 u.2.0 u.2.1))

    pub any_decided : (t : Bool) → SomeRun nat_range_inclusive_steps r (λ p. MatchBool t (AnyItemGives p g f true) (IsTrue p.whole × AllItemsGive p g f false)) → Decides t ((n : ℕ) × (a ≤ n) × (n ≤ b) × P n)
    any_decided true (p, at, any) =
        let t = any keeps in
        let u = both (p.at t.0) (λ x. Called g f (x, tt) true f) (λ x. (a ≤ x) × (x ≤ b)) t.2 (within p at t.0) in
        (λ _. (u.0, u.2.0, u.2.1, (told u.0 true u.2.0 u.2.1 u.1).0 refl), λ _. refl)
    any_decided false (p, at, (whole, all)) = (λ e. absurd (false≢true e), λ (n, lo, hi, h). (told n false lo hi (covers p at whole (λ x. Called g f (x, tt) false f) (all keeps) n lo hi)).1 h)

  module _ {F : Type 0} (g : Mut F (Bor ℕ × Unit {0}) Bool) (f : F) (keeps : CallKeepsClosure g f) (P : ℕ → Type 0) (told : (n : ℕ) (t : Bool) → CalledAt g f n t f → Decides t (P n)) where
    -- `find` gives the first number of the range that has P
    pub found : (o : Option ℕ) → SomeRun nat_range_inclusive_steps r (λ p. MatchOption o (IsTrue p.whole × NoItemPasses p g f) (EndsAtFirstPassing p g f)) → MatchOption o ((n : ℕ) → a ≤ n → n ≤ b → P n → ⊥) (λ n. (a ≤ n) × (n ≤ b) × P n × ((m : ℕ) → a ≤ m → m < n → P m → ⊥))
    found None (p, at, (whole, none)) = λ n lo hi h. false≢true ((told n false (covers p at whole (λ x. CalledAt g f x false f) (none keeps) n lo hi)).1 h)
    found (Some n) (p, at, (i, len, last, first)) =
        let here' : a + i ≡ n = same_Some _ _ (sym (counts p at i (omega arith)) ∙ ap (option_map (λ y. y)) last) in
        let in' = subst (λ o. IfSome o (λ x. (a ≤ x) × (x ≤ b))) last (within p at i) in
        (in'.0, in'.1, (told n true (first keeps).0).0 refl, λ m lo lt h. false≢true ((told m false (before m lo lt here')).1 h))
      where
        before : (m : ℕ) → a ≤ m → m < n → a + i ≡ n → CalledAt g f m false f
        before m lo lt e = let k : a + (m - a) ≡ m = omega arith in (both' (p.at (m - a)) m (λ x. CalledAt g f x false f) (counts p at (m - a) (omega arith) ∙ ap Some k) ((first keeps).1 (m - a) (omega arith)))

  module _ {F B : Type 0} (g : Mut F (ℕ × Unit {0}) (Option B)) (f : F) (keeps : CallKeepsClosure g f) (N : ℕ → Type 0) (S : ℕ → B → Type 0) (told : (n : ℕ) (t : Option B) → a ≤ n → n ≤ b → Called g f (n, tt) t f → MatchOption t (N n) (S n)) where
    -- `find_map` gives what the closure gives of the first number of which it gives something
    pub found_map : (o : Option B) → SomeRun nat_range_inclusive_steps r (λ p. MatchOption o (IsTrue p.whole × AllItemsGive p g f None) (λ y. (i : ℕ) × (i < p.len) × (p.len ≡ i + 1) × IsFirstToGive p g f (Some y) None i)) → MatchOption o ((n : ℕ) → a ≤ n → n ≤ b → N n) (λ y. (n : ℕ) × (a ≤ n) × (n ≤ b) × S n y × ((m : ℕ) → a ≤ m → m < n → N m))
    found_map None (p, at, (whole, all)) = λ n lo hi. told n None lo hi (covers p at whole (λ x. Called g f (x, tt) None f) (all keeps) n lo hi)
    found_map (Some y) (p, at, (i, lt, len, first)) =
        let in' = here (p.at i) (a + i) (λ x. (a ≤ x) × (x ≤ b)) (counts p at i lt) (within p at i) in
        (a + i, in'.0, in'.1, told (a + i) (Some y) in'.0 in'.1 (both' (p.at i) (a + i) (λ x. Called g f (x, tt) (Some y) f) (counts p at i lt) (first keeps).0), λ m lo less. told m None lo (omega (arith, in'.1)) (before m lo less))
      where
        before : (m : ℕ) → a ≤ m → m < a + i → Called g f (m, tt) None f
        before m lo less = let k : a + (m - a) ≡ m = omega arith in both' (p.at (m - a)) m (λ x. Called g f (x, tt) None f) (counts p at (m - a) (omega arith) ∙ ap Some k) ((first keeps).1 (m - a) (omega arith))
