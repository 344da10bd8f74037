-- The floor of an inverter's column, the free distances and the nearest branch so far.
use Rattle.std.specs.Bool.{then_some}
use Rattle.std.proofs.Common.{◌≡◌, ℕ, ◌+◌, ◌<◌, ◌≤◌, max, ltb, ◌⊎◌, List, Option, MatchOption, sym, ap, subst, inr, ⊎_elim, arith}
use Rattle.std.proofs.lemmas.Bool.{cases_eq, cases_lt, lt-ltb, le-ltb}
use Rattle.drawing.specs.declared.seat.Seat.{Seat}
use Rattle.drawing.specs.Seats.{Entries, Inverter}
use Rattle.drawing.specs.Places.{Free, FloorOf, BranchAt, BranchAfter}

-- v is how far inverter m's way goes with those of the inverters below i
pub record FloorTo (E : Entries) (m i v : ℕ) : Type 0 where
  pub most : (k : ℕ) → Inverter E k → k < i → E.entry k m ≤ v
  pub reached : (v ≡ 0) ⊎ ((k : ℕ) × Inverter E k × (k < m) × (E.entry k m ≡ v))

-- the nearest branch between two distances among the entries of the inverters below i, or else the farther distance
pub record NextTo (E : Entries) (s : List Seat) (m from end i next : ℕ) : Type 0 where
  pub within : next ≤ end
  pub nearest : (k : ℕ) → Inverter E k → k < i → from < E.entry k m → E.entry k m < end → Free E s m (E.entry k m) → next ≤ E.entry k m
  pub found : (next ≡ end) ⊎ ((k : ℕ) × Inverter E k × (E.entry k m ≡ next) × (from < next) × Free E s m next)

-- one more inverter, whose entry is the nearest branch so far or is not
module _ (E : Entries) (s : List Seat) (m from end i next : ℕ) (N : NextTo E s m from end i next) where
  pub next_taken : (v : ℕ) → v ≡ E.entry i m → Inverter E i → from < v → v < next → Free E s m v → NextTo E s m from end (i + 1) v
  next_taken v e here lo hi free = record { within = omega (arith, N.within); nearest = λ k ik l far near other. ⊎_elim (λ q. omega (arith, e, ap (λ z. E.entry z m) q)) (λ n. omega (arith, N.nearest k ik (omega arith) far near other)) (cases_eq k i); found = inr (i, here, sym e, lo, free) }

  pub next_kept : (Inverter E i → (v : ℕ) → v ≡ E.entry i m → from < v → v < next → Free E s m v → ⊥) → NextTo E s m from end (i + 1) next
  next_kept none = record { within = N.within; nearest = nearest; found = N.found }
    where
      nearest : (k : ℕ) → Inverter E k → k < i + 1 → from < E.entry k m → E.entry k m < end → Free E s m (E.entry k m) → next ≤ E.entry k m
      nearest k ik l far near free = ⊎_elim (λ q. ⊎_elim (λ less. absurd (none (subst (Inverter E) q ik) (E.entry k m) (ap (λ z. E.entry z m) q) far less free)) (λ le. le) (cases_lt (E.entry k m) next)) (λ n. N.nearest k ik (omega arith) far near free) (cases_eq k i)

-- a branch is farther than the floor
pub over_floor : (E : Entries) (s : List Seat) (m f v : ℕ) → FloorOf E m f → BranchAt E s m v → f < v
over_floor E s m f v F b = ⊎_elim (λ e. omega (arith, b.positive)) (λ t. omega (arith, t.3, b.floor t.0 t.1 t.2)) F.reached

module _ (E : Entries) (s : List Seat) (m above f from end i next : ℕ) (im : Inverter E m) (F : FloorOf E m f) (fm : from ≡ max f above) (ee : end ≡ E.entry m m) (li : E.metered < i) (N : NextTo E s m from end i next) where
  next_nearest : (v : ℕ) → above < v → BranchAt E s m v → next ≤ v
  next_nearest v l b =
      let o = b.other in
      let low : from < v = omega (arith, over_floor E s m f v F b) in
      let e = o.2 in
      let n : next ≤ E.entry o.0 m = N.nearest o.0 o.1 (omega (arith, o.1.0.1)) (omega arith) (omega (arith, b.below)) (subst (Free E s m) (sym e) b.free) in
      omega arith

  next_some : next < end → BranchAfter E s m above next
  next_some l = ⊎_elim (λ e. absurd (z e)) some N.found
    where
      z : next ≡ end → ⊥
      z e = omega arith

      some : ((k : ℕ) × Inverter E k × (E.entry k m ≡ next) × (from < next) × Free E s m next) → BranchAfter E s m above next
      some (k, ik, e, fl, free) = record { farther = omega arith; branch = record { inverter = im; other = (k, ik, e); positive = omega arith; floor = λ j ij lj. omega (arith, F.most j ij lj); below = omega arith; free = free }; nearest = next_nearest }

  next_none : end ≤ next → (v : ℕ) → above < v → BranchAt E s m v → ⊥
  next_none l v h b = omega (arith, next_nearest v h b, b.below)

  pub next_is : (o : Option ℕ) → o ≡ then_some (ltb next end) next → MatchOption o ((v : ℕ) → above < v → BranchAt E s m v → ⊥) (λ v. BranchAfter E s m above v)
  next_is o e = ⊎_elim (λ l. rw (e, lt-ltb next end l) (next_some l)) (λ h. rw (e, le-ltb next end h) (next_none h)) (cases_lt next end)
