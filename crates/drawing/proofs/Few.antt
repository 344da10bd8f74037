-- How many buses are drawn: an unmetered one goes with an inverter that is not the lowest, and no two with one.
use Rattle.std.proofs.Common.{◌≡◌, ℕ, ◌+◌, ◌-◌, ◌<◌, ◌≤◌, List, sym, subst, inr, ⊎_elim, arith}
use Rattle.std.proofs.lemmas.Bool.{cases_eq}
use Rattle.feeder.specs.Way.{Way, On, here}
use Rattle.feeder.proofs.Ways.{on_pos, on_trans, on_chain, on_antisym, dec_on, meet, Meet}
use Rattle.feeder.proofs.Pigeonhole.{into_le}
use Rattle.drawing.proofs.Drafts.{Up, Tree, Faithful, Draft}
use Rattle.drawing.proofs.Spots as S
use Rattle.drawing.proofs.Meets.{least, both}
use Rattle.drawing.proofs.Shape.{choice}

module _ {p : ℕ → ℕ} {way : ℕ → List ℕ} {B N : ℕ} {Inv : ℕ → Type 0} {tree : Tree p way B N Inv} {Q : Type 0} {Reads : Q → ℕ → Type 0} {Nearer Within : Q → Q → Type 0} {start : Q} {entry : ℕ → ℕ → Q}
    (R : Faithful tree Reads Nearer Within start entry) {seat : ℕ → ℕ} {far : ℕ → Q} {last : ℕ} (D : Draft Nearer Within start N Inv entry seat far last) where
  abbrev ways : (b : ℕ) → Way p b (way b)
  ways = tree.ways

  abbrev φ : ℕ → ℕ
  φ = S.φ R D

  -- k is the lowest inverter whose way leaves that of x's seat at the spot of x
  record Leaves (x k : ℕ) : Type 0 where
    inverter : Inv k
    meets : Meet ways k (seat x) (φ x)
    lowest : (j : ℕ) → Inv j → Meet ways j (seat x) (φ x) → k ≤ j

  leaves : (x : ℕ) → N < x → x ≤ last → (k : ℕ) × Leaves x k
  leaves x u l = (t.0, record { inverter = t.1.0; meets = at t.0 t.1.1; lowest = λ j i K. t.2 j (i, S.meet_unique ways (meet ways j (seat x)).1 K) })
    where
      at : (k : ℕ) → (meet ways k (seat x)).0 ≡ φ x → Meet ways k (seat x) (φ x)
      at k e = subst (Meet ways k (seat x)) e (meet ways k (seat x)).1

      o : (k : ℕ) × Inv k × (entry k (seat x) ≡ far x)
      o = (D.branches x u l).other

      j : Inv (seat x)
      j = (D.branches x u l).inverter

      here' : (meet ways o.0 (seat x)).0 ≡ φ x
      here' = let K = (meet ways o.0 (seat x)).1 in S.one_bus R D (seat x) (S.inverter_in R D (seat x) j) (S.meet_right ways K) (inr (S.φ_spot R D x (omega arith) l).on) (subst (λ v. Reads v (meet ways o.0 (seat x)).0) o.2 (S.crossing R D o.1 j K)) (S.φ_spot R D x (omega arith) l).reads

      t : (k : ℕ) × (Inv k × ((meet ways k (seat x)).0 ≡ φ x)) × ((j : ℕ) → Inv j × ((meet ways j (seat x)).0 ≡ φ x) → k ≤ j)
      t = least (λ k. Inv k × ((meet ways k (seat x)).0 ≡ φ x)) (λ k. both (tree.decided k) (cases_eq (meet ways k (seat x)).0 (φ x))) o.0 (o.1, here')

  module _ (x k : ℕ) (u : N < x) (l : x ≤ last) (L : Leaves x k) where
    pos : 0 < φ x
    pos = S.φ_pos R D x (omega arith) l

    on_k : On p (φ x) k
    on_k = S.up_on ways pos (S.meet_left ways L.meets)

    on_s : On p (φ x) (seat x)
    on_s = (S.φ_spot R D x (omega arith) l).on

    -- the seat is a lower inverter
    seat_below : seat x < k
    seat_below = ⊎_elim (λ e. absurd (apart e)) (λ z. omega (arith, S.seat_lowest R D x k u l L.inverter on_k)) (cases_eq (seat x) k)
      where
        j : Inv (seat x)
        j = (D.branches x u l).inverter

        s_s : Meet ways (seat x) (seat x) (seat x)
        s_s = S.meet_on ways (here (tree.inverters (seat x) j).0)

        apart : seat x ≡ k → ⊥
        apart e = (R.nearer_up (seat x) (S.inverter_in R D (seat x) j) (inr on_s) (S.meet_right ways s_s) (S.φ_spot R D x (omega arith) l).reads (S.crossing R D j j s_s) (D.branches x u l).below).1 (S.meet_unique ways (subst (λ t. Meet ways t (seat x) (φ x)) (sym e) L.meets) s_s)

    -- the spot of x is the farthest one on k's way that a lower inverter shares
    farthest : (c j : ℕ) → Inv j → j < k → On p c j → On p c k → On p c (φ x)
    farthest c j i low o v = ⊎_elim shares (λ h. ⊎_elim (λ e. absurd (omega (arith, on_pos o))) (λ q. q) h) (S.up_chain ways (inr on_k) (inr v))
      where
        -- were c beyond the spot, j too would leave the seat's way there
        beyond : Up p (φ x) c → (On p c (seat x) → ⊥) → ⊥
        beyond h z = omega (arith, L.lowest j i (S.meet_is ways (on_trans (S.up_on ways pos h) o) on_s (λ d a b. ⊎_elim (λ q. L.meets.lowest d (on_trans q v) b) (λ q. absurd (z (on_trans q b))) (on_chain a o))))

        shares : Up p (φ x) c → On p c (φ x)
        shares h = ⊎_elim (λ q. L.meets.lowest c v q) (λ z. absurd (beyond h z)) (dec_on ways c (seat x))

  -- so an inverter is left to one unmetered bus
  one_each : (x y k : ℕ) → N < x → x ≤ last → N < y → y ≤ last → Leaves x k → Leaves y k → x ≡ y
  one_each x y k u l v m L M = S.apart R D x y (omega arith) l (omega arith) m (on_antisym ways (farthest y k v m M (φ x) (seat x) (D.branches x u l).inverter (seat_below x k u l L) (on_s x k u l L) (on_k x k u l L)) (farthest x k u l L (φ y) (seat y) (D.branches y v m).inverter (seat_below y k v m M) (on_s y k v m M) (on_k y k v m M)))

  chosen : (f : ℕ → ℕ) × (f 0 ≡ 0) × ((x : ℕ) → N < x → x ≤ last → Leaves x (f x))
  chosen = choice Leaves N last leaves

  -- there are fewer unmetered buses than metered ones
  pub few : last - N ≤ N - 1
  few = into_le (λ i. f (N + i) - 1) (last - N) (N - 1) (record { inside = inside; apart = apart })
    where
      f : ℕ → ℕ
      f = chosen.0

      L : (i : ℕ) → 0 < i → i ≤ last - N → Leaves (N + i) (f (N + i))
      L i a l = chosen.2 (N + i) (omega arith) (omega arith)

      low : (i : ℕ) → 0 < i → i ≤ last - N → (1 < f (N + i)) × (f (N + i) ≤ N)
      low i a l = (omega (arith, seat_below (N + i) (f (N + i)) (omega arith) (omega arith) (L i a l), tree.inverters (seat (N + i)) (D.branches (N + i) (omega arith) (omega arith)).inverter), (tree.inverters (f (N + i)) (L i a l).inverter).1)

      inside : (i : ℕ) → 0 < i → i ≤ last - N → (0 < f (N + i) - 1) × (f (N + i) - 1 ≤ N - 1)
      inside i a l = (omega (arith, low i a l), omega (arith, low i a l))

      apart : (i j : ℕ) → 0 < i → i ≤ last - N → 0 < j → j ≤ last - N → f (N + i) - 1 ≡ f (N + j) - 1 → i ≡ j
      apart i j a l b m e = omega (arith, one_each (N + i) (N + j) (f (N + j)) (omega arith) (omega arith) (omega arith) (omega arith) (subst (Leaves (N + i)) same (L i a l)) (L j b m))
        where
          same : f (N + i) ≡ f (N + j)
          same = omega (arith, low i a l, low j b m)
