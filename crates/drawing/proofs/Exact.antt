-- Exact tables: where a feeder yields the table, whole numbers compare as its distances do, and the seats are a draft.
use Rattle.std.proofs.Common.{◌≡◌, ℕ, ◌+◌, ◌<◌, ◌≤◌, ◌⊎◌, List, length, sym, ap, ◌∙◌, inl, inr, ⊎_elim, arith}
use Rattle.std.proofs.lemmas.Bool.{cases_lt, cases_eq, cases_Bool, both_ways}
use Rattle.feeder.specs.declared.line.Line.{Line}
use Rattle.feeder.specs.Feeder.{Feeder, OnWay, parent_of, way, distance}
use Rattle.feeder.proofs.Feeders.{is_way, parent_small}
use Rattle.feeder.proofs.Inverters.{inverter_below}
use Rattle.feeder.proofs.Laws.{distance_top, distance_pos, on_le, on_lt, on_by_distance, response_meet, whole_response}
use Rattle.drawing.specs.Seats as Seats
use Rattle.drawing.specs.Seats.{Entries, Meter, Inverter, Metering, Listing, Whole}
use Rattle.drawing.specs.Yielded.{Yielded}
use Rattle.drawing.proofs.Drafts as Drafts
use Rattle.drawing.proofs.Drafts.{Up, Strictly, Tree, Faithful, Draft}
use Rattle.drawing.proofs.Few as Few
use Rattle.drawing.proofs.Meets.{both}

pub decided : (T : Entries) (m : ℕ) → Inverter T m ⊎ (Inverter T m → ⊥)
decided T m = both (both (⊎_elim inl (λ l. inr (λ h. omega arith)) (cases_lt 0 m)) (⊎_elim (λ l. inr (λ h. omega arith)) inl (cases_lt T.metered m))) (⊎_elim inl (λ e. inr (λ h. both_ways (T.has m) e h)) (cases_Bool (T.has m)))

module _ {T : Entries} {F : List Line} (Y : Yielded T F) where
  abbrev f : Feeder F
  f = Y.feeder

  -- every bus has an inverter at or below it
  pub below : (b : ℕ) → 0 < b → b ≤ length F → (i : ℕ) × Inverter T i × OnWay F b i
  below b a l = let t = inverter_below (is_way F f) (length F) (Inverter T) (λ e h k none. Y.ends e ((h, k), λ c u. none c u.0 u.1)) b a l in (t.0, t.2, t.3)

  abbrev pub tree : Tree (parent_of F) (way F) (length F) T.metered (Inverter T)
  tree = record { ways = is_way F f; parents = parent_small F f; metered = Y.metered; inverters = λ m i. i.0; decided = decided T; below = below }

  -- the order along a way is that of the distances
  up_le : {c d : ℕ} → Up (parent_of F) c d → distance F c ≤ distance F d
  up_le (inl e) = omega (arith, distance_top F f, ap (distance F) e)
  up_le (inr o) = on_le F f o

  le_up : {c d b : ℕ} → Up (parent_of F) c b → Up (parent_of F) d b → distance F c ≤ distance F d → Up (parent_of F) c d
  le_up (inl e) u l = inl e
  le_up {c} {d} (inr o) (inl e) l = ⊎_elim inl (λ z. absurd (omega (arith, distance_pos F f c (omega arith), distance_top F f, ap (distance F) e))) (cases_eq c 0)
  le_up (inr o) (inr u) l = inr (on_by_distance F f o u l)

  strictly_lt : {c d : ℕ} → Strictly (parent_of F) c d → distance F c < distance F d
  strictly_lt {c} {d} (inl e, z) = omega (arith, distance_top F f, ap (distance F) e, distance_pos F f d (⊎_elim (λ q. absurd (z (e ∙ sym q))) (λ q. omega arith) (cases_eq d 0)))
  strictly_lt (inr o, z) = ⊎_elim (λ e. absurd (z e)) (λ l. l) (on_lt F f o)

  pub faithful : Faithful tree (λ x c. x ≡ distance F c) (λ x y. x < y) (λ x y. x ≤ y) 0 T.entry
  faithful = record { starts = sym (distance_top F f); entries = λ n m q a l i K. Y.responses n m (a, l) i ∙ response_meet F f K; within_up = λ b k o u s t h. le_up o u (omega arith); up_within = λ b k o u s t h. omega (arith, up_le h); nearer_up = λ b k o u s t h. (le_up o u (omega arith), λ e. omega (arith, ap (distance F) e)); up_nearer = λ b k o u s t h. omega (arith, strictly_lt h) }

  -- some bus has an inverter
  pub no_inverter : (m : ℕ) × Inverter T m
  no_inverter = let t = tree.below 1 (omega arith) (omega (arith, f.some)) in (t.0, t.1)

  -- a metered bus has a positive entry
  pub row_positive : (n : ℕ) → Meter T n → (m : ℕ) × Inverter T m × (0 < T.entry n m)
  row_positive n h = let t = tree.below n h.0 (omega (arith, h.1, Y.metered)) in (t.0, t.1, omega (arith, Y.responses n t.0 h t.1, whole_response F f n t.0 t.2, distance_pos F f n h.0))

  pub far_positive : (n d : ℕ) → Meter T n → ((m : ℕ) → Inverter T m → T.entry n m ≤ d) → 0 < d
  far_positive n d h most = let t = row_positive n h in omega (arith, t.2, most t.0 t.1)

-- seats by the comparisons of whole numbers
abbrev Branch' : Entries → (ℕ → ℕ) → (ℕ → ℕ) → ℕ → ℕ → Type 0
Branch' T = Drafts.Branch (λ x y. x < y) (λ x y. x ≤ y) 0 T.metered (Inverter T) T.entry

abbrev pub Draft' : Entries → (ℕ → ℕ) → (ℕ → ℕ) → ℕ → Type 0
Draft' T = Draft (λ x y. x < y) (λ x y. x ≤ y) 0 T.metered (Inverter T) T.entry

abbrev pub Whole' : Entries → (ℕ → ℕ) → (ℕ → ℕ) → ℕ → Type 0
Whole' T = Drafts.Whole (λ x y. x < y) (λ x y. x ≤ y) 0 T.metered (Inverter T) T.entry

module _ {T : Entries} {seat far : ℕ → ℕ} where
  of_branch : (m v : ℕ) → Seats.Branch T seat far m v → Branch' T seat far m v
  of_branch m v b = record { inverter = b.inverter; other = b.other; positive = b.positive; floor = b.floor; below = b.below; free = λ n a l s t. b.free n (a, l) (omega arith) (omega arith) }

  to_branch : (m v : ℕ) → Branch' T seat far m v → Seats.Branch T seat far m v
  to_branch m v b = record { inverter = b.inverter; other = b.other; positive = b.positive; floor = b.floor; below = b.below; free = λ n h s t. b.free n h.0 h.1 (omega arith) (omega arith) }

  pub draft : {last : ℕ} → Metering T seat far → Listing T seat far last → Draft' T seat far last
  draft M L = record { metered = L.metered; inverter = λ n a l. M.inverter n (a, l); reached = λ n a l. M.reached n (a, l); most = λ n m a l i. M.most n m (a, l) i; branches = λ x u l. of_branch (seat x) (far x) (L.branches x u l); order = L.order }

  pub whole : {last : ℕ} → Whole T seat far last → Whole' T seat far last
  whole H m v b = let t = H m v (to_branch m v b) in (t.0, t.1, t.2, t.3, (omega (arith, t.4), omega (arith, t.4)))

  -- every bus sits at a positive distance
  pub seated_positive : {last : ℕ} → Metering T seat far → Listing T seat far last → (x : ℕ) → 0 < x → x ≤ last → 0 < far x
  seated_positive M L x a l = ⊎_elim (λ u. (L.branches x u l).positive) (λ u. M.positive x (a, u)) (cases_lt T.metered x)

  module _ {F : List Line} {last : ℕ} (Y : Yielded T F) (M : Metering T seat far) (L : Listing T seat far last) where
    -- there are at most 63 unmetered buses besides 64 metered ones
    pub few : T.metered ≤ 64 → last ≤ T.metered + 63
    few l = omega (arith, Few.few (faithful Y) (draft M L), L.metered)
