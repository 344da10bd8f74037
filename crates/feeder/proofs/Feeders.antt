-- The ways of a feeder: what a list of lines that is a feeder gives to the theory of ways.
use Rattle.std.proofs.Common.{◌≡◌, ℕ, zero, suc, ◌+◌, ◌-◌, ◌<◌, ◌≤◌, ◌⊎◌, List, [], ◌∷◌, length, sum_by, sym, ap, ◌∙◌, inl, inr, ⊎_elim, arith}
use Rattle.std.proofs.lemmas.List.{get_or_past}
use Rattle.std.proofs.lemmas.Bool.{cases_lt, cases_eq}
use Rattle.feeder.specs.declared.line.Line.{Line}
use Rattle.feeder.specs.Way.{Way, top, up}
use Rattle.feeder.specs.Feeder.{blank, line_of, parent_of, resistance_of, Bus, Feeder, way, distance, response}
use Rattle.feeder.proofs.Ways.{way_unique, climb_way, in_on, on_small, on_pos, no_repeats, climbing}
use Rattle.feeder.proofs.Distances.{distance_top, distance_up}
use Rattle.feeder.proofs.Pigeonhole.{at_most}

-- a number that is no bus of the list reads the blank line
pub past_line : (F : List Line) (b : ℕ) → length F < b → line_of F b ≡ blank
past_line F b l = get_or_past F (b - 1) blank (omega arith)

pub past_parent : (F : List Line) (b : ℕ) → length F < b → parent_of F b ≡ 0
past_parent F b l = ap (λ t. t.parent) (past_line F b l)

pub past_resistance : (F : List Line) (b : ℕ) → length F < b → resistance_of F b ≡ 1
past_resistance F b l = ap (λ t. t.resistance) (past_line F b l)

-- a number is a bus, the substation, or past the last bus
pub cases_bus : (F : List Line) (b : ℕ) → Bus F b ⊎ ((b ≡ 0) ⊎ (length F < b))
cases_bus F b = ⊎_elim (λ e. inr (inl e)) (λ z. ⊎_elim (λ l. inr (inr l)) (λ l. inl (omega arith)) (cases_lt (length F) b)) (cases_eq b 0)

-- without a bus there is no distance and no response
pub distance_none : (F : List Line) (b : ℕ) → length F ≡ 0 → distance F b ≡ 0
unfolding distance way
distance_none F b e = rw e

pub response_none : (F : List Line) (n m : ℕ) → length F ≡ 0 → response F n m ≡ 0
unfolding response way
response_none F n m e = rw e

module _ (F : List Line) (f : Feeder F) where
  -- a number past the last bus hangs from the substation, so every number has a way
  pub some_way : (b : ℕ) → (w : List ℕ) × Way (parent_of F) b w
  some_way b = go (cases_bus F b)
    where
      go : Bus F b ⊎ ((b ≡ 0) ⊎ (length F < b)) → (w : List ℕ) × Way (parent_of F) b w
      go (inl h) = f.reaches b h
      go (inr (inl e)) = ([], rw e top)
      go (inr (inr l)) = (b ∷ [], up (omega arith) (rw (past_parent F b l) top))

  pub positive : (b : ℕ) → 0 < b → 1 ≤ resistance_of F b
  positive b h = go (cases_bus F b)
    where
      go : Bus F b ⊎ ((b ≡ 0) ⊎ (length F < b)) → 1 ≤ resistance_of F b
      go (inl k) = f.resists b k
      go (inr (inl e)) = absurd (omega arith)
      go (inr (inr l)) = omega (arith, past_resistance F b l)

  pub parent_small : (b : ℕ) → 0 < b → parent_of F b ≤ length F
  parent_small b h = ⊎_elim (λ k. f.parents b k) (λ s. ⊎_elim (λ e. absurd (omega arith)) (λ l. omega (arith, past_parent F b l)) s) (cases_bus F b)

  -- by the pigeonhole a way has no more buses than the feeder
  way_short : (b : ℕ) → b ≤ length F → length (some_way b).0 ≤ length F
  way_short b l = at_most (length F) (some_way b).0 (no_repeats (λ c. (some_way c).1) b) (λ c e. let o = in_on (some_way b).1 c e in (on_pos o, on_small (length F) (λ a h k. parent_small a h) o l))

  pub any_short : (b : ℕ) → length (some_way b).0 ≤ length F
  any_short b = ⊎_elim (λ l. go l) (way_short b) (cases_lt (length F) b)
    where
      go : length F < b → length (some_way b).0 ≤ length F
      go l = omega (arith, f.some, ap length (way_unique (some_way b).1 (up {w = []} (omega arith) (rw (past_parent F b l) top))))

  -- the way that is found by climbing is the way
  pub is_way : (b : ℕ) → Way (parent_of F) b (way F b)
  unfolding way
  is_way b = rw (climb_way (some_way b).1 (length F) (any_short b)) (some_way b).1

-- numbers that start at 0 and grow by the resistance along each line are distances, and make the lines a feeder
module _ (F : List Line) (d : ℕ → ℕ) (some : 0 < length F) (parents : (b : ℕ) → Bus F b → parent_of F b ≤ length F) (resists : (b : ℕ) → Bus F b → 1 ≤ resistance_of F b)
    (start : d 0 ≡ 0) (grow : (b : ℕ) → Bus F b → d b ≡ d (parent_of F b) + resistance_of F b) where
  reached : (k b : ℕ) → b ≤ length F → d b ≤ k → (w : List ℕ) × Way (parent_of F) b w
  reached zero b l h = ⊎_elim (λ e. ([], rw e top)) (λ z. absurd (omega (arith, grow b (omega arith, l), resists b (omega arith, l)))) (cases_eq b 0)
  reached (suc k) b l h = ⊎_elim (λ e. ([], rw e top)) (λ z. let u = reached k (parent_of F b) (parents b (omega arith, l)) (omega (arith, grow b (omega arith, l), resists b (omega arith, l))) in (b ∷ u.0, up (omega arith) u.1)) (cases_eq b 0)

  pub grown_feeder : Feeder F
  grown_feeder = record { some = some; parents = parents; resists = resists; reaches = λ b h. reached (d b) b h.1 (omega arith) }

  pub grown_distance : (b : ℕ) → b ≤ length F → distance F b ≡ d b
  unfolding distance
  grown_distance = climbing (is_way F grown_feeder) (λ b. b ≤ length F → sum_by (resistance_of F) (way F b) ≡ d b) (λ l. distance_top (is_way F grown_feeder) (resistance_of F) (positive F grown_feeder) ∙ sym start) (λ b h ih l. omega (arith, ih (parents b (h, l)), grow b (h, l), distance_up (is_way F grown_feeder) (resistance_of F) (positive F grown_feeder) b h))
