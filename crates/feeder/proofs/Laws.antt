-- The laws of specs/Laws.antt, each from the theory of ways at the feeder's own ways.
use Rattle.std.proofs.Common.{◌≡◌, ℕ, ◌+◌, ◌<◌, ◌≤◌, ◌⊎◌, List, length, ap, arith}
use Rattle.feeder.specs.declared.line.Line.{Line}
use Rattle.feeder.specs.Feeder.{Feeder, OnWay, parent_of, resistance_of, distance, response}
use Rattle.feeder.specs.Table.{Inverter}
use Rattle.feeder.specs.Laws.{WaysAreClimbed, WaysHaveNoRepeats, DistancesAddUp, WaysMeet, ResponsesAreSymmetric, ResponsesAreAtMostDistances, ResponsesTellWays, InvertersStandBelow, WaysAreShort}
use Rattle.feeder.proofs.Ways as W
use Rattle.feeder.proofs.Distances as D
use Rattle.feeder.proofs.Feeders.{is_way, positive, some_way, any_short}
use Rattle.feeder.proofs.Inverters as I

pub ways_are_climbed : WaysAreClimbed
ways_are_climbed F f b = is_way F f b

pub ways_have_no_repeats : WaysHaveNoRepeats
ways_have_no_repeats F f b = W.no_repeats (is_way F f) b

module _ (F : List Line) (f : Feeder F) where
  pub distance_top : distance F 0 ≡ 0
  unfolding distance
  distance_top = D.distance_top (is_way F f) (resistance_of F) (positive F f)

  pub distance_up : (b : ℕ) → 0 < b → distance F b ≡ resistance_of F b + distance F (parent_of F b)
  unfolding distance
  distance_up b h = D.distance_up (is_way F f) (resistance_of F) (positive F f) b h

  pub distance_pos : (b : ℕ) → 0 < b → 0 < distance F b
  unfolding distance
  distance_pos = D.distance_pos (is_way F f) (resistance_of F) (positive F f)

  -- up a way distances fall
  pub on_le : {c b : ℕ} → OnWay F c b → distance F c ≤ distance F b
  unfolding distance
  on_le = D.on_le (is_way F f) (resistance_of F) (positive F f)

  pub on_lt : {c b : ℕ} → OnWay F c b → (c ≡ b) ⊎ (distance F c < distance F b)
  unfolding distance
  on_lt = D.on_lt (is_way F f) (resistance_of F) (positive F f)

  -- of two buses on one way the nearer lies on the other's way
  pub on_by_distance : {c d b : ℕ} → OnWay F c b → OnWay F d b → distance F c ≤ distance F d → OnWay F c d
  unfolding distance
  on_by_distance = D.on_by_distance (is_way F f) (resistance_of F) (positive F f)

  -- on one way a distance names one bus
  pub on_same : {c d b : ℕ} → OnWay F c b → OnWay F d b → distance F c ≡ distance F d → c ≡ d
  unfolding distance
  on_same = D.on_same (is_way F f) (resistance_of F) (positive F f)

  pub response_meet : {n m q : ℕ} → W.Meet (is_way F f) n m q → response F n m ≡ distance F q
  unfolding response distance
  response_meet = D.response_meet (is_way F f) (resistance_of F) (positive F f)

  pub response_sym : (n m : ℕ) → response F n m ≡ response F m n
  unfolding response
  response_sym = D.response_sym (is_way F f) (resistance_of F) (positive F f)

  pub response_own : (n : ℕ) → response F n n ≡ distance F n
  unfolding response distance
  response_own = D.response_own (is_way F f) (resistance_of F) (positive F f)

  -- a bus that does not lie on m's way responds to m as its parent does
  pub response_up : (n m : ℕ) → 0 < n → (OnWay F n m → ⊥) → response F n m ≡ response F (parent_of F n) m
  unfolding response
  response_up = D.response_up (is_way F f) (resistance_of F) (positive F f)

  pub on_response : {c n : ℕ} (m : ℕ) → OnWay F c n → OnWay F c m → distance F c ≤ response F n m
  unfolding response distance
  on_response = D.on_response (is_way F f) (resistance_of F) (positive F f)

  pub response_on : {c n : ℕ} (m : ℕ) → OnWay F c n → distance F c ≤ response F n m → OnWay F c m
  unfolding response distance
  response_on = D.response_on (is_way F f) (resistance_of F) (positive F f)

  pub response_le : (n m : ℕ) → response F n m ≤ distance F n
  unfolding response distance
  response_le = D.response_le (is_way F f) (resistance_of F) (positive F f)

  pub response_whole : (n m : ℕ) → 0 < n → response F n m ≡ distance F n → OnWay F n m
  unfolding response distance
  response_whole = D.response_whole (is_way F f) (resistance_of F) (positive F f)

  pub whole_response : (n m : ℕ) → OnWay F n m → response F n m ≡ distance F n
  unfolding response distance
  whole_response = D.whole_response (is_way F f) (resistance_of F) (positive F f)

pub distances_add_up : DistancesAddUp
distances_add_up F f = (distance_top F f, λ b h. distance_up F f b h.0)

pub ways_meet : WaysMeet
ways_meet F f n m = let k = W.meet (is_way F f) n m in (k.0, k.1.both, k.1.common, response_meet F f k.1)

pub responses_are_symmetric : ResponsesAreSymmetric
responses_are_symmetric F f = response_sym F f

pub responses_are_at_most_distances : ResponsesAreAtMostDistances
responses_are_at_most_distances F f n m h = (response_le F f n m, response_whole F f n m h.0, whole_response F f n m)

pub responses_tell_ways : ResponsesTellWays
responses_tell_ways F f c n m o = (on_response F f m o, response_on F f m o)

pub inverters_stand_below : InvertersStandBelow
inverters_stand_below F f T ends b h =
    let t = I.inverter_below (is_way F f) (length F) (Inverter T) (λ e k l none. ends e ((k, l), λ c u. none c u.0 u.1)) b h.0 h.1 in
    (t.0, (W.on_below t.3, t.1), t.2, t.3)

pub ways_are_short : WaysAreShort
ways_are_short F f b w x = omega (arith, ap length (W.way_unique x (some_way F f b).1), any_short F f b)
