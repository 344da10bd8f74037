-- Every map with a bus is a feeder, and its distances are the feeder's.
use Rattle.std.proofs.Common.{◌≡◌, ℕ, ◌-◌, ◌<◌, ◌≤◌, ◌⊎◌, List, length, get_or, sym, ap, ◌∙◌, subst, inl, inr, ⊎_elim, arith}
use Rattle.std.proofs.lemmas.Bool.{cases_lt}
use Rattle.feeder.specs.declared.line.Line.{Line}
use Rattle.feeder.specs.declared.map.Map.{Map}
use Rattle.feeder.specs.Feeder.{parent_of, resistance_of, Bus, Feeder, OnWay, distance, response}
use Rattle.feeder.specs.View.{lines_of, Stands}
use Rattle.feeder.proofs.Laws.{distance_pos, on_lt, response_le, response_up, response_sym, response_own}
use Rattle.feeder.proofs.Feeders.{distance_none, response_none, grown_feeder, grown_distance}
use Rattle.feeder.proofs.Reach.{read_line}

module _ (m : Map) where
  pub parents : (b : ℕ) → Bus (lines_of m) b → parent_of (lines_of m) b ≤ length (lines_of m)
  parents b h = (m.wired b h).0

  pub resists : (b : ℕ) → Bus (lines_of m) b → 1 ≤ resistance_of (lines_of m) b
  resists b h = (m.wired b h).1

  -- the distance that a map holds for bus b
  abbrev pub held : ℕ → ℕ
  held b = get_or m.distances.items b 0

  -- a map that has a bus is a feeder
  pub map_feeder : 0 < length (lines_of m) → Feeder (lines_of m)
  map_feeder h = grown_feeder (lines_of m) held h parents resists m.started m.measured

  -- the distances that a map holds are the feeder's
  pub map_distance : (b : ℕ) → b ≤ length (lines_of m) → held b ≡ distance (lines_of m) b
  map_distance b l = go (cases_lt 0 (length (lines_of m)))
    where
      go : (0 < length (lines_of m)) ⊎ (length (lines_of m) ≤ 0) → held b ≡ distance (lines_of m) b
      go (inl h) = sym (grown_distance (lines_of m) held h parents resists m.started m.measured b l)
      go (inr h) = let z : b ≡ 0 = omega arith in ap held z ∙ m.started ∙ sym (distance_none (lines_of m) b (omega arith))

  pub map_stands : Stands m
  map_stands = record { counted = m.counted.1; metered = m.counted.0; feeder = map_feeder; near = λ b l. omega (arith, map_distance b l, m.near b l) }

  -- of two different buses, the one that is at least as far does not lie on the other's way, so its parent shares the same
  pub record Climbed (a b up : ℕ) : Type 0 where
    pub within : up ≤ length (lines_of m)
    pub nearer : held up < held a
    pub shares : response (lines_of m) a b ≡ response (lines_of m) up b

  pub climbed : (ls : List Line) (ds : List ℕ) → ls ≡ lines_of m → ds ≡ m.distances.items → (a b : ℕ) → a ≤ length (lines_of m) → b ≤ length (lines_of m) → (a ≡ b → ⊥) → get_or ds b 0 ≤ get_or ds a 0 → (d : Line) → Climbed a b (get_or ls (a - 1) d).parent
  climbed ls ds same held_is a b ha hb z l d =
      let up_is = ap (λ (t : List Line). (get_or t (a - 1) d).parent) same ∙ ap (λ (t : Line). t.parent) (read_line (lines_of m) a bus d) in
      subst (Climbed a b) (sym up_is) (record { within = parents a bus; nearer = omega (arith, m.measured a bus, resists a bus); shares = response_up (lines_of m) f a b pos apart })
    where
      f : Feeder (lines_of m)
      f = map_feeder (omega arith)

      nearer_first : held b ≤ held a
      nearer_first = rw held_is at l

      pos : 0 < a
      pos = ⊎_elim (λ h. h) (λ h. absurd (omega (arith, ap held (zero_is h), nearer_first, m.started, map_distance b hb, distance_pos (lines_of m) f b (omega arith)))) (cases_lt 0 a)
        where
          zero_is : a ≤ 0 → a ≡ 0
          zero_is h = omega arith

      bus : Bus (lines_of m) a
      bus = (pos, ha)

      apart : OnWay (lines_of m) a b → ⊥
      apart o = ⊎_elim z (λ h. omega (arith, nearer_first, map_distance a ha, map_distance b hb)) (on_lt (lines_of m) f o)

  -- also in a map of no bus a response is symmetric, and to itself a distance
  pub map_response_sym : (a b : ℕ) → response (lines_of m) a b ≡ response (lines_of m) b a
  map_response_sym a b = ⊎_elim (λ h. response_sym (lines_of m) (map_feeder h) a b) (λ h. response_none (lines_of m) a b (omega arith) ∙ sym (response_none (lines_of m) b a (omega arith))) (cases_lt 0 (length (lines_of m)))

  pub map_response_own : (a : ℕ) → response (lines_of m) a a ≡ distance (lines_of m) a
  map_response_own a = ⊎_elim (λ h. response_own (lines_of m) (map_feeder h) a) (λ h. response_none (lines_of m) a a (omega arith) ∙ sym (distance_none (lines_of m) a (omega arith))) (cases_lt 0 (length (lines_of m)))

  -- no bus of a map has a response beyond 1,000,000
  pub map_response_near : (a b : ℕ) → a ≤ length (lines_of m) → response (lines_of m) a b ≤ 1000000
  map_response_near a b l =
      ⊎_elim
      (λ h. omega (arith, response_le (lines_of m) (map_feeder h) a b, map_stands.near a l))
      (λ h. omega (arith, response_none (lines_of m) a b (omega arith)))
      (cases_lt 0 (length (lines_of m)))
