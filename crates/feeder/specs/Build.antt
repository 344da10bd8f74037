-- When a list of lines makes a map, and which fault it has otherwise.
use Rattle.std.specs.Prelude.{◌≡◌, ℕ, ◌+◌, ◌<◌, ◌≤◌, ◌⊎◌, List, length, sum_by, slice_index, slice_index_or}
use Rattle.feeder.specs.declared.line.Line.{Line}
use Rattle.feeder.specs.declared.fault.Fault.{Fault}
use Rattle.feeder.specs.declared.fault.Fault.TheVariants.{TooMany, Overmetered, Flawed, Beyond}
use Rattle.feeder.specs.Way.{Way}
use Rattle.feeder.specs.Feeder.{Feeder, Bus, parent_of, resistance_of, distance}

-- bus b reaches the substation, and d is the sum of the resistances on its way
abbrev pub Reaches : List Line → ℕ → ℕ → Type 0
Reaches F b d = (w : List ℕ) × Way (parent_of F) b w × (sum_by (resistance_of F) w ≡ d)

-- bus b does not reach the substation within the distance 1,000,000
abbrev pub IsBeyond : List Line → ℕ → Type 0
IsBeyond F b = (d : ℕ) → Reaches F b d → d ≤ 1000000 → ⊥

-- the list has the substation's distance, 0, then each bus's, at most 1,000,000, and ends there
pub record Tabled (F : List Line) (distances : List ℕ) : Type 0 where
  pub places : length distances ≡ length F + 1
  pub start : slice_index_or distances 0 0 ≡ 0
  pub buses : (b : ℕ) → Bus F b → Reaches F b (slice_index distances b)
  pub near : (b : ℕ) → Bus F b → slice_index distances b ≤ 1000000

-- the parent of bus b is neither a bus nor the substation, or its line has no resistance
abbrev pub IsFlawed : List Line → ℕ → Type 0
IsFlawed F b = (length F < parent_of F b) ⊎ (resistance_of F b ≡ 0)

-- b is the lowest bus with the property
abbrev pub Lowest : List Line → (ℕ → Type 0) → ℕ → Type 0
Lowest F P b = Bus F b × P b × ((c : ℕ) → 0 < c → c < b → P c → ⊥)

-- the fault of a list of lines with so many metered buses; a fault is named only where none before it holds
abbrev pub Refused : ℕ → List Line → Fault → Type 0
Refused metered F TooMany = 127 < length F
Refused metered F Overmetered = (length F ≤ 127) × (length F < metered)
Refused metered F (Flawed b) = (length F ≤ 127) × (metered ≤ length F) × Lowest F (IsFlawed F) b
Refused metered F (Beyond b) = (length F ≤ 127) × (metered ≤ length F) × ((c : ℕ) → Bus F c → IsFlawed F c → ⊥) × Lowest F (IsBeyond F) b

-- no feeder within the limits is refused: at most 127 buses, no more metered ones, no bus farther than 1,000,000
abbrev pub FeedersMakeMaps : Type 0
FeedersMakeMaps = (metered : ℕ) (F : List Line) → Feeder F → length F ≤ 127 → metered ≤ length F → ((b : ℕ) → Bus F b → distance F b ≤ 1000000) → (e : Fault) → Refused metered F e → ⊥
