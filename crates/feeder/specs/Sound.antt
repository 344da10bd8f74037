-- What holds of the fields of every map. The distances start with the substation's, at place 0; bus b's is at place b.
use Rattle.std.specs.Prelude.{◌≡◌, ℕ, ◌+◌, ◌≤◌, List, length, slice_index}
use Rattle.feeder.specs.declared.line.Line.{Line}
use Rattle.feeder.specs.Feeder.{Bus, parent_of, resistance_of}

-- at most 127 buses, and no more metered ones than buses
abbrev pub Counted : ℕ → List Line → Type 0
Counted metered lines = (metered ≤ length lines) × (length lines ≤ 127)

-- there is a distance for the substation and one for each bus, and none behind
abbrev pub Placed : List Line → List ℕ → Type 0
Placed lines distances = length distances ≡ length lines + 1

-- each bus's parent is the substation or a bus, and its resistance is positive
abbrev pub Wired : List Line → Type 0
Wired lines = (b : ℕ) → Bus lines b → (parent_of lines b ≤ length lines) × (1 ≤ resistance_of lines b)

-- the substation's distance is 0
abbrev pub Started : List ℕ → Type 0
Started distances = slice_index distances 0 ≡ 0

-- each bus's distance is its parent's plus its own resistance
abbrev pub Measured : List Line → List ℕ → Type 0
Measured lines distances = (b : ℕ) → Bus lines b → slice_index distances b ≡ slice_index distances (parent_of lines b) + resistance_of lines b

-- no bus is farther than 1,000,000
abbrev pub Near : List Line → List ℕ → Type 0
Near lines distances = (b : ℕ) → b ≤ length lines → slice_index distances b ≤ 1000000
