-- Feeders: a list of lines, and what follows from the list alone.
use Rattle.std.specs.Prelude.{ℕ, ◌-◌, ◌<◌, ◌≤◌, List, length, sum_by, ◌≢◌, slice_index_or}
use Rattle.feeder.specs.declared.line.Line.{Line}
use Rattle.feeder.specs.Way.{Way, On, climb, shared}

-- what a number that is no bus reads: a line of the least resistance to the substation
abbrev pub blank : Line
blank = record { parent = 0; resistance = 1 }

-- the line of bus b, at place b - 1 of the list
abbrev pub line_of : List Line → ℕ → Line
line_of F b = slice_index_or F (b - 1) blank

-- the bus at the upper end of b's line, 0 for the substation
abbrev pub parent_of : List Line → ℕ → ℕ
parent_of F b = (line_of F b).parent

-- the resistance of b's line, in millionths of per unit
abbrev pub resistance_of : List Line → ℕ → ℕ
resistance_of F b = (line_of F b).resistance

-- the buses are numbered from 1; the substation is not counted
abbrev pub Bus : List Line → ℕ → Type 0
Bus F b = (0 < b) × (b ≤ length F)

-- a feeder: at least one bus besides the substation, each with a parent, a positive resistance and a way
pub record Feeder (F : List Line) : Type 0 where
  pub some : 0 < length F
  pub parents : (b : ℕ) → Bus F b → parent_of F b ≤ length F
  pub resists : (b : ℕ) → Bus F b → 1 ≤ resistance_of F b
  pub reaches : (b : ℕ) → Bus F b → (w : List ℕ) × Way (parent_of F) b w

-- the bus c lies on the way of b
abbrev pub OnWay : List Line → ℕ → ℕ → Type 0
OnWay F c b = On (parent_of F) c b

-- the way of b, found by going up as many lines as the feeder has, since no way has more
unfoldable pub way : List Line → ℕ → List ℕ
way F b = climb (length F) (parent_of F) b

-- the sum of the resistances on the way of b
unfoldable pub distance : List Line → ℕ → ℕ
distance F b = sum_by (resistance_of F) (way F b)

-- the response of n to m: the sum of the resistances of the lines that lie on both ways
unfoldable pub response : List Line → ℕ → ℕ → ℕ
response F n m = sum_by (resistance_of F) (shared (way F n) (way F m))

-- a bus that is nobody's parent
abbrev pub End : List Line → ℕ → Type 0
End F b = Bus F b × ((c : ℕ) → Bus F c → parent_of F c ≢ b)
