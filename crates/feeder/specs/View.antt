-- What a map says: its feeder's lines, and how many buses are metered.
use Rattle.std.specs.Prelude.{◌≡◌, ℕ, ◌<◌, ◌≤◌, Bool, true, cond, ◌&&◌, List, length, Some, None, Option, nat_le, nat_lt}
use Rattle.feeder.specs.declared.line.Line.{Line}
use Rattle.feeder.specs.declared.kind.Kind.{Kind}
use Rattle.feeder.specs.declared.map.Map.{Map}
use Rattle.feeder.specs.Feeder.{Feeder, Bus, End, distance}
use Rattle.feeder.specs.Table.{Table, Drawn}

-- the lines of the map's buses, bus 1 first
abbrev pub lines_of : Map → List Line
lines_of m = m.lines.items

-- the buses 1 to this are metered
abbrev pub metered_of : Map → ℕ
metered_of m = m.metered

-- whether b is a bus of the list of lines, the substation not counted
abbrev pub is_bus : List Line → ℕ → Bool
is_bus F b = nat_lt 0 b && nat_le b (length F)

-- the number x where a question has an answer
abbrev pub asked : Bool → ℕ → Option ℕ
asked b x = cond b (Some x) None

-- an answer to whether b is an end: none for a number that is no bus
abbrev pub TellsEnd : List Line → ℕ → Option Bool → Type 0
TellsEnd F b None = Bus F b → ⊥
TellsEnd F b (Some e) = Bus F b × (e ≡ true → End F b) × (End F b → e ≡ true)

-- what every map is: at most 127 buses, and no more metered ones; a feeder, if it has a bus; no bus farther than 1,000,000
pub record Stands (m : Map) : Type 0 where
  pub counted : length (lines_of m) ≤ 127
  pub metered : metered_of m ≤ length (lines_of m)
  pub feeder : 0 < length (lines_of m) → Feeder (lines_of m)
  pub near : (b : ℕ) → b ≤ length (lines_of m) → distance (lines_of m) b ≤ 1000000

-- a map is what it says: two of the same lines, with as many metered buses, are equal
abbrev pub MapsAreTheirLines : Type 0
MapsAreTheirLines = (a b : Map) → metered_of a ≡ metered_of b → lines_of a ≡ lines_of b → a ≡ b

-- a map is drawn from a table: it has the table's metered buses, and its feeder is drawn from the table
abbrev pub DrawnMap : Kind → Table → Map → Type 0
DrawnMap K T m = (metered_of m ≡ T.metered) × Drawn K T (lines_of m)
