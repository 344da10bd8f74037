-- The text of a map: its header, then a record for each bus, every line ended by CR LF.
use Rattle.std.specs.Prelude.{◌≡◌, ℕ, ◌+◌, ◌/◌, ◌%◌, ◌≤◌, cond, List, [], ◌∷◌, ◌++◌, length, map, pos, Some, codes, nat_lt}
use Rattle.std.specs.List.{join_with_byte}
use Rattle.units.specs.Decimals.{bus_of, Reads}
use Rattle.feeder.specs.declared.line.Line.{Line}
use Rattle.feeder.specs.declared.map.Map.{Map}
use Rattle.feeder.specs.Feeder.{Bus, parent_of, resistance_of}
use Rattle.feeder.specs.View.{lines_of}
use Rattle.printing.specs.Texts.{new_line}
use Rattle.printing.specs.declared.map_text.TheConstants.{MAP_HEADER, MAP_COLUMNS}

-- the digit of n that counts so many units: 1, 10, 100 and so on
abbrev pub digit_at : ℕ → ℕ → ℕ
digit_at n unit = 0x30 + n / unit % 10

-- a number below 1,000 without leading zeros
abbrev pub short_number : ℕ → List ℕ
short_number n =
    cond (nat_lt n 10) (digit_at n 1 ∷ [])
    (cond (nat_lt n 100) (digit_at n 10 ∷ digit_at n 1 ∷ [])
    (digit_at n 100 ∷ digit_at n 10 ∷ digit_at n 1 ∷ []))

-- millionths, below ten of per unit, with one digit before the point and six behind it
abbrev pub per_unit : ℕ → List ℕ
per_unit n =
    digit_at n 1000000 ∷ 0x2E ∷ digit_at n 100000 ∷ digit_at n 10000 ∷ digit_at n 1000
    ∷ digit_at n 100 ∷ digit_at n 10 ∷ digit_at n 1 ∷ []

-- the record of bus b: the bus, its parent and the resistance of its line, a comma between them
abbrev pub line_text : ℕ → Line → List ℕ
line_text b line =
    short_number b ++ 0x2C ∷ (short_number line.parent ++ 0x2C
    ∷ (per_unit line.resistance ++ new_line))

-- the records from bus b on
abbrev pub lines_text : ℕ → List Line → List ℕ
lines_text b [] = []
lines_text b (line ∷ lines) = line_text b line ++ lines_text (b + 1) lines

-- the text of the map of these lines
abbrev pub map_text : List Line → List ℕ
map_text lines = codes "bus,parent,r" ++ (new_line ++ lines_text 1 lines)

-- 2,300 bytes hold the text of any map, and a map of one bus takes 28
abbrev pub MapsAreShort : Type 0
MapsAreShort =
    (m : Map) →
    (length (map_text (lines_of m)) ≤ 2300)
    × (length (lines_of m) ≡ 1 → length (map_text (lines_of m)) ≡ 28)

-- what is written for bus b reads as the bus, its parent and the resistance of its line
pub record ReadsBack (lines : List Line) (b : ℕ) : Type 0 where
  pub bus : bus_of (short_number b) ≡ Some b
  pub parent : bus_of (short_number (parent_of lines b)) ≡ Some (parent_of lines b)
  pub resistance : Reads 6 (per_unit (resistance_of lines b)) (Some (pos (resistance_of lines b)))

-- in the text of any map each number reads as what it stands for
abbrev pub NumbersReadBack : Type 0
NumbersReadBack = (m : Map) (b : ℕ) → Bus (lines_of m) b → ReadsBack (lines_of m) b

-- the header is the names of the columns with a comma between them
abbrev pub HeaderNamesColumns : Type 0
HeaderNamesColumns = MAP_HEADER.now ≡ join_with_byte 0x2C (map (λ name. name.now) MAP_COLUMNS)
