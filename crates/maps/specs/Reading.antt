-- What reading a map file answers, and which map then fills the place.
use Rattle.std.specs.Prelude.{◌≡◌, ℕ, ◌<◌, ◌≤◌, ◌⊎◌, List, ◌∷◌, length, Ok, Err, Result}
use Rattle.arrayvec.specs.ArrayVec.{ArrayVec}
use Rattle.rfc4180.specs.declared.fault.Fault.TheVariants.{TooLong, Syntax}
use Rattle.rfc4180.specs.Grammar.{File, Impossible}
use Rattle.rfc4180.specs.Places.{Piece, Parse, records_of}
use Rattle.feeder.specs.declared.line.Line.{Line}
use Rattle.feeder.specs.declared.fault.Fault.{Fault}
use Rattle.feeder.specs.declared.fault.Fault.TheVariants.{TooMany, Overmetered, Flawed, Beyond}
use Rattle.feeder.specs.declared.map.Map.{Map}
use Rattle.feeder.specs.Build.{IsBeyond, Lowest}
use Rattle.feeder.specs.View.{lines_of, metered_of}
use Rattle.files.specs.declared.fault.FileFault.{FileFault}
use Rattle.files.specs.declared.fault.FileFault.TheVariants.{Bytes, Unreached}
use Rattle.maps.specs.Columns.{IsMapHeader}
use Rattle.maps.specs.Rules.{AreRight, FirstFault, AreLinesOf}

-- the lines that were read, or the fault
abbrev pub items_in : Result (ArrayVec Line) FileFault → Result (List Line) FileFault
items_in (Ok lines) = Ok lines.items
items_in (Err fault) = Err fault

-- the bus that a fault of lines names, 0 where it names none
abbrev pub fault_bus : Fault → ℕ
fault_bus TooMany = 0
fault_bus Overmetered = 0
fault_bus (Flawed bus) = bus
fault_bus (Beyond bus) = bus

-- The bytes are too many; or they are no file, and i is the place; or they write the file f. That has a first fault; or its lines have b for
-- the lowest bus that does not reach the substation within the distance 1,000,000; or they are those of the map m, in which every bus is metered.
pub data MapReading (bytes : List ℕ) (r : Result Map FileFault) : Type 0 where
  long : 65536 < length bytes → r ≡ Err (Bytes TooLong) → MapReading bytes r
  broken : (i : ℕ) → length bytes ≤ 65536 → Impossible bytes i → r ≡ Err (Bytes (Syntax i)) → MapReading bytes r
  faulty : (f : File) (fault : FileFault) → length bytes ≤ 65536 → Parse f bytes → FirstFault (length bytes) (records_of f) fault → r ≡ Err fault → MapReading bytes r
  unreached : (f : File) (lines : List Line) (b : ℕ) → length bytes ≤ 65536 → Parse f bytes → AreLinesOf (records_of f) lines → Lowest lines (IsBeyond lines) b →
      r ≡ Err (Unreached b) → MapReading bytes r
  drawn : (f : File) (m : Map) → length bytes ≤ 65536 → Parse f bytes → AreLinesOf (records_of f) (lines_of m) → metered_of m ≡ length (lines_of m) →
      r ≡ Ok m → MapReading bytes r

-- the outcome is the map of these lines, or names their lowest bus that is beyond
abbrev pub IsMapOrBeyond : List Line → Result Map FileFault → Type 0
IsMapOrBeyond lines r = ((m : Map) × (lines_of m ≡ lines) × (r ≡ Ok m)) ⊎ ((b : ℕ) × Lowest lines (IsBeyond lines) b × (r ≡ Err (Unreached b)))

-- a map file has exactly one outcome
abbrev pub MapOutcomesAreUnique : Type 0
MapOutcomesAreUnique = (bytes : List ℕ) (a b : Result Map FileFault) → MapReading bytes a → MapReading bytes b → a ≡ b

-- a file whose header is right, with records behind it that break no rule, says lines; it has their map, unless some bus is beyond
abbrev pub RightMapsAreRead : Type 0
RightMapsAreRead =
    (bytes : List ℕ) (f : File) (head : List Piece) (rows : List (List Piece)) (r : Result Map FileFault) →
    length bytes ≤ 65536 → Parse f bytes → records_of f ≡ head ∷ rows → IsMapHeader head → 1 ≤ length rows → AreRight (length rows) rows →
    MapReading bytes r → (lines : List Line) × AreLinesOf (records_of f) lines × IsMapOrBeyond lines r
