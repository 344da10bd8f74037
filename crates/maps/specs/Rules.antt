-- What the records of a map file have to be, which fault is a file's first, and which lines a file says.
use Rattle.std.specs.Prelude.{◌≡◌, ℕ, zero, suc, ◌+◌, ◌<◌, ◌≤◌, ◌≢◌, List, [], ◌∷◌, ◌++◌, length, ℤ, pos, ◌≤ℤ◌, Some, slice_index_or}
use Rattle.rfc4180.specs.Places.{Piece, start_of}
use Rattle.units.specs.Decimals.{bus_of, Reads}
use Rattle.feeder.specs.declared.line.Line.{Line}
use Rattle.feeder.specs.Feeder.{line_of}
use Rattle.files.specs.declared.fault.FileFault.{FileFault}
use Rattle.files.specs.declared.fault.FileFault.TheVariants.{FieldCount, Form, MapEntry}
use Rattle.files.specs.Fields.{text_at, start_at, HeaderFault}
use Rattle.maps.specs.Columns.{map_columns, IsMapHeader}

-- What a record says.

-- its bus is b, and the bus above it is p
abbrev pub Names : List Piece → ℕ → Type 0
Names row b = bus_of (text_at row 0) ≡ Some b

abbrev pub HasParent : List Piece → ℕ → Type 0
HasParent row p = bus_of (text_at row 1) ≡ Some p

-- its line's resistance is r, in millionths
abbrev pub HasResistance : List Piece → ℤ → Type 0
HasResistance row r = Reads 6 (text_at row 2) (Some r)

-- What it has to be, as the record of bus b in a file of n records behind its header.

-- field k is of its form: a bus number, another, and a resistance
abbrev pub HasForm : List Piece → ℕ → Type 0
HasForm row zero = (b : ℕ) × Names row b
HasForm row (suc zero) = (p : ℕ) × HasParent row p
HasForm row (suc (suc k)) = (r : ℤ) × HasResistance row r

-- a resistance is 1 to 1,000,000 millionths
abbrev pub IsResistance : ℤ → Type 0
IsResistance r = (pos 1 ≤ℤ r) × (r ≤ℤ pos 1000000)

-- field k breaks no rule
abbrev pub IsRightAt : ℕ → ℕ → List Piece → ℕ → Type 0
IsRightAt n b row zero = Names row b × (b ≤ 64)
IsRightAt n b row (suc zero) = (p : ℕ) × HasParent row p × (p ≤ n)
IsRightAt n b row (suc (suc k)) = (r : ℤ) × HasResistance row r × IsResistance r

-- the record breaks no rule
pub record IsRight (n b : ℕ) (row : List Piece) : Type 0 where
  pub fields : length row ≡ 3
  pub each : (k : ℕ) → k < 3 → IsRightAt n b row k

-- no record breaks a rule, the first being that of bus 1
abbrev pub AreRight : ℕ → List (List Piece) → Type 0
AreRight n rows = (k : ℕ) → k < length rows → IsRight n (k + 1) (slice_index_or rows k [])

-- the record has three fields, and those left of field k break no rule
pub record IsRightUpTo (n b : ℕ) (row : List Piece) (k : ℕ) : Type 0 where
  pub fields : length row ≡ 3
  pub within : k < 3
  pub left : (i : ℕ) → i < k → IsRightAt n b row i

-- The first rule that a record breaks: its count of fields; or, all left of the field being right, the field's form or its value.
pub data RecordFault (n b : ℕ) (row : List Piece) : FileFault → Type 0 where
  count : length row ≢ 3 → RecordFault n b row (FieldCount (start_of row))
  form : (k : ℕ) → IsRightUpTo n b row k → (HasForm row k → ⊥) → RecordFault n b row (Form (start_at row k))
  bus : IsRightUpTo n b row 0 → (c : ℕ) → Names row c → (c ≡ b → b ≤ 64 → ⊥) → RecordFault n b row (MapEntry (start_at row 0))
  parent : IsRightUpTo n b row 1 → (p : ℕ) → HasParent row p → n < p → RecordFault n b row (MapEntry (start_at row 1))
  resistance : IsRightUpTo n b row 2 → (r : ℤ) → HasResistance row r → (IsResistance r → ⊥) → RecordFault n b row (MapEntry (start_at row 2))

-- The first fault of the records of a file of so many bytes: its header's; or the header is right, and there is no record behind it;
-- or all records before the one that breaks a rule are right.
pub data FirstFault (bytes : ℕ) (records : List (List Piece)) (fault : FileFault) : Type 0 where
  header : (head : List Piece) (rows : List (List Piece)) → records ≡ head ∷ rows → HeaderFault map_columns 3 head fault → FirstFault bytes records fault
  none : (head : List Piece) → records ≡ head ∷ [] → IsMapHeader head → fault ≡ MapEntry bytes → FirstFault bytes records fault
  body : (head : List Piece) (before : List (List Piece)) (row : List Piece) (behind : List (List Piece)) →
      records ≡ head ∷ (before ++ row ∷ behind) → IsMapHeader head → AreRight (length (before ++ row ∷ behind)) before →
      RecordFault (length (before ++ row ∷ behind)) (length before + 1) row fault → FirstFault bytes records fault

-- a record says the line of a bus
pub record Says (row : List Piece) (line : Line) : Type 0 where
  pub parent : HasParent row line.parent
  pub resistance : HasResistance row (pos line.resistance)

-- nothing is wrong in a file's records, of which there is one for each of the lines that they say
pub record AreLinesOf (records : List (List Piece)) (lines : List Line) : Type 0 where
  pub head : List Piece
  pub rows : List (List Piece)
  pub parts : records ≡ head ∷ rows
  pub header : IsMapHeader head
  pub some : 1 ≤ length rows
  pub right : AreRight (length rows) rows
  pub count : length lines ≡ length rows
  pub says : (k : ℕ) → k < length rows → Says (slice_index_or rows k []) (line_of lines (k + 1))
