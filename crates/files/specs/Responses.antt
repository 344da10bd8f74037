-- What the records of a response file have to be, which fault is a file's first, and what reading a file answers.
use Rattle.std.specs.Prelude.{◌≡◌, ℕ, zero, suc, ◌+◌, ◌<◌, ◌≤◌, true, ◌≢◌, ◌⊎◌, List, [], ◌∷◌, ◌++◌, length, take, drop, ℤ, pos, ◌*ℤ◌, Some, None, Ok, Err, Option, Result, Contains, slice_index_or, unsigned_abs}
use Rattle.rfc4180.specs.declared.fault.Fault.TheVariants.{TooLong, Syntax}
use Rattle.rfc4180.specs.Grammar.{File, Impossible}
use Rattle.rfc4180.specs.Places.{nothing, Piece, Parse, records_of, start_of}
use Rattle.units.specs.Decimals.{bus_of, Reads}
use Rattle.units.specs.Quotients.{Moderate, Divides}
use Rattle.files.specs.declared.fault.FileFault.{FileFault}
use Rattle.files.specs.declared.fault.FileFault.TheVariants.{Bytes, FieldCount, Form, Inverter, Step, Change}
use Rattle.files.specs.declared.table.Probe.{Probe}
use Rattle.files.specs.declared.table.Table.{Table}
use Rattle.files.specs.Fields.{field_of, text_at, start_at, HeaderFault}
use Rattle.files.specs.Columns.{column_names, fewest_columns, IsHeader}
use Rattle.files.specs.Tables.{probe_of, change_at, response_at, mute_of}

-- What a record says.

-- it names inverter m
abbrev pub Names : List Piece → ℕ → Type 0
Names row m = bus_of (text_at row 0) ≡ Some m

-- its step is s, in thousandths
abbrev pub HasStep : List Piece → ℤ → Type 0
HasStep row s = Reads 3 (text_at row 1) (Some s)

-- it has no byte for bus n
abbrev pub IsBlankAt : List Piece → ℕ → Type 0
IsBlankAt row n = (field_of row (n + 1)).content ≡ nothing

-- it gives the voltage change v for bus n, in billionths
abbrev pub Gives : List Piece → ℕ → ℤ → Type 0
Gives row n v = Reads 9 (text_at row (n + 1)) (Some v)

-- it gives this change for bus n, or none where it is blank
abbrev pub GivesIfAny : List Piece → ℕ → Option ℤ → Type 0
GivesIfAny row n None = IsBlankAt row n
GivesIfAny row n (Some v) = Gives row n v

-- What it has to be, in a file of n buses, behind the records before it.

-- some record of these names inverter m
abbrev pub IsNamed : List (List Piece) → ℕ → Type 0
IsNamed rows m = (row : List Piece) × Contains rows row × Names row m

-- field k is of its form: a bus number, a step, and then a change or a blank for each bus
abbrev pub HasForm : List Piece → ℕ → Type 0
HasForm row zero = (m : ℕ) × Names row m
HasForm row (suc zero) = (s : ℤ) × HasStep row s
HasForm row (suc (suc k)) = (v : Option ℤ) × GivesIfAny row (k + 1) v

-- m is one of the buses 1 to n and was not named before
abbrev pub IsFree : ℕ → List (List Piece) → ℕ → Type 0
IsFree n before m = (1 ≤ m) × (m ≤ n) × (IsNamed before m → ⊥)

-- a step is not 0 and at most 1,000 thousandths either way
abbrev pub IsStep : ℤ → Type 0
IsStep s = (1 ≤ unsigned_abs s) × (unsigned_abs s ≤ 1000)

-- some response within 1,000,000 either way, times the step, is the change
abbrev pub HasResponse : ℤ → ℤ → Type 0
HasResponse s v = (q : ℤ) × Divides v s (Some q)

-- field k breaks no rule
abbrev pub IsRightAt : ℕ → List (List Piece) → List Piece → ℕ → Type 0
IsRightAt n before row zero = (m : ℕ) × Names row m × IsFree n before m
IsRightAt n before row (suc zero) = (s : ℤ) × HasStep row s × IsStep s
IsRightAt n before row (suc (suc k)) = IsBlankAt row (k + 1) ⊎ ((v s : ℤ) × Gives row (k + 1) v × HasStep row s × HasResponse s v)

-- the record breaks no rule
pub record IsRight (n : ℕ) (before : List (List Piece)) (row : List Piece) : Type 0 where
  pub fields : length row ≡ n + 2
  pub each : (k : ℕ) → k < n + 2 → IsRightAt n before row k

-- no record breaks a rule, each behind those before it
abbrev pub AreRight : ℕ → List (List Piece) → Type 0
AreRight n rows = (k : ℕ) → k < length rows → IsRight n (take k rows) (slice_index_or rows k [])

-- the fields left of field k break no rule, and the record has as many as the header
pub record IsRightUpTo (n : ℕ) (before : List (List Piece)) (row : List Piece) (k : ℕ) : Type 0 where
  pub fields : length row ≡ n + 2
  pub within : k < n + 2
  pub left : (i : ℕ) → i < k → IsRightAt n before row i

-- The first rule that a record breaks: its count of fields; or, all left of the field being right, the field's form or its value.
pub data RecordFault (n : ℕ) (before : List (List Piece)) (row : List Piece) : FileFault → Type 0 where
  count : length row ≢ n + 2 → RecordFault n before row (FieldCount (start_of row))
  form : (k : ℕ) → IsRightUpTo n before row k → (HasForm row k → ⊥) → RecordFault n before row (Form (start_at row k))
  inverter : IsRightUpTo n before row 0 → (m : ℕ) → Names row m → (IsFree n before m → ⊥) → RecordFault n before row (Inverter (start_at row 0))
  step : IsRightUpTo n before row 1 → (s : ℤ) → HasStep row s → (IsStep s → ⊥) → RecordFault n before row (Step (start_at row 1))
  change : (b : ℕ) → IsRightUpTo n before row (b + 2) → (v s : ℤ) → Gives row (b + 1) v → HasStep row s → (HasResponse s v → ⊥) →
      RecordFault n before row (Change (start_at row (b + 2)))

-- The first fault of a file's records: its header's; or the header is right, and so are all records before the one that breaks a rule.
pub data FirstFault (records : List (List Piece)) (fault : FileFault) : Type 0 where
  header : (head : List Piece) (rows : List (List Piece)) → records ≡ head ∷ rows → HeaderFault (column_names 64) fewest_columns head fault → FirstFault records fault
  body : (n : ℕ) (head : List Piece) (before : List (List Piece)) (row : List Piece) (behind : List (List Piece)) →
      records ≡ head ∷ (before ++ row ∷ behind) → IsHeader n head → AreRight n before → RecordFault n before row fault → FirstFault records fault

-- What the table of a file holds that is right.

-- the table holds what a record gives
pub record Holds (t : Table) (row : List Piece) : Type 0 where
  pub inverter : ℕ
  pub names : Names row inverter
  pub first : 1 ≤ inverter
  pub last : inverter ≤ t.buses
  pub probe : Probe
  pub stands : probe_of t inverter ≡ Some probe
  pub step : HasStep row probe.step
  pub changes : (n : ℕ) → 1 ≤ n → n ≤ t.buses → GivesIfAny row n (change_at probe n)

-- what was probed has a place for the change of each of 64 buses, and nothing past the last bus
pub record IsProbe (buses : ℕ) (p : Probe) : Type 0 where
  pub places : length p.changes ≡ 64
  pub past : (n : ℕ) → buses < n → change_at p n ≡ None

-- the table holds what the records give, and nothing else
pub record IsTableOf (rows : List (List Piece)) (t : Table) : Type 0 where
  pub each : (row : List Piece) → Contains rows row → Holds t row
  pub only : (m : ℕ) (p : Probe) → 1 ≤ m → probe_of t m ≡ Some p → IsNamed rows m
  pub places : length t.probes ≡ 64
  pub probes : (m : ℕ) (p : Probe) → 1 ≤ m → probe_of t m ≡ Some p → IsProbe t.buses p

-- nothing is wrong in a file's records, and the table is theirs
pub record IsFileOf (records : List (List Piece)) (t : Table) : Type 0 where
  pub head : List Piece
  pub rows : List (List Piece)
  pub parts : records ≡ head ∷ rows
  pub header : IsHeader t.buses head
  pub right : AreRight t.buses rows
  pub table : IsTableOf rows t

-- The bytes are too many; or they are no file, and i is the place; or they write the file f, which has a first fault, or none and a table.
pub data Reading (bytes : List ℕ) (r : Result Table FileFault) : Type 0 where
  long : 65536 < length bytes → r ≡ Err (Bytes TooLong) → Reading bytes r
  broken : (i : ℕ) → length bytes ≤ 65536 → Impossible bytes i → r ≡ Err (Bytes (Syntax i)) → Reading bytes r
  faulty : (f : File) (fault : FileFault) → length bytes ≤ 65536 → Parse f bytes → FirstFault (records_of f) fault → r ≡ Err fault → Reading bytes r
  sound : (f : File) (t : Table) → length bytes ≤ 65536 → Parse f bytes → IsFileOf (records_of f) t → r ≡ Ok t → Reading bytes r

-- a file has exactly one outcome
abbrev pub OutcomesAreUnique : Type 0
OutcomesAreUnique = (bytes : List ℕ) (a b : Result Table FileFault) → Reading bytes a → Reading bytes b → a ≡ b

-- a file whose header is right and whose records break no rule has a table
abbrev pub RightFilesAreRead : Type 0
RightFilesAreRead =
    (bytes : List ℕ) (f : File) (n : ℕ) (head : List Piece) (rows : List (List Piece)) →
    length bytes ≤ 65536 → Parse f bytes → records_of f ≡ head ∷ rows → IsHeader n head → AreRight n rows →
    (t : Table) × Reading bytes (Ok t)

-- What follows from the table, in the words of the records: each response times the record's step is its change, and 0 for a blank;
-- and the meters that are mute are those of the buses where some record is blank.
pub record Tells (rows : List (List Piece)) (t : Table) : Type 0 where
  pub responds : (row : List Piece) (m : ℕ) (p : Probe) → Contains rows row → Names row m → probe_of t m ≡ Some p → (n : ℕ) (v s : ℤ) → 1 ≤ n → n ≤ t.buses → Gives row n v → HasStep row s →
      (response_at p n *ℤ s ≡ v) × Moderate (response_at p n)
  pub zero : (row : List Piece) (m : ℕ) (p : Probe) → Contains rows row → Names row m → probe_of t m ≡ Some p → (n : ℕ) → 1 ≤ n → n ≤ t.buses → IsBlankAt row n → response_at p n ≡ pos 0
  pub blank : (row : List Piece) (n : ℕ) → Contains rows row → 1 ≤ n → n ≤ t.buses → IsBlankAt row n → mute_of t n ≡ true
  pub mute : (n : ℕ) → mute_of t n ≡ true → (1 ≤ n) × (n ≤ t.buses) × ((row : List Piece) × Contains rows row × IsBlankAt row n)

-- whatever file the bytes write, the table tells what its records say behind the header
abbrev pub FileTells : List ℕ → Table → Type 0
FileTells bytes t = (f : File) → Parse f bytes → Tells (drop 1 (records_of f)) t

-- each table that a file has tells what its records say
abbrev pub TablesTell : Type 0
TablesTell = (bytes : List ℕ) (t : Table) → Reading bytes (Ok t) → FileTells bytes t
