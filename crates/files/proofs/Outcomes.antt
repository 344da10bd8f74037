-- What reading a response file answers, from what opening it and reading its records answer.
use Rattle.std.proofs.Common.{◌≡◌, ℕ, ◌≤◌, true, List, length, drop, Ok, Err, Result, sym, refl, ap, ◌∙◌, subst, arith}
use Rattle.refusals.specs.Checks.{Fills}
use Rattle.refusals.proofs.Checks.{clash}
use Rattle.rfc4180.specs.declared.fault.Fault.{Fault}
use Rattle.rfc4180.specs.declared.fault.Fault.TheVariants.{TooLong, Syntax}
use Rattle.rfc4180.specs.declared.reader.Reader.{Reader}
use Rattle.rfc4180.specs.Grammar.{File}
use Rattle.rfc4180.specs.Places.{Piece, Parse, records_of}
use Rattle.rfc4180.specs.Opening.{Opening}
use Rattle.rfc4180.specs.Views.{left}
use Rattle.rfc4180.proofs.Unique.{unique}
use Rattle.rfc4180.proofs.Possible.{parsed, one_impossible, records_some}
use Rattle.files.specs.declared.fault.FileFault.{FileFault}
use Rattle.files.specs.declared.fault.FileFault.TheVariants.{Bytes}
use Rattle.files.specs.declared.table.Table.{Table}
use Rattle.files.specs.Rows.{table_of}
use Rattle.files.specs.Tables.{mute_of}
use Rattle.files.specs.Responses.{Holds, IsFileOf, Reading, long, broken, faulty, sound, OutcomesAreUnique, RightFilesAreRead, Tells, TablesTell}
use Rattle.files.proofs.Files.{file_ok, file_err, fault_file, file_right, right_read}
use Rattle.files.proofs.Tellings.{tells, file_tells}

-- From what the code found.

pub unopened : (bytes : List ℕ) (t : Table) (fault : Fault) → Opening {kept = 67} bytes (Err fault) → Fills (Reading bytes) t t (Err (Bytes fault))
unopened bytes t TooLong h = (long h refl, refl)
unopened bytes t (Syntax i) h = (broken i h.0 h.1 refl, refl)

pub unread : (bytes : List ℕ) (t : Table) (reader : Reader 67) (fault : FileFault) → Opening bytes (Ok reader) → Err fault ≡ table_of (left reader) → Fills (Reading bytes) t t (Err fault)
unread bytes t reader fault h e =
    let file = h.1.file in
    let found : table_of (records_of file) ≡ Err fault = ap table_of (sym h.1.records) ∙ sym e in
    (faulty file fault h.0 h.1.parse (file_err (records_of file) fault (records_some file) found) refl, refl)

pub filled : (bytes : List ℕ) (new : Table) (reader : Reader 67) → Opening bytes (Ok reader) → Ok new ≡ table_of (left reader) → Reading bytes (Ok new)
filled bytes new reader h e =
    let file = h.1.file in
    let found : table_of (records_of file) ≡ Ok new = ap table_of (sym h.1.records) ∙ sym e in
    sound file new h.0 h.1.parse (file_ok (records_of file) new found) refl

-- a file's outcome is that of checking its records one after the other
short_outcome : (bytes : List ℕ) (r : Result Table FileFault) → length bytes ≤ 65536 → Reading bytes r → (f : File) → Parse f bytes → r ≡ table_of (records_of f)
short_outcome bytes r few (long h e) f parse = absurd (omega (arith, h, few))
short_outcome bytes r few (broken i h bad e) f parse = absurd (parsed bytes f i parse bad)
short_outcome bytes r few (faulty g fault h other first e) f parse =
    e ∙ sym (fault_file (records_of g) fault first) ∙ ap (λ (x : File). table_of (records_of x)) (unique g f bytes other parse)
short_outcome bytes r few (sound g t h other file e) f parse =
    e ∙ sym (file_right (records_of g) t file) ∙ ap (λ (x : File). table_of (records_of x)) (unique g f bytes other parse)

pub outcomes_are_unique : OutcomesAreUnique
outcomes_are_unique bytes a b (long h e) (long k f) = e ∙ sym f
outcomes_are_unique bytes a b (long h e) (broken j k bad f) = absurd (omega (arith, h, k))
outcomes_are_unique bytes a b (long h e) (faulty g fault k parse first f) = absurd (omega (arith, h, k))
outcomes_are_unique bytes a b (long h e) (sound g t k parse file f) = absurd (omega (arith, h, k))
outcomes_are_unique bytes a b (broken i h bad e) (long k f) = absurd (omega (arith, h, k))
outcomes_are_unique bytes a b (broken i h bad e) (broken j k worse f) = e ∙ ap (λ n. Err (Bytes (Syntax n))) (one_impossible bytes i j bad worse) ∙ sym f
outcomes_are_unique bytes a b (broken i h bad e) (faulty g fault k parse first f) = absurd (parsed bytes g i parse bad)
outcomes_are_unique bytes a b (broken i h bad e) (sound g t k parse file f) = absurd (parsed bytes g i parse bad)
outcomes_are_unique bytes a b (faulty g fault h parse first e) other =
    let own : Reading bytes a = faulty g fault h parse first e in
    short_outcome bytes a h own g parse ∙ sym (short_outcome bytes b h other g parse)
outcomes_are_unique bytes a b (sound g t h parse file e) other =
    let own : Reading bytes a = sound g t h parse file e in
    short_outcome bytes a h own g parse ∙ sym (short_outcome bytes b h other g parse)

pub right_files_are_read : RightFilesAreRead
right_files_are_read bytes f n head rows few parse parts named all =
    let found = right_read (records_of f) n head rows parts named all in
    (found.0, sound f found.0 few parse found.1 refl)

-- Of an accepted table.

same_ok : {T E : Type 0} {x y : T} → ◌≡◌ {A = Result T E} (Ok x) (Ok y) → x ≡ y
same_ok e = cc

-- the file that it is read from, of which nothing is wrong
pub accepted : (bytes : List ℕ) (t : Table) → Reading bytes (Ok t) → (f : File) × Parse f bytes × IsFileOf (records_of f) t
accepted bytes t (long h e) = clash cc
accepted bytes t (broken i h bad e) = clash cc
accepted bytes t (faulty f fault h parse first e) = clash cc
accepted bytes t (sound f u h parse file e) = (f, parse, subst (IsFileOf (records_of f)) (sym (same_ok e)) file)

pub tables_tell : TablesTell
tables_tell bytes t reading f parse =
    let found = accepted bytes t reading in
    subst (λ (x : File). Tells (drop 1 (records_of x)) t) (unique found.0 f bytes found.1 parse) (file_tells (records_of found.0) t found.2)

-- a table that was read has an inverter where it has a mute meter
pub mute_has_inverter : (bytes : List ℕ) (t : Table) → Reading bytes (Ok t) → (n : ℕ) → mute_of t n ≡ true → (row : List Piece) × Holds t row
mute_has_inverter bytes t reading n m =
    let file = (accepted bytes t reading).2 in
    let found = ((tells file.rows t file.header.most file.right file.table).mute n m).2 in
    (found.0, file.table.each found.0 found.1)
