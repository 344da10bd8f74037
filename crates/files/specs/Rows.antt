-- The table that a response file's records fill, one after the other, or the first fault among them.
use Rattle.std.specs.Prelude.{ℕ, ◌+◌, ◌-◌, List, [], ◌∷◌, length, drop, replicate, ℤ, Some, None, Ok, Err, Option, Result, ◌==◌, slice_set}
use Rattle.refusals.specs.Checks.{need, after}
use Rattle.rfc4180.specs.Places.{Piece, start_of}
use Rattle.files.specs.declared.fault.FileFault.{FileFault}
use Rattle.files.specs.declared.fault.FileFault.TheVariants.{Header, FieldCount}
use Rattle.files.specs.declared.table.Table.{Table}
use Rattle.files.specs.Fields.{field_of}
use Rattle.files.specs.Tables.{empty_table}
use Rattle.files.specs.Columns.{header_of}
use Rattle.files.specs.Numbers.{inverter_of, step_of, change_of}

-- the changes of a record, the first of these fields at place n
abbrev pub changes_from : ℤ → ℕ → List (Option ℤ) → List Piece → Result (List (Option ℤ)) FileFault
changes_from step n changes [] = Ok changes
changes_from step n changes (p ∷ ps) = after (change_of step p) (λ v. changes_from step (n + 1) (slice_set changes n v) ps)

-- a place for the change of each of 64 buses
abbrev pub no_changes : List (Option ℤ)
no_changes = replicate 64 None

-- the table with one more inverter
abbrev pub joined : Table → ℕ → ℤ → List (Option ℤ) → Table
joined t m step changes = record { buses = t.buses; probes = slice_set t.probes (m - 1) (Some (record { step = step; changes = changes })) }

-- a record: first its field count, then its fields from the left
abbrev pub row_of : Table → List Piece → Result Table FileFault
row_of t row =
    need (length row == t.buses + 2) (FieldCount (start_of row))
    (after (inverter_of t (field_of row 0)) (λ m.
    after (step_of (field_of row 1)) (λ step.
    after (changes_from step 0 no_changes (drop 2 row)) (λ changes. Ok (joined t m step changes)))))

-- record by record
abbrev pub rows_of : Table → List (List Piece) → Result Table FileFault
rows_of t [] = Ok t
rows_of t (row ∷ rows) = after (row_of t row) (λ next. rows_of next rows)

-- a response file: first its header, then the records
abbrev pub table_of : List (List Piece) → Result Table FileFault
table_of [] = Err (Header 0)
table_of (header ∷ rows) = after (header_of header) (λ n. rows_of (empty_table n) rows)
