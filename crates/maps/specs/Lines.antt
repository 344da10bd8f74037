-- The lines that a map file's records give, one after the other, or the first fault among them.
use Rattle.std.specs.Prelude.{ℕ, ◌+◌, Bool, false, ◌&&◌, List, [], ◌∷◌, ◌++◌, length, ℤ, pos, negsuc, Ok, Err, Result, ◌==◌, nat_le, unsigned_abs}
use Rattle.refusals.specs.Checks.{need, after}
use Rattle.rfc4180.specs.Places.{held, Piece, start_of}
use Rattle.units.specs.Decimals.{bus_of, decimal_of}
use Rattle.feeder.specs.declared.line.Line.{Line}
use Rattle.files.specs.declared.fault.FileFault.{FileFault}
use Rattle.files.specs.declared.fault.FileFault.TheVariants.{Header, FieldCount, Form, MapEntry}
use Rattle.files.specs.Fields.{field_of}
use Rattle.files.specs.Numbers.{number_in}
use Rattle.maps.specs.Columns.{map_header_of}

-- whether a bus is the next one, and at most 64
abbrev pub is_next : ℕ → ℕ → Bool
is_next next b = b == next && nat_le b 64

-- a record's bus
abbrev pub next_of : ℕ → Piece → Result ℕ FileFault
next_of next p = number_in (bus_of (held p.content)) (is_next next) (Form p.start) (MapEntry p.start)

-- a record's parent: the substation, 0, or one of as many buses as the file has records behind its header
abbrev pub upper_of : ℕ → Piece → Result ℕ FileFault
upper_of buses p = number_in (bus_of (held p.content)) (λ b. nat_le b buses) (Form p.start) (MapEntry p.start)

-- whether a resistance is 1 to 1,000,000 millionths
abbrev pub is_resistance : ℤ → Bool
is_resistance (pos n) = nat_le 1 n && nat_le n 1000000
is_resistance (negsuc n) = false

-- a record's resistance in millionths
abbrev pub resistance_in : Piece → Result ℕ FileFault
resistance_in p = after (number_in (decimal_of 6 (held p.content)) is_resistance (Form p.start) (MapEntry p.start)) (λ v. Ok (unsigned_abs v))

-- the line of a record in a file of so many buses, of which this is the next: first the field count, then the fields from the left
abbrev pub line_in : ℕ → ℕ → List Piece → Result Line FileFault
line_in buses next row =
    need (length row == 3) (FieldCount (start_of row))
    (after (next_of next (field_of row 0)) (λ _.
    after (upper_of buses (field_of row 1)) (λ parent.
    after (resistance_in (field_of row 2)) (λ resistance. Ok (record { parent = parent; resistance = resistance })))))

-- record by record, behind the lines that are read already
abbrev pub lines_in : ℕ → List Line → List (List Piece) → Result (List Line) FileFault
lines_in buses lines [] = Ok lines
lines_in buses lines (row ∷ rows) = after (line_in buses (length lines + 1) row) (λ line. lines_in buses (lines ++ line ∷ []) rows)

-- a map file of so many bytes: first its header, then that there is a record behind it, then the records
abbrev pub map_lines : ℕ → List (List Piece) → Result (List Line) FileFault
map_lines bytes [] = Err (Header 0)
map_lines bytes (header ∷ rows) = after (map_header_of header) (λ _. need (nat_le 1 (length rows)) (MapEntry bytes) (lines_in (length rows) [] rows))
