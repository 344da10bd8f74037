-- The header of a map file: bus, parent, r.
use Rattle.std.specs.Prelude.{◌≡◌, ℕ, zero, suc, Bool, ◌&&◌, List, [], ◌∷◌, map, Ok, codes, Result, ◌==◌, nat_lt}
use Rattle.std.specs.Str.{bytes_eq}
use Rattle.refusals.specs.Checks.{need, after}
use Rattle.rfc4180.specs.Places.{Content, held, Piece, end_of}
use Rattle.files.specs.declared.fault.FileFault.{FileFault}
use Rattle.files.specs.declared.fault.FileFault.TheVariants.{Header}
use Rattle.files.specs.Columns.{columns_of}

-- the names of the columns
abbrev pub map_columns : List (List ℕ)
map_columns = codes "bus" ∷ codes "parent" ∷ codes "r" ∷ []

-- a header: the names of the columns, each in its field
abbrev pub IsMapHeader : List Piece → Type 0
IsMapHeader header = map (λ p. held p.content) header ≡ map_columns

-- The same, field by field.

-- the name of column k, counted from 0
abbrev pub map_column : ℕ → List ℕ
map_column zero = codes "bus"
map_column (suc zero) = codes "parent"
map_column (suc (suc n)) = codes "r"

-- whether field k of the header is right; there are three columns
abbrev pub right_map_column : ℕ → Content → Bool
right_map_column k content = nat_lt k 3 && bytes_eq (held content) (map_column k)

-- the check of a header; where there are fewer than three columns, the fault is at the end of the last field
abbrev pub map_header_of : List Piece → Result (Unit {0}) FileFault
map_header_of ps = after (columns_of right_map_column ps) (λ k. need (k == 3) (Header (end_of ps)) (Ok tt))
