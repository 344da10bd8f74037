-- The header of a response file: probe, step, then the bus numbers from 1 on.
use Rattle.std.specs.Prelude.{◌≡◌, ℕ, zero, suc, ◌+◌, ◌-◌, ◌/◌, ◌%◌, ◌≤◌, Bool, cond, ◌&&◌, List, [], ◌∷◌, map, Ok, codes, decimal, Result, nat_lt}
use Rattle.std.specs.List.{range_with_len}
use Rattle.std.specs.Str.{bytes_eq}
use Rattle.refusals.specs.Checks.{need, after}
use Rattle.rfc4180.specs.Places.{Content, held, Piece, end_of}
use Rattle.files.specs.declared.fault.FileFault.{FileFault}
use Rattle.files.specs.declared.fault.FileFault.TheVariants.{Header}

-- the names of the columns of a file of n buses
abbrev pub column_names : ℕ → List (List ℕ)
column_names n = codes "probe" ∷ codes "step" ∷ map decimal (range_with_len 1 n)

-- those of a file of one bus
abbrev pub fewest_columns : ℕ
fewest_columns = 3

-- a header of n buses: the names of its columns, each in its field
pub record IsHeader (n : ℕ) (header : List Piece) : Type 0 where
  pub some : 1 ≤ n
  pub most : n ≤ 64
  pub names : map (λ p. held p.content) header ≡ column_names n

-- The same, field by field.

-- a bus number below 100 without leading zeros
abbrev pub bus_name : ℕ → List ℕ
bus_name n = cond (nat_lt n 10) ((0x30 + n) ∷ []) ((0x30 + n / 10) ∷ (0x30 + n % 10) ∷ [])

-- the name of column k, counted from 0
abbrev pub column_name : ℕ → List ℕ
column_name zero = codes "probe"
column_name (suc zero) = codes "step"
column_name (suc (suc n)) = bus_name (n + 1)

-- whether field k of the header is right; there are at most 64 buses, and so 66 columns
abbrev pub right_column : ℕ → Content → Bool
right_column k content = nat_lt k 66 && bytes_eq (held content) (column_name k)

-- how many fields a header has from field k on, or the first that is not right
abbrev pub columns_from : (ℕ → Content → Bool) → ℕ → List Piece → Result ℕ FileFault
columns_from right k [] = Ok k
columns_from right k (p ∷ ps) = need (right k p.content) (Header p.start) (columns_from right (k + 1) ps)

abbrev pub columns_of : (ℕ → Content → Bool) → List Piece → Result ℕ FileFault
columns_of right ps = columns_from right 0 ps

-- the number of buses that a header names, behind two columns; where there are fewer than three, the fault is at the end of the last field
abbrev pub header_of : List Piece → Result ℕ FileFault
header_of ps = after (columns_of right_column ps) (λ k. need (nat_lt 2 k) (Header (end_of ps)) (Ok (k - 2)))
