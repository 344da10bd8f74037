-- The fields of a record, the names that a header's fields have, and a header's first fault.
use Rattle.std.specs.Prelude.{◌≡◌, ℕ, ◌<◌, List, length, Some, slice_index_or}
use Rattle.std.specs.List.{slice_get}
use Rattle.rfc4180.specs.Places.{nothing, held, Piece, end_of}
use Rattle.files.specs.declared.fault.FileFault.{FileFault}
use Rattle.files.specs.declared.fault.FileFault.TheVariants.{Header}

-- field k of a record, counted from 0
abbrev pub field_of : List Piece → ℕ → Piece
field_of row k = slice_index_or row k (record { content = nothing; start = 0; end = 0 })

-- the bytes that field k counts as, and the place where it starts
abbrev pub text_at : List Piece → ℕ → List ℕ
text_at row k = held (field_of row k).content

abbrev pub start_at : List Piece → ℕ → ℕ
start_at row k = (field_of row k).start

-- field k of a header is the name of column k
abbrev pub NamesColumn : List (List ℕ) → List Piece → ℕ → Type 0
NamesColumn names header k = slice_get names k ≡ Some (text_at header k)

-- The first fault of a header: its first field that is not the name of its column; or all are, and there are fewer than it needs.
pub data HeaderFault (names : List (List ℕ)) (needed : ℕ) (header : List Piece) : FileFault → Type 0 where
  wrong : (k : ℕ) → k < length header → ((i : ℕ) → i < k → NamesColumn names header i) → (NamesColumn names header k → ⊥) →
      HeaderFault names needed header (Header (start_at header k))
  short : ((i : ℕ) → i < length header → NamesColumn names header i) → length header < needed → HeaderFault names needed header (Header (end_of header))
