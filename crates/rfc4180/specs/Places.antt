-- The records and fields of a file, each field with its place.
use Rattle.std.specs.Prelude.{◌≡◌, ℕ, ◌+◌, Bool, true, false, not, ◌||◌, List, [], ◌∷◌, length}
use Rattle.rfc4180.specs.Grammar.{Field, plain, quoted, Record, lone, beside, Records, last, above, File, good_records, field_text, record_text, file_text}

-- what a field holds: a plain part and a quoted part hold bytes, a blank has no byte at all
pub data Content : Type 0 where
  plainly : List ℕ → Content
  quotedly : List ℕ → Content
  nothing : Content

-- the bytes that a field counts as
abbrev pub held : Content → List ℕ
held (plainly xs) = xs
held (quotedly xs) = xs
held nothing = []

-- a field in its file: what it holds, the place of its first byte, and the place after its last
pub record Piece : Type 0 where
  pub content : Content
  pub start : ℕ
  pub end : ℕ

abbrev pub content_of : Field → Content
content_of (plain []) = nothing
content_of (plain (x ∷ xs)) = plainly (x ∷ xs)
content_of (quoted xs) = quotedly xs

abbrev pub place_field : ℕ → Field → Piece
place_field at f = record { content = content_of f; start = at; end = at + length (field_text f) }

-- the fields of a record that starts at a place; a comma is one byte
abbrev pub place_record : ℕ → Record → List Piece
place_record at (lone f) = place_field at f ∷ []
place_record at (beside f r) = place_field at f ∷ place_record (at + length (field_text f) + 1) r

-- the records from a place on; CR LF is two bytes
abbrev pub place_records : ℕ → Records → List (List Piece)
place_records at (last r) = place_record at r ∷ []
place_records at (above r rs) = place_record at r ∷ place_records (at + length (record_text r) + 2) rs

-- a record of one field that has no byte
abbrev pub vacant : Record → Bool
vacant (lone (plain [])) = true
vacant (lone (plain (x ∷ xs))) = false
vacant (lone (quoted xs)) = false
vacant (beside f r) = false

-- the last of two or more records is vacant
abbrev pub trailing : Records → Bool
trailing (last r) = false
trailing (above r (last s)) = vacant s
trailing (above r (above s rs)) = trailing (above s rs)

-- The file that the bytes write. A CR LF at the end closes the last record and opens no further one.
pub record Parse (f : File) (bytes : List ℕ) : Type 0 where
  pub good : good_records f.records ≡ true
  pub closing : (f.closed || not (trailing f.records)) ≡ true
  pub text : file_text f ≡ bytes

-- the records of a file
abbrev pub records_of : File → List (List Piece)
records_of f = place_records 0 f.records

-- where a record starts and ends: its first field's start, its last field's end
abbrev pub start_of : List Piece → ℕ
start_of [] = 0
start_of (p ∷ ps) = p.start

abbrev pub end_of : List Piece → ℕ
end_of [] = 0
end_of (p ∷ []) = p.end
end_of (p ∷ q ∷ qs) = end_of (q ∷ qs)
