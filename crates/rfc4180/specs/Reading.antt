-- What a reader finds in a file's bytes from a place on.
use Rattle.std.specs.Prelude.{ℕ, zero, suc, ◌+◌, Bool, cond, ◌&&◌, List, [], ◌∷◌, length, take, drop, Some, None, Option, ◌==◌, nat_lt, slice_index}
use Rattle.std.specs.List.{prefix_len}
use Rattle.rfc4180.specs.Grammar.{text_data}
use Rattle.rfc4180.specs.Places.{Content, plainly, quotedly, nothing, Piece}

-- how many bytes stand before the closing quote: the first quote that no other follows, each pair of quotes passed over
abbrev pub held_length : List ℕ → ℕ
held_length [] = 0
held_length (x ∷ []) = cond (x == 0x22) 0 1
held_length (x ∷ y ∷ ys) = cond (x == 0x22) (cond (y == 0x22) (held_length ys + 2) 0) (held_length (y ∷ ys) + 1)

-- the bytes between quotes with each pair of quotes made one
abbrev pub undoubled : List ℕ → List ℕ
undoubled [] = []
undoubled (x ∷ []) = x ∷ []
undoubled (x ∷ y ∷ ys) = cond (x == 0x22) (x ∷ undoubled ys) (x ∷ undoubled (y ∷ ys))

-- the bytes between the quotes of a field that opens at p, as written
abbrev pub held_at : List ℕ → ℕ → List ℕ
held_at file p = take (held_length (drop (p + 1) file)) (drop (p + 1) file)

-- the plain bytes from p on
abbrev pub plain_at : List ℕ → ℕ → List ℕ
plain_at file p = take (prefix_len text_data (drop p file)) (drop p file)

-- where the field that opens at p has its closing quote
abbrev pub close_at : List ℕ → ℕ → ℕ
close_at file p = p + 1 + held_length (drop (p + 1) file)

-- whether a quoted field stands at p: a quote there, and its closing quote further on
abbrev pub quoted_at : List ℕ → ℕ → Bool
quoted_at file p = slice_index file p == 0x22 && nat_lt (close_at file p) (length file)

-- the bytes between the quotes of the field that starts at p, if it is a quoted one
abbrev pub quoted_part : List ℕ → ℕ → Option (List ℕ)
quoted_part file p = cond (quoted_at file p) (Some (held_at file p)) None

-- the place after the field that starts at p
abbrev pub field_end : List ℕ → ℕ → ℕ
field_end file p = cond (quoted_at file p) (close_at file p + 1) (p + prefix_len text_data (drop p file))

abbrev pub plain_content : List ℕ → Content
plain_content [] = nothing
plain_content (x ∷ xs) = plainly (x ∷ xs)

-- the field that starts at p
abbrev pub piece_at : List ℕ → ℕ → Piece
piece_at file p = record { content = cond (quoted_at file p) (quotedly (undoubled (held_at file p))) (plain_content (plain_at file p)); start = p; end = field_end file p }

-- n fields from p on, one byte between two
abbrev pub fields_from : ℕ → List ℕ → ℕ → List Piece
fields_from zero file p = []
fields_from (suc n) file p = piece_at file p ∷ fields_from n file (field_end file p + 1)

-- how many fields a record has, and where its last one ends
pub record Extent : Type 0 where
  pub fields : ℕ
  pub end : ℕ

-- the extent of the record from p on: a comma after a field brings another; n bounds the commas
abbrev pub extent_within : ℕ → List ℕ → ℕ → Extent
extent_within zero file p = record { fields = 1; end = field_end file p }
extent_within (suc n) file p =
    cond (slice_index file (field_end file p) == 0x2C)
    (record { fields = 1 + (extent_within n file (field_end file p + 1)).fields; end = (extent_within n file (field_end file p + 1)).end })
    (record { fields = 1; end = field_end file p })

abbrev pub extent_at : List ℕ → ℕ → Extent
extent_at file p = extent_within (length file) file p

-- the fields of the record that starts at p
abbrev pub record_at : List ℕ → ℕ → List Piece
record_at file p = fields_from (extent_at file p).fields file p

-- the records from p on: CR LF brings another unless the file ends with it; n bounds their number
abbrev pub records_within : ℕ → List ℕ → ℕ → List (List Piece)
records_within zero file p = []
records_within (suc n) file p =
    record_at file p ∷ cond (nat_lt ((extent_at file p).end + 2) (length file)) (records_within n file ((extent_at file p).end + 2)) []

abbrev pub records_at : List ℕ → ℕ → List (List Piece)
records_at file p = records_within (length file + 1) file p
