-- Which bytes are a file of RFC 4180: its published grammar as trees, and the bytes that a tree is written with.
use Rattle.std.specs.Prelude.{◌≡◌, ℕ, ◌+◌, ◌<◌, ◌≤◌, Bool, true, cond, ◌&&◌, ◌||◌, List, [], ◌∷◌, ◌++◌, length, take, ◌==◌, nat_le}

-- TEXTDATA = %x20-21 / %x23-2B / %x2D-7E
abbrev pub text_data : ℕ → Bool
text_data b = (nat_le 0x20 b && nat_le b 0x21) || ((nat_le 0x23 b && nat_le b 0x2B) || (nat_le 0x2D b && nat_le b 0x7E))

-- TEXTDATA / COMMA / CR / LF / 2DQUOTE: what quotes may hold, a held quote being written twice
abbrev pub quotable : ℕ → Bool
quotable b = text_data b || (b == 0x2C || (b == 0x0D || (b == 0x0A || b == 0x22)))

-- field = escaped / non-escaped
pub data Field : Type 0 where
  plain : List ℕ → Field  -- non-escaped = *TEXTDATA
  quoted : List ℕ → Field  -- escaped = DQUOTE *(TEXTDATA / COMMA / CR / LF / 2DQUOTE) DQUOTE, by what the quotes hold

-- record = field *(COMMA field)
pub data Record : Type 0 where
  lone : Field → Record
  beside : Field → Record → Record

-- record *(CRLF record); the optional header of a file has the form of a record and counts as the first one
pub data Records : Type 0 where
  last : Record → Records
  above : Record → Records → Records

-- file = [header CRLF] record *(CRLF record) [CRLF]
pub record File : Type 0 where
  pub records : Records
  pub closed : Bool  -- whether the closing CRLF is there

-- every byte passes
abbrev pub every : (ℕ → Bool) → List ℕ → Bool
every p [] = true
every p (x ∷ xs) = p x && every p xs

-- the bytes of each field are those that its form allows
abbrev pub good_field : Field → Bool
good_field (plain xs) = every text_data xs
good_field (quoted xs) = every quotable xs

abbrev pub good_record : Record → Bool
good_record (lone f) = good_field f
good_record (beside f r) = good_field f && good_record r

abbrev pub good_records : Records → Bool
good_records (last r) = good_record r
good_records (above r rs) = good_record r && good_records rs

-- a quote that quotes hold is written twice
abbrev pub doubled : List ℕ → List ℕ
doubled [] = []
doubled (x ∷ xs) = cond (x == 0x22) (0x22 ∷ 0x22 ∷ doubled xs) (x ∷ doubled xs)

abbrev pub field_text : Field → List ℕ
field_text (plain xs) = xs
field_text (quoted xs) = 0x22 ∷ (doubled xs ++ 0x22 ∷ [])

abbrev pub record_text : Record → List ℕ
record_text (lone f) = field_text f
record_text (beside f r) = field_text f ++ 0x2C ∷ record_text r

abbrev pub records_text : Records → List ℕ
records_text (last r) = record_text r
records_text (above r rs) = record_text r ++ 0x0D ∷ 0x0A ∷ records_text rs

-- the bytes of a file
abbrev pub file_text : File → List ℕ
file_text f = records_text f.records ++ cond f.closed (0x0D ∷ 0x0A ∷ []) []

-- the bytes are those of a file of the grammar
abbrev pub Csv : List ℕ → Type 0
Csv bytes = (f : File) × (good_records f.records ≡ true) × (file_text f ≡ bytes)

-- some file of the grammar begins with these bytes
abbrev pub Begins : List ℕ → Type 0
Begins bytes = (more : List ℕ) × Csv (bytes ++ more)

-- i is the place of the first byte that no file has there, or the length where the bytes end too early
pub record Impossible (bytes : List ℕ) (i : ℕ) : Type 0 where
  pub within : i ≤ length bytes
  pub before : Begins (take i bytes)
  pub byte : i < length bytes → Begins (take (i + 1) bytes) → ⊥
  pub end : i ≡ length bytes → Csv bytes → ⊥
