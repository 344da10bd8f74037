-- The text of a map is the text of a file's tree, whose records read back as the map's lines.
use Rattle.std.proofs.Common.{◌≡◌, ℕ, ◌+◌, ◌<◌, ◌≤◌, Bool, true, eqb, leb, List, [], ◌∷◌, ◌++◌, length, pos, nat_abs, Ok, codes, sym, refl, ap, ◌∙◌, arith}
use Rattle.std.specs.List.{AllByRecursion as All}
use Rattle.std.proofs.lemmas.List.{append_assoc, append-nil, length_push}
use Rattle.std.proofs.lemmas.Bool.{and_from, le-leb, eq-eqb}
use Rattle.rfc4180.specs.Grammar.{text_data, every, plain, Record, lone, beside, Records, last, above, File, good_record, good_records, record_text, records_text}
use Rattle.rfc4180.specs.Places.{held, content_of, Piece, place_record, place_records, Parse, records_of}
use Rattle.units.specs.Decimals.{bus_of, decimal_of}
use Rattle.feeder.specs.declared.line.Line.{Line}
use Rattle.refusals.specs.Checks.{need, after}
use Rattle.files.specs.declared.fault.FileFault.TheVariants.{Form, MapEntry}
use Rattle.files.specs.Fields.{field_of}
use Rattle.files.proofs.Entries.{number_taken}
use Rattle.printing.specs.Texts.{new_line}
use Rattle.printing.specs.MapTexts.{short_number, per_unit, lines_text, map_text}
use Rattle.maps.specs.Lines.{is_next, next_of, upper_of, is_resistance, resistance_in, line_in, lines_in, map_lines}
use Rattle.maps.proofs.Files.{Wired}
use Rattle.printing.proofs.Digits.{short_text, per_unit_text, short_back, per_unit_back}

-- The tree.

abbrev line_record : ℕ → Line → Record
line_record b line = beside (plain (short_number b)) (beside (plain (short_number line.parent)) (lone (plain (per_unit line.resistance))))

abbrev header_record : Record
header_record = beside (plain (codes "bus")) (beside (plain (codes "parent")) (lone (plain (codes "r"))))

-- a record and those of the lines from bus b on
abbrev tree_from : Record → ℕ → List Line → Records
tree_from r b [] = last r
tree_from r b (line ∷ lines) = above r (tree_from (line_record b line) (b + 1) lines)

abbrev pub tree_of : List Line → File
tree_of lines = record { records = tree_from header_record 1 lines; closed = true }

-- Its text.

regroup : (a b c n rest : List ℕ) → (a ++ 0x2C ∷ (b ++ 0x2C ∷ c)) ++ (n ++ rest) ≡ (a ++ 0x2C ∷ (b ++ 0x2C ∷ (c ++ n))) ++ rest
regroup a b c n rest = simp append_assoc

tree_text : (r : Record) (b : ℕ) (lines : List Line) → records_text (tree_from r b lines) ++ new_line ≡ record_text r ++ (new_line ++ lines_text b lines)
tree_text r b [] = refl
tree_text r b (line ∷ lines) =
    append_assoc (record_text r) (new_line ++ records_text (tree_from (line_record b line) (b + 1) lines)) new_line
    ∙ ap (λ (t : List ℕ). record_text r ++ (new_line ++ t))
    (tree_text (line_record b line) (b + 1) lines
    ∙ regroup (short_number b) (short_number line.parent) (per_unit line.resistance) new_line (lines_text (b + 1) lines))

-- Its bytes are those that plain fields may have.

line_good : (b : ℕ) (line : Line) → good_record (line_record b line) ≡ true
line_good b line =
    and_from (every text_data (short_number b)) _ (short_text b)
    (and_from (every text_data (short_number line.parent)) (every text_data (per_unit line.resistance)) (short_text line.parent) (per_unit_text line.resistance))

tree_good : (r : Record) (b : ℕ) (lines : List Line) → good_record r ≡ true → good_records (tree_from r b lines) ≡ true
tree_good r b [] h = h
tree_good r b (line ∷ lines) h = and_from (good_record r) (good_records (tree_from (line_record b line) (b + 1) lines)) h (tree_good (line_record b line) (b + 1) lines (line_good b line))

pub tree_parse : (lines : List Line) → Parse (tree_of lines) (map_text lines)
tree_parse lines = record { good = tree_good header_record 1 lines refl; closing = refl; text = tree_text header_record 1 lines }

-- Its records.

abbrev rows_at : ℕ → ℕ → List Line → List (List Piece)
rows_at at b [] = []
rows_at at b (line ∷ lines) = place_record at (line_record b line) ∷ rows_at (at + length (record_text (line_record b line)) + 2) (b + 1) lines

tree_records : (at : ℕ) (r : Record) (b : ℕ) (lines : List Line) → place_records at (tree_from r b lines) ≡ place_record at r ∷ rows_at (at + length (record_text r) + 2) b lines
tree_records at r b [] = refl
tree_records at r b (line ∷ lines) = ap (λ rows. place_record at r ∷ rows) (tree_records (at + length (record_text r) + 2) (line_record b line) (b + 1) lines)

rows_length : (at b : ℕ) (lines : List Line) → length (rows_at at b lines) ≡ length lines
rows_length at b [] = refl
rows_length at b (line ∷ lines) = omega (arith, rows_length (at + length (record_text (line_record b line)) + 2) (b + 1) lines)

-- They read back.

held_plain : (xs : List ℕ) → held (content_of (plain xs)) ≡ xs
held_plain [] = refl
held_plain (x ∷ xs) = refl

module _ (buses : ℕ) (few : buses < 1000) where
  next_back : (p : Piece) (b : ℕ) → held p.content ≡ short_number b → b ≤ 64 → next_of b p ≡ Ok b
  next_back p b e small =
      number_taken (bus_of (held p.content)) (is_next b) (Form p.start) (MapEntry p.start) b (ap bus_of e ∙ short_back b (omega arith)) (and_from (eqb b b) (leb b 64) (eq-eqb b b refl) (le-leb b 64 small))

  upper_back : (p : Piece) (b : ℕ) → held p.content ≡ short_number b → b ≤ buses → upper_of buses p ≡ Ok b
  upper_back p b e small =
      number_taken (bus_of (held p.content)) (λ k. leb k buses) (Form p.start) (MapEntry p.start) b (ap bus_of e ∙ short_back b (omega arith)) (le-leb b buses small)

  resistance_back : (p : Piece) (n : ℕ) → held p.content ≡ per_unit n → 1 ≤ n → n ≤ 1000000 → resistance_in p ≡ Ok n
  resistance_back p n e some most =
      ap (λ o. after o (λ v. Ok (nat_abs v)))
      (number_taken (decimal_of 6 (held p.content)) is_resistance (Form p.start) (MapEntry p.start) (pos n) (ap (decimal_of 6) e ∙ per_unit_back n (omega arith)) (and_from (leb 1 n) (leb n 1000000) (le-leb 1 n some) (le-leb n 1000000 most)))

  line_back : (at b : ℕ) (line : Line) → b ≤ 64 → Wired buses line → line_in buses b (place_record at (line_record b line)) ≡ Ok line
  line_back at b line small wired =
      let row = place_record at (line_record b line) in
      ap (λ o. after o (λ _. after (upper_of buses (field_of row 1)) (λ parent. after (resistance_in (field_of row 2)) (λ resistance. Ok (record { parent = parent; resistance = resistance })))))
      (next_back (field_of row 0) b (held_plain (short_number b)) small)
      ∙ ap (λ o. after o (λ parent. after (resistance_in (field_of row 2)) (λ resistance. Ok (record { parent = parent; resistance = resistance }))))
      (upper_back (field_of row 1) line.parent (held_plain (short_number line.parent)) wired.upper)
      ∙ ap (λ o. after o (λ resistance. Ok (record { parent = line.parent; resistance = resistance })))
      (resistance_back (field_of row 2) line.resistance (held_plain (per_unit line.resistance)) wired.some wired.most)

  lines_back : (at b : ℕ) (before lines : List Line) → length before + 1 ≡ b → b + length lines ≤ 65 → All (Wired buses) lines → lines_in buses before (rows_at at b lines) ≡ Ok (before ++ lines)
  lines_back at b before [] e h all = ap Ok (sym (append-nil before))
  lines_back at b before (line ∷ lines) e h all =
      let next = at + length (record_text (line_record b line)) + 2 in
      ap (λ k. after (line_in buses k (place_record at (line_record b line))) (λ l. lines_in buses (before ++ l ∷ []) (rows_at next (b + 1) lines))) e
      ∙ ap (λ o. after o (λ l. lines_in buses (before ++ l ∷ []) (rows_at next (b + 1) lines))) (line_back at b line (omega arith) all.0)
      ∙ lines_back next (b + 1) (before ++ line ∷ []) lines (omega (arith, length_push before line)) (omega arith) all.1
      ∙ ap Ok (append_assoc before (line ∷ []) lines)

pub tree_back : (bytes : ℕ) (lines : List Line) → 1 ≤ length lines → length lines ≤ 64 → All (Wired (length lines)) lines → map_lines bytes (records_of (tree_of lines)) ≡ Ok lines
tree_back bytes lines some few all =
    ap (map_lines bytes) (tree_records 0 header_record 1 lines)
    ∙ ap (λ n. need (leb 1 n) (MapEntry bytes) (lines_in n [] (rows_at 14 1 lines))) (rows_length 14 1 lines)
    ∙ ap (λ (t : Bool). need t (MapEntry bytes) (lines_in (length lines) [] (rows_at 14 1 lines))) (le-leb 1 (length lines) some)
    ∙ lines_back (length lines) (omega arith) 14 1 [] lines refl (omega arith) all
