-- The records of a file and their fields, one on: how many fields a record has, and where the last ends.
use Rattle.std.proofs.Common.{◌≡◌, ℕ, zero, suc, ◌+◌, ◌≤◌, Bool, true, false, cond, eqb, ltb, List, [], ◌∷◌, length, get_or, drop, sym, refl, ap, ◌∙◌, ⊎_elim, one-add, arith}
use Rattle.std.specs.List.{prefix_len}
use Rattle.std.proofs.lemmas.Bool.{eqb-true, ltb-true, and_parts, cond_both, cases_lt}
use Rattle.std.proofs.lemmas.List.{get_or_past, length-drop}
use Rattle.std.proofs.lemmas.List.Sums.{prefix_len-le-length}
use Rattle.rfc4180.specs.Grammar.{text_data}
use Rattle.rfc4180.specs.Places.{Piece, start_of, end_of}
use Rattle.rfc4180.specs.Reading.{close_at, quoted_at, field_end, piece_at, fields_from, Extent, extent_within, extent_at, record_at, records_at}
use Rattle.rfc4180.proofs.Bounds.{field_after, extent_more, records_more}

row_step : (file : List ℕ) (p q : ℕ) (e : Extent) (b : Bool) →
    fields_from (cond {A = Extent} b (record { fields = 1 + e.fields; end = e.end }) (record { fields = 1; end = q })).fields file p ≡ piece_at file p ∷ cond b (fields_from e.fields file (field_end file p + 1)) []
row_step file p q e true = rw (one-add e.fields) refl
row_step file p q e false = refl

-- the field at p, and after a comma the fields of the rest
pub row_more : (file : List ℕ) (p : ℕ) →
    record_at file p ≡ piece_at file p ∷ cond (eqb (get_or file (field_end file p) 0) 0x2C) (record_at file (field_end file p + 1)) []
row_more file p =
    ap (λ (e : Extent). fields_from e.fields file p) (extent_more file p)
    ∙ row_step file p (field_end file p) (extent_at file (field_end file p + 1)) (eqb (get_or file (field_end file p) 0) 0x2C)

-- where the last of some fields ends, or e where there is none
abbrev pub last_end : ℕ → List Piece → ℕ
last_end e [] = e
last_end e (x ∷ xs) = last_end x.end xs

last_ends : {xs ys : List Piece} {x : Piece} (e : ℕ) → xs ≡ x ∷ ys → last_end e xs ≡ end_of xs
last_ends {ys = []} {x} e h = rw h refl
last_ends {ys = y ∷ ys} {x} e h = rw h (last_ends {xs = y ∷ ys} x.end refl)

pub row_start : (file : List ℕ) (p : ℕ) → start_of (record_at file p) ≡ p
row_start file p = ap start_of (row_more file p)

pub row_end : (e : ℕ) (file : List ℕ) (p : ℕ) → last_end e (record_at file p) ≡ end_of (record_at file p)
row_end e file p = last_ends e (row_more file p)

-- what an extent says of the fields of its record
record Spans (file : List ℕ) (p : ℕ) (e : Extent) : Type 0 where
  within : e.end ≤ length file
  count : length (fields_from e.fields file p) + p ≤ length file + 1
  ends : (d : ℕ) → last_end d (fields_from e.fields file p) ≡ e.end

field_within : (file : List ℕ) (p : ℕ) → p ≤ length file → field_end file p ≤ length file
field_within file p l =
    cond_both (quoted_at file p) (close_at file p + 1) (p + prefix_len text_data (drop p file)) (λ n. n ≤ length file)
    (λ h. omega (arith, ltb-true (close_at file p) (length file) (and_parts (eqb (get_or file p 0) 0x22) _ h).1))
    (λ h. omega (arith, length-drop p file, prefix_len-le-length text_data (drop p file)))

-- a comma stands within the file
comma_within : (file : List ℕ) (q : ℕ) → eqb (get_or file q 0) 0x2C ≡ true → q + 1 ≤ length file
comma_within file q e =
    ⊎_elim (λ l. omega arith) (λ l. absurd (let z : 0 ≡ 0x2C = sym (get_or_past file q 0 l) ∙ eqb-true (get_or file q 0) 0x2C e in omega arith)) (cases_lt q (length file))

spans_one : (file : List ℕ) (p : ℕ) → p ≤ length file → Spans file p (record { fields = 1; end = field_end file p })
spans_one file p l =
    record { within = field_within file p l; count = omega arith; ends = λ d. refl }

spans_more : (file : List ℕ) (p : ℕ) (e : Extent) → p ≤ length file → Spans file (field_end file p + 1) e → Spans file p (record { fields = 1 + e.fields; end = e.end })
spans_more file p e l s =
    record {
      within = s.within;
      count = rw (one-add e.fields) (omega (arith, s.count, field_after file p));
      ends = λ d. rw (one-add e.fields) (s.ends (field_end file p));
    }

spans : (n : ℕ) (file : List ℕ) (p : ℕ) → p ≤ length file → Spans file p (extent_within n file p)
spans zero file p l = spans_one file p l
spans (suc n) file p l =
    cond_both (eqb (get_or file (field_end file p) 0) 0x2C) _ _ (Spans file p)
    (λ e. spans_more file p (extent_within n file (field_end file p + 1)) l (spans n file (field_end file p + 1) (comma_within file (field_end file p) e)))
    (λ e. spans_one file p l)

pub row_count : (file : List ℕ) (p : ℕ) → p ≤ length file → length (record_at file p) ≤ length file + 1
row_count file p l = omega (arith, (spans (length file) file p l).count)

pub row_extent : (file : List ℕ) (p : ℕ) → p ≤ length file → end_of (record_at file p) ≡ (extent_at file p).end
row_extent file p l = sym (row_end 0 file p) ∙ (spans (length file) file p l).ends 0

pub row_end_within : (file : List ℕ) (p : ℕ) → p ≤ length file → end_of (record_at file p) ≤ length file
row_end_within file p l = omega (arith, row_extent file p l, (spans (length file) file p l).within)

-- the record at p, and after a CR LF that the file goes on after the records of the rest
pub rows_more : (file : List ℕ) (p : ℕ) → p ≤ length file →
    records_at file p ≡ record_at file p ∷ cond (ltb (end_of (record_at file p) + 2) (length file)) (records_at file (end_of (record_at file p) + 2)) []
rows_more file p l =
    records_more file p
    ∙ ap (λ (q : ℕ). record_at file p ∷ cond (ltb (q + 2) (length file)) (records_at file (q + 2)) []) (sym (row_extent file p l))
