-- What the reading finds in a file are the placed fields of its tree.
use Rattle.std.proofs.Common.{◌≡◌, ℕ, suc, ◌+◌, ◌<◌, ◌≤◌, Bool, true, false, cond, not, ◌||◌, eqb, ltb, List, [], ◌∷◌, ◌++◌, length, get_or, sym, refl, ap, ◌∙◌, append_assoc, arith, length-append}
use Rattle.std.proofs.lemmas.Bool.{and_parts, cond-true, cond-false, both_ways, not-true, lt-ltb, le-ltb}
use Rattle.rfc4180.specs.Grammar.{Field, plain, quoted, Record, lone, beside, Records, last, above, File, good_field, good_record, good_records, field_text, record_text, records_text}
use Rattle.rfc4180.specs.Places.{Piece, place_field, place_record, place_records, vacant, trailing, Parse, records_of}
use Rattle.rfc4180.specs.Reading.{field_end, piece_at, fields_from, Extent, extent_at, record_at, records_at}
use Rattle.rfc4180.proofs.Bounds.{extent_more, records_more}
use Rattle.rfc4180.proofs.Pieces.{Stop, Left, left_length, left_more, left_first, field_at}

abbrev pub count : Record → ℕ
count (lone f) = 1
count (beside f r) = suc (count r)

-- the reading finds the record that stands at p
pub record Recorded (file : List ℕ) (p : ℕ) (r : Record) : Type 0 where
  pub extent : extent_at file p ≡ record { fields = count r; end = p + length (record_text r) }
  pub fields : fields_from (count r) file p ≡ place_record p r

-- what follows a field, by the byte at its end
abbrev onward : List ℕ → ℕ → Extent
onward file q =
    cond (eqb (get_or file q 0) 0x2C) (record { fields = 1 + (extent_at file (q + 1)).fields; end = (extent_at file (q + 1)).end }) (record { fields = 1; end = q })

recorded_lone : (file : List ℕ) (p : ℕ) (f : Field) (zs : List ℕ) → eqb (get_or zs 0 0) 0x2C ≡ false → piece_at file p ≡ place_field p f → Left file (p + length (field_text f)) zs → Recorded file p (lone f)
recorded_lone file p f zs n e l =
    let q : ℕ = p + length (field_text f) in
    record {
      extent =
          extent_more file p
          ∙ ap (onward file) (ap (λ (x : Piece). x.end) e)
          ∙ cond-false (eqb (get_or file q 0) 0x2C) _ _ (ap (λ (x : ℕ). eqb x 0x2C) (left_first file q zs l) ∙ n);
      fields = ap (λ (x : Piece). x ∷ []) e;
    }

recorded_beside : (file : List ℕ) (p : ℕ) (f : Field) (r : Record) (zs : List ℕ) → piece_at file p ≡ place_field p f → Left file (p + length (field_text f)) (0x2C ∷ zs) → Recorded file (p + length (field_text f) + 1) r → Recorded file p (beside f r)
recorded_beside file p f r zs e l more =
    let q : ℕ = p + length (field_text f) in
    let ends : field_end file p ≡ q = ap (λ (x : Piece). x.end) e in
    record {
      extent =
          extent_more file p
          ∙ ap (onward file) ends
          ∙ cond-true (eqb (get_or file q 0) 0x2C) _ _ (ap (λ (x : ℕ). eqb x 0x2C) (left_first file q (0x2C ∷ zs) l))
          ∙ ap (λ (x : Extent). record { fields = 1 + x.fields; end = x.end }) more.extent
          ∙ (let a : 1 + count r ≡ suc (count r) = omega arith in
          let b : q + 1 + length (record_text r) ≡ p + length (field_text f ++ 0x2C ∷ record_text r) = omega (arith, length-append (field_text f) (0x2C ∷ record_text r)) in
          cc);
      fields =
          ap (λ (x : Piece). x ∷ fields_from (count r) file (x.end + 1)) e ∙ ap (λ (l : List Piece). place_field p f ∷ l) more.fields;
    }

pub record_at_lem : (file : List ℕ) (p : ℕ) (r : Record) (zs : List ℕ) → good_record r ≡ true → Stop zs → eqb (get_or zs 0 0) 0x2C ≡ false → Left file p (record_text r ++ zs) → Recorded file p r
record_at_lem file p (lone f) zs good stop n l =
    recorded_lone file p f zs n (field_at file p f zs good stop l) (left_more file p (field_text f) zs l)
record_at_lem file p (beside f r) zs good stop n l =
    let g = and_parts (good_field f) (good_record r) good in
    let at : Left file p (field_text f ++ (0x2C ∷ (record_text r ++ zs))) = rw append_assoc at l in
    let end = left_more file p (field_text f) (0x2C ∷ (record_text r ++ zs)) at in
    recorded_beside file p f r (record_text r ++ zs)
    (field_at file p f (0x2C ∷ (record_text r ++ zs)) g.0 (record { text = refl; held = refl; quote = refl }) at)
    end
    (record_at_lem file (p + length (field_text f) + 1) r zs g.1 stop n (left_more file (p + length (field_text f)) (0x2C ∷ []) (record_text r ++ zs) end))

pub record_found : (file : List ℕ) (p : ℕ) (r : Record) → Recorded file p r → record_at file p ≡ place_record p r
record_found file p r h = ap (λ (e : Extent). fields_from e.fields file p) h.extent ∙ h.fields

-- the closing CR LF
abbrev pub closing : Bool → List ℕ
closing b = cond b (0x0D ∷ 0x0A ∷ []) []

closing_stop : (b : Bool) → Stop (closing b)
closing_stop true = record { text = refl; held = refl; quote = refl }
closing_stop false = record { text = refl; held = refl; quote = refl }

closing_comma : (b : Bool) → eqb (get_or (closing b) 0 0) 0x2C ≡ false
closing_comma true = refl
closing_comma false = refl

closing_length : (b : Bool) → length (closing b) ≤ 2
closing_length true = omega arith
closing_length false = omega arith

-- the closing rule: bytes follow the CR LF after a record that is not the last
not_vacant : (r : Record) → vacant r ≡ false → 0 < length (record_text r)
not_vacant (lone (plain [])) h = absurd (both_ways true h refl)
not_vacant (lone (plain (x ∷ xs))) h = omega arith
not_vacant (lone (quoted xs)) h = omega arith
not_vacant (beside f r) h = omega (arith, length-append (field_text f) (0x2C ∷ record_text r))

not_trailing : (r : Record) (rs : Records) → trailing (above r rs) ≡ false → 0 < length (records_text rs)
not_trailing r (last s) h = not_vacant s h
not_trailing r (above s rs) h = omega (arith, length-append (record_text s) (0x0D ∷ 0x0A ∷ records_text rs))

trailing_below : (r : Record) (rs : Records) → trailing (above r rs) ≡ false → trailing rs ≡ false
trailing_below r (last s) h = refl
trailing_below r (above s rs) h = h

pub rule_below : (b : Bool) (r : Record) (rs : Records) → (b || not (trailing (above r rs))) ≡ true → (b || not (trailing rs)) ≡ true
rule_below true r rs h = refl
rule_below false r rs h = ap not (trailing_below r rs (not-true (trailing (above r rs)) h))

pub bytes_below : (b : Bool) (r : Record) (rs : Records) → (b || not (trailing (above r rs))) ≡ true → 0 < length (records_text rs ++ closing b)
bytes_below true r rs h = omega (arith, length-append (records_text rs) (closing true))
bytes_below false r rs h =
    omega (arith, length-append (records_text rs) (closing false), not_trailing r rs (not-true (trailing (above r rs)) h))

-- the records after one that ends at q
abbrev below : List ℕ → ℕ → List (List Piece)
below file q = cond (ltb (q + 2) (length file)) (records_at file (q + 2)) []

found_above : (file : List ℕ) (p : ℕ) (r : Record) (rest : List (List Piece)) → Recorded file p r → below file (p + length (record_text r)) ≡ rest → records_at file p ≡ place_record p r ∷ rest
found_above file p r rest h e =
    let t = record_found file p r h in
    let u = ap (λ (x : Extent). below file x.end) h.extent in
    records_more file p ∙ (cc)

pub records_at_lem : (file : List ℕ) (p : ℕ) (rs : Records) (b : Bool) → good_records rs ≡ true → (b || not (trailing rs)) ≡ true → Left file p (records_text rs ++ closing b) → records_at file p ≡ place_records p rs
records_at_lem file p (last r) b good rule l =
    let q : ℕ = p + length (record_text r) in
    found_above file p r [] (record_at_lem file p r (closing b) good (closing_stop b) (closing_comma b) l)
    (cond-false (ltb (q + 2) (length file)) _ _ (le-ltb (q + 2) (length file) (omega (arith, left_length file p _ l, length-append (record_text r) (closing b), closing_length b))))
records_at_lem file p (above r rs) b good rule l =
    let g = and_parts (good_record r) (good_records rs) good in
    let q : ℕ = p + length (record_text r) in
    let zs : List ℕ = records_text rs ++ closing b in
    let at : Left file p (record_text r ++ (0x0D ∷ 0x0A ∷ zs)) = rw append_assoc at l in
    let next : Left file (q + 2) zs = left_more file q (0x0D ∷ 0x0A ∷ []) zs (left_more file p (record_text r) (0x0D ∷ 0x0A ∷ zs) at) in
    found_above file p r (place_records (q + 2) rs)
    (record_at_lem file p r (0x0D ∷ 0x0A ∷ zs) g.0 (record { text = refl; held = refl; quote = refl }) refl at)
    (cond-true (ltb (q + 2) (length file)) _ _ (lt-ltb (q + 2) (length file) (omega (arith, left_length file (q + 2) zs next, bytes_below b r rs rule)))
    ∙ records_at_lem file (q + 2) rs b g.1 (rule_below b r rs rule) next)

pub reads : (f : File) (bytes : List ℕ) → Parse f bytes → records_at bytes 0 ≡ records_of f
reads f bytes h =
    records_at_lem bytes 0 f.records f.closed h.good h.closing (record { within = omega arith; rest = sym h.text })
