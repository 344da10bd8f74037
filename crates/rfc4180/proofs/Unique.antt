-- The bytes of a file have one tree that obeys the closing rule.
use Rattle.std.proofs.Common.{◌≡◌, ℕ, ◌+◌, Bool, true, false, cond, List, [], ◌∷◌, ◌++◌, length, Ok, Err, Result, sym, refl, ap, ◌∙◌, arith}
use mathlib.Core.List.{append_cancel_left}
use Rattle.rfc4180.specs.declared.fault.Fault.{Fault}
use Rattle.rfc4180.specs.declared.fault.Fault.TheVariants.{TooLong, Syntax}
use Rattle.rfc4180.specs.Grammar.{Csv, Field, plain, quoted, Record, lone, beside, Records, last, above, File, field_text, record_text, records_text, file_text}
use Rattle.rfc4180.specs.Places.{Content, plainly, quotedly, nothing, Piece, content_of, place_field, place_record, place_records, Parse}
use Rattle.rfc4180.specs.Check.{Verdict, OneTree, Parsed}
use Rattle.rfc4180.proofs.Parses.{parses}
use Rattle.rfc4180.proofs.Readings.{reads}

-- the tree back from its placed fields
abbrev field_of : Content → Field
field_of (plainly xs) = plain xs
field_of (quotedly xs) = quoted xs
field_of nothing = plain []

abbrev record_of : List Piece → Record
record_of [] = lone (plain [])
record_of (x ∷ []) = lone (field_of x.content)
record_of (x ∷ y ∷ ys) = beside (field_of x.content) (record_of (y ∷ ys))

abbrev records_from : List (List Piece) → Records
records_from [] = last (lone (plain []))
records_from (x ∷ []) = last (record_of x)
records_from (x ∷ y ∷ ys) = above (record_of x) (records_from (y ∷ ys))

field_back : (f : Field) → field_of (content_of f) ≡ f
field_back (plain []) = refl
field_back (plain (x ∷ xs)) = refl
field_back (quoted xs) = refl

record_step : (x : Piece) (at : ℕ) (r : Record) → record_of (x ∷ place_record at r) ≡ beside (field_of x.content) (record_of (place_record at r))
record_step x at (lone f) = refl
record_step x at (beside f r) = refl

record_back : (at : ℕ) (r : Record) → record_of (place_record at r) ≡ r
record_back at (lone f) = ap lone (field_back f)
record_back at (beside f r) =
    let next : ℕ = at + length (field_text f) + 1 in
    let a = record_step (place_field at f) next r in
    let b = field_back f in
    let c = record_back next r in
    cc

records_step : (x : List Piece) (at : ℕ) (rs : Records) → records_from (x ∷ place_records at rs) ≡ above (record_of x) (records_from (place_records at rs))
records_step x at (last r) = refl
records_step x at (above r rs) = refl

records_back : (at : ℕ) (rs : Records) → records_from (place_records at rs) ≡ rs
records_back at (last r) = ap last (record_back at r)
records_back at (above r rs) =
    let next : ℕ = at + length (record_text r) + 2 in
    let a = records_step (place_record at r) next rs in
    let b = record_back at r in
    let c = records_back next rs in
    cc

-- whether the closing CR LF is there shows in the bytes
closed_same : (b c : Bool) → ◌≡◌ {A = List ℕ} (cond b (0x0D ∷ 0x0A ∷ []) []) (cond c (0x0D ∷ 0x0A ∷ []) []) → b ≡ c
closed_same true true h = refl
closed_same true false h = absurd (omega (arith, ap length h))
closed_same false true h = absurd (omega (arith, ap length h))
closed_same false false h = refl

file_same : (rs qs : Records) (b c : Bool) → rs ≡ qs → b ≡ c → ◌≡◌ {A = File} (record { records = rs; closed = b }) (record { records = qs; closed = c })
file_same rs qs b c p q = cc

pub unique : (f g : File) (bytes : List ℕ) → Parse f bytes → Parse g bytes → f ≡ g
unique f g bytes h k =
    let a = records_back 0 f.records in
    let b = records_back 0 g.records in
    let c = ap records_from (sym (reads f bytes h) ∙ reads g bytes k) in
    let rows : f.records ≡ g.records = cc in
    let same : records_text g.records ++ cond f.closed (0x0D ∷ 0x0A ∷ []) [] ≡ file_text g =
    ap (λ (rs : Records). records_text rs ++ cond f.closed (0x0D ∷ 0x0A ∷ []) []) (sym rows) ∙ h.text ∙ sym k.text
    in
    let ends = closed_same f.closed g.closed (append_cancel_left (records_text g.records) _ _ same) in
    file_same f.records g.records f.closed g.closed rows ends

pub one_tree : (bytes : List ℕ) → Csv bytes → OneTree bytes
one_tree bytes h =
    let p = parses bytes h in
    record {
      tree = p.0;
      parse = p.1;
      read = reads p.0 bytes p.1;
      only = λ g k. unique g p.0 bytes k p.1;
    }

pub parsed : {A : Type 0} (bytes : List ℕ) (r : Result A Fault) → Verdict bytes r → Parsed bytes r
parsed bytes (Ok a) h = one_tree bytes h.1
parsed bytes (Err TooLong) h = tt
parsed bytes (Err (Syntax at)) h = tt
