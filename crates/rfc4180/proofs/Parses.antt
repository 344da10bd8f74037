-- Every file of the grammar has a tree that obeys the closing rule.
use Rattle.std.proofs.Common.{◌≡◌, ℕ, Bool, true, false, cond, not, List, [], ◌∷◌, ◌++◌, sym, refl, ap, ◌∙◌, append_assoc, append-nil}
use Rattle.std.proofs.lemmas.Bool.{and_parts, and_from, both_ways}
use Rattle.rfc4180.specs.Grammar.{plain, quoted, Record, lone, beside, Records, last, above, File, good_record, good_records, record_text, records_text, Csv}
use Rattle.rfc4180.specs.Places.{vacant, trailing, Parse}

-- the records without the last of two or more
abbrev pub shorter : Records → Records
shorter (last r) = last r
shorter (above r (last s)) = last r
shorter (above r (above s rs)) = above r (shorter (above s rs))

shorter_good : (rs : Records) → good_records rs ≡ true → good_records (shorter rs) ≡ true
shorter_good (last r) h = h
shorter_good (above r (last s)) h = (and_parts (good_record r) (good_record s) h).0
shorter_good (above r (above s rs)) h =
    let p = and_parts (good_record r) (good_records (above s rs)) h in
    and_from (good_record r) (good_records (shorter (above s rs))) p.0 (shorter_good (above s rs) p.1)

vacant_text : (r : Record) → vacant r ≡ true → record_text r ≡ []
vacant_text (lone (plain [])) h = refl
vacant_text (lone (plain (x ∷ xs))) h = absurd (both_ways false refl h)
vacant_text (lone (quoted xs)) h = absurd (both_ways false refl h)
vacant_text (beside f r) h = absurd (both_ways false refl h)

-- a CR LF that closes the records before stands for a vacant last record
shorter_text : (rs : Records) → trailing rs ≡ true → records_text (shorter rs) ++ 0x0D ∷ 0x0A ∷ [] ≡ records_text rs
shorter_text (last r) h = absurd (both_ways false refl h)
shorter_text (above r (last s)) h = ap (λ (l : List ℕ). record_text r ++ 0x0D ∷ 0x0A ∷ l) (sym (vacant_text s h))
shorter_text (above r (above s rs)) h =
    append_assoc (record_text r) (0x0D ∷ 0x0A ∷ records_text (shorter (above s rs))) (0x0D ∷ 0x0A ∷ [])
    ∙ ap (λ (l : List ℕ). record_text r ++ 0x0D ∷ 0x0A ∷ l) (shorter_text (above s rs) h)

tree : (rs : Records) (closed trails : Bool) (bytes : List ℕ) → trailing rs ≡ trails → good_records rs ≡ true → records_text rs ++ cond closed (0x0D ∷ 0x0A ∷ []) [] ≡ bytes → (f : File) × Parse f bytes
tree rs true trails bytes e g t =
    (record { records = rs; closed = true }, record { good = g; closing = refl; text = t })
tree rs false false bytes e g t =
    (record { records = rs; closed = false }, record { good = g; closing = ap not e; text = t })
tree rs false true bytes e g t = (
  record { records = shorter rs; closed = true },
  record { good = shorter_good rs g; closing = refl; text = shorter_text rs e ∙ sym (append-nil (records_text rs)) ∙ t },
)

pub parses : (bytes : List ℕ) → Csv bytes → (f : File) × Parse f bytes
parses bytes (f, g, t) = tree f.records f.closed (trailing f.records) bytes refl g t
