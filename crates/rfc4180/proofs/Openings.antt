-- The automaton opens each record of a file but the first.
use Rattle.std.proofs.Common.{◌≡◌, ℕ, ◌+◌, ◌<◌, Bool, true, false, not, ◌||◌, List, [], ◌∷◌, ◌++◌, length, Some, refl, ap, ◌∙◌, arith}
use Rattle.std.proofs.lemmas.Bool.{and_parts}
use Rattle.rfc4180.specs.declared.automaton.State.TheVariants.{Start, Return}
use Rattle.rfc4180.specs.Automaton.{opened}
use Rattle.rfc4180.specs.Grammar.{Records, last, above, File, good_record, good_records, record_text, records_text}
use Rattle.rfc4180.specs.Places.{place_records, trailing, Parse}
use Rattle.rfc4180.specs.Reading.{records_at}
use Rattle.rfc4180.proofs.Accepts.{openings, openings_step}
use Rattle.rfc4180.proofs.Readings.{closing, rule_below, bytes_below, reads}
use Rattle.rfc4180.proofs.Along.{Along, record_run, line_run, closing_stop}

counting : Along openings
counting =
    record { on = λ s t b bs e none. openings_step s b bs (Some t) e ∙ omega arith; plain_end = refl; closed_end = refl }

closing_opens : (b : Bool) → openings Start (closing b) ≡ 0
closing_opens true = refl
closing_opens false = refl

opened_more : (bs : List ℕ) → 0 < length bs → opened Return bs ≡ 1
opened_more [] l = absurd (omega arith)
opened_more (b ∷ bs) l = refl

-- a record opens after each line end but for the one that closes the file
opened_all : (p : ℕ) (rs : Records) (b : Bool) → good_records rs ≡ true → (b || not (trailing rs)) ≡ true → 1 + openings Start (records_text rs ++ closing b) ≡ length (place_records p rs)
opened_all p (last r) b h rule =
    omega (arith, record_run openings counting r (closing b) h (closing_stop openings counting b), closing_opens b)
opened_all p (above r rs) b h rule =
    let g = and_parts (good_record r) (good_records rs) h in
    let more = records_text rs ++ closing b in
    omega (
      arith,
      line_run openings counting r rs (closing b) g.0,
      openings_step Return 0x0A more (Some Start) refl,
      opened_more more (bytes_below b r rs rule),
      opened_all (p + length (record_text r) + 2) rs b g.1 (rule_below b r rs rule),
    )

-- as many records as the reading finds
pub opened_records : (f : File) (bytes : List ℕ) → Parse f bytes → 1 + openings Start bytes ≡ length (records_at bytes 0)
opened_records f bytes h =
    omega (arith, ap (openings Start) h.text, opened_all 0 f.records f.closed h.good h.closing, ap length (reads f bytes h))
