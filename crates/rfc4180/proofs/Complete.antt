-- The automaton accepts each file of the grammar.
use Rattle.std.proofs.Common.{◌≡◌, Bool, true, false, ◌++◌, Some, refl, ◌∙◌}
use Rattle.std.proofs.lemmas.Bool.{and_parts}
use Rattle.rfc4180.specs.declared.automaton.State.TheVariants.{Start}
use Rattle.rfc4180.specs.Grammar.{Records, last, above, File, good_record, good_records, records_text, file_text}
use Rattle.rfc4180.proofs.Accepts.{accepts, accepts_step}
use Rattle.rfc4180.proofs.Readings.{closing}
use Rattle.rfc4180.proofs.Along.{Along, record_run, line_run, closing_stop}

accepting : Along accepts
accepting = record { on = λ s t b bs e _. accepts_step s b bs (Some t) e; plain_end = refl; closed_end = refl }

closing_accepted : (b : Bool) → accepts Start (closing b) ≡ true
closing_accepted true = refl
closing_accepted false = refl

accepted : (rs : Records) (b : Bool) → good_records rs ≡ true → accepts Start (records_text rs ++ closing b) ≡ true
accepted (last r) b h = record_run accepts accepting r (closing b) h (closing_stop accepts accepting b) ∙ closing_accepted b
accepted (above r rs) b h =
    let p = and_parts (good_record r) (good_records rs) h in
    line_run accepts accepting r rs (closing b) p.0 ∙ accepted rs b p.1

pub complete : (f : File) → good_records f.records ≡ true → accepts Start (file_text f) ≡ true
complete f h = accepted f.records f.closed h
