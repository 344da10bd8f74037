use Rattle.printing.proofs.RefusalTexts.{refusals_are_short, refusals_are_told}
use Rattle.printing.proofs.refusal_text.write_refusal.Goals as goal

pub returns-clause-short : goal.returns-clause-short
returns-clause-short c = refusals_are_short

pub returns-clause-told : goal.returns-clause-told
returns-clause-told c = refusals_are_told
