use Rattle.feeder.specs.View.{lines_of}
use Rattle.printing.specs.MapTexts.{map_text}
use Rattle.printing.specs.RefusalTexts.{refusal_text}
use Rattle.survey.specs.Prints.{drawn, refused}
use Rattle.survey.proofs.prints.print_survey.Goals as goal

pub returns-in-Ok-clause-prints : goal.returns-in-Ok-clause-prints
returns-in-Ok-clause-prints c =
    let map = c.survey_file.new.place in
    (map_text (lines_of map), drawn c.new-map.result map c.in-Ok.ensures, c.write_map.ensures.writes)

pub returns-in-Err-clause-prints : goal.returns-in-Err-clause-prints
returns-in-Err-clause-prints c =
    let text = refused c.new-map.result c.survey_file.new.place c.in-Err.fault c.in-Err.ensures in
    (refusal_text c.from.result, rw c.from.ensures text, c.write_refusal.ensures.writes)
