use Rattle.std.proofs.lemmas.Result.{err_from_is_err_and}
use Rattle.survey.specs.Surveys.{unread}
use Rattle.survey.proofs.surveying.survey_file.Goals as goal

pub returns-in_err-load : goal.returns-in_err-load
returns-in_err-load c =
    let p = err_from_is_err_and c.from_residual.result c.from_residual.ensures.1 in
    let told = c.in_err-load.ensures in
    rw (p.1, p.2) (unread c.in_err-load.field-0.0 told.0)

pub returns : goal.returns
returns c = c.draw_source.ensures c.args.file.now c.in_ok-load.ensures
