use Rattle.drawing.specs.Responses.{entries_of}
use Rattle.drawing.proofs.Reading.{some}
use Rattle.drawing.proofs.Checked.{right_from}
use Rattle.drawing.proofs.checks.Check.is_right.Goals as goal

pub returns-then-same_responses : goal.returns-then-same_responses
returns-then-same_responses c =
    let check = c.args.self.now in
    (λ e. right_from (entries_of check.responses.now) check.map.now (some check.responses.now) check.metered (c.same_responses.ensures.0 c.if-same_responses.true) (c.ends_stand.ensures.0 e), λ h. c.ends_stand.ensures.1 h.ends)
