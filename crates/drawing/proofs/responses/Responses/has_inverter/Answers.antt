use Rattle.drawing.specs.Responses.{entries_of}
use Rattle.drawing.proofs.responses.Responses.has_inverter.Goals as goal

pub returns : goal.returns
unfolding entries_of
returns c = c.is_some.ensures
