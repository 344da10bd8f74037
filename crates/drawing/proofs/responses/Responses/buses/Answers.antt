use Rattle.std.proofs.Common.{refl}
use Rattle.drawing.specs.Responses.{entries_of}
use Rattle.drawing.proofs.responses.Responses.buses.Goals as goal

pub returns-clause-value : goal.returns-clause-value
unfolding entries_of
returns-clause-value c = refl
