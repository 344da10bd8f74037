use Rattle.feeder.proofs.Ends.{tells_end}
use Rattle.feeder.proofs.map.Map.is_end.Goals as goal

pub returns-clause-value : goal.returns-clause-value
returns-clause-value c = tells_end _ _ _ c.in_ok-line.ensures.0 (rw c.lines.ensures at c.has_child.ensures)
