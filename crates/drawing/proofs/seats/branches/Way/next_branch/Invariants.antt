use Rattle.drawing.specs.Responses.{entries_of}
use Rattle.drawing.proofs.Branches.{NextTo}
use Rattle.drawing.proofs.seats.branches.Way.next_branch.Given as goal

abbrev pub invariant-loop-k : goal.invariant-loop-k
invariant-loop-k l = NextTo (entries_of l.self.metered.responses.now) l.self.metered.seats.now l.self.inverter l.from l.end l.k l.next
