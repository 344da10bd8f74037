use Rattle.drawing.specs.Responses.{entries_of}
use Rattle.drawing.proofs.Branches.{FloorTo}
use Rattle.drawing.proofs.seats.branches.Way.floor.Given as goal

abbrev pub invariant-loop-k : goal.invariant-loop-k
invariant-loop-k l = FloorTo (entries_of l.self.metered.responses.now) l.self.inverter l.k l.floor
