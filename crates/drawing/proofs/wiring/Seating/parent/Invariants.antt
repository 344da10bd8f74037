use Rattle.drawing.specs.Responses.{entries_of}
use Rattle.drawing.proofs.Wirings.{ParentTo}
use Rattle.drawing.proofs.wiring.Seating.parent.Given as goal

abbrev pub invariant-loop-other : goal.invariant-loop-other
invariant-loop-other l = ParentTo (entries_of l.self.responses.now) l.self.seats.now l.bus l.other l.parent
