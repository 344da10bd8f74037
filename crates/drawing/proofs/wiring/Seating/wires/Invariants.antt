use Rattle.drawing.specs.Responses.{entries_of}
use Rattle.drawing.proofs.Wirings.{WiredTo}
use Rattle.drawing.proofs.wiring.Seating.wires.Given as goal

abbrev pub invariant-loop-bus : goal.invariant-loop-bus
invariant-loop-bus l = WiredTo (entries_of l.self.responses.now) l.self.seats.now l.bus l.lines.items
