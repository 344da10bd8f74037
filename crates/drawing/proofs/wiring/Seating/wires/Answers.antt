use Rattle.drawing.specs.Responses.{entries_of}
use Rattle.drawing.proofs.Wirings.{wired_more}
use Rattle.drawing.proofs.wiring.Seating.wires.Goals as goal

pub loop-bus-preserved : goal.loop-bus-preserved
loop-bus-preserved c = rw c.push.ensures.items (wired_more (entries_of c.args.self.now.responses.now) c.args.self.now.seats.now c.loop-bus.bus c.loop-bus.lines.items c.line.result c.loop-bus.invariant c.line.ensures)
