use Rattle.feeder.proofs.Tables.{TabledTo}
use Rattle.feeder.proofs.map.build.SoundLines.measured.Given as goal

abbrev pub invariant-loop-bus : goal.invariant-loop-bus
invariant-loop-bus l = TabledTo l.self.lines.now l.bus l.distances.items
