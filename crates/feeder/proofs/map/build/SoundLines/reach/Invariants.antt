use Rattle.std.proofs.Common.{◌-◌}
use Rattle.feeder.proofs.Reach.{Passed}
use Rattle.feeder.proofs.map.build.SoundLines.reach.Given as goal

abbrev pub invariant-loop-at : goal.invariant-loop-at
invariant-loop-at l = Passed l.self.lines.now l.bus l.at l.sum

abbrev pub decreases-loop-at : goal.decreases-loop-at
decreases-loop-at l = 1000000 - l.sum
