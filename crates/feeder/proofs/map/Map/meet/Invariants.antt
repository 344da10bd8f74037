use Rattle.std.proofs.Common.{◌≡◌, ◌+◌, ◌≤◌, length}
use Rattle.feeder.specs.Feeder.{response}
use Rattle.feeder.specs.View.{lines_of}
use Rattle.feeder.proofs.Maps.{held}
use Rattle.feeder.proofs.map.Map.meet.Given as goal

abbrev pub invariant-loop-a : goal.invariant-loop-a
invariant-loop-a l = (l.a ≤ length (lines_of l.self)) × (l.b ≤ length (lines_of l.self)) × (response (lines_of l.self) l.n l.m ≡ response (lines_of l.self) l.a l.b)

abbrev pub decreases-loop-a : goal.decreases-loop-a
decreases-loop-a l = held l.self l.a + held l.self l.b
