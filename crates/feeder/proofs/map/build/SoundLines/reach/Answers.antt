use Rattle.std.proofs.Common.{arith}
use Rattle.feeder.proofs.Reach.{passed_all, passed_more, passed_beyond}
use Rattle.feeder.proofs.map.build.SoundLines.reach.Goals as goal

pub returns-then-line-sum : goal.returns-then-line-sum
returns-then-line-sum c = passed_beyond c.args.self.lines.now c.args.self.sound c.args.bus c.loop-at.at c.loop-at.sum c.loop-at.invariant (λ e. omega arith) (record { parent = 0; resistance = 0 }) (omega arith)

pub loop-at-preserved : goal.loop-at-preserved
loop-at-preserved c = passed_more c.args.self.lines.now c.args.self.sound c.args.bus c.loop-at.at c.loop-at.sum c.loop-at.invariant (λ e. omega arith) _ (omega arith)

pub returns : goal.returns
returns c = (c.loop-at.invariant.near, passed_all c.args.self.lines.now c.args.bus c.loop-at.at c.loop-at.sum c.loop-at.invariant (omega arith))
