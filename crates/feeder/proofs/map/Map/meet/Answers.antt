use Rattle.std.proofs.Common.{sym, ap, ◌∙◌, arith}
use Rattle.feeder.specs.Feeder.{response}
use Rattle.feeder.specs.View.{lines_of}
use Rattle.feeder.proofs.Maps.{climbed, map_response_own, map_response_sym}
use Rattle.feeder.proofs.map.Map.meet.Goals as goal

-- where b is farther, b goes up
pub loop-a-preserved-then-distances-a : goal.loop-a-preserved-then-distances-a
loop-a-preserved-then-distances-a c =
    let m = c.args.self.now in
    let up = climbed m _ _ c.lines-lines.ensures c.as_slice-distances.ensures.value c.loop-a.b c.loop-a.a c.loop-a.invariant.1 c.loop-a.invariant.0 (λ e. omega (arith, sym e)) (omega arith) _ in
    (c.loop-a.invariant.0, up.within, c.loop-a.invariant.2 ∙ map_response_sym m c.loop-a.a c.loop-a.b ∙ up.shares ∙ map_response_sym m _ c.loop-a.a)

pub loop-a-preserved : goal.loop-a-preserved
loop-a-preserved c =
    let up = climbed c.args.self.now _ _ c.lines-lines.ensures c.as_slice-distances.ensures.value c.loop-a.a c.loop-a.b c.loop-a.invariant.0 c.loop-a.invariant.1 c.loop-a-test.true c.if-distances-a.false _ in
    (up.within, c.loop-a.invariant.1, c.loop-a.invariant.2 ∙ up.shares)

pub returns-clause-far : goal.returns-clause-far
returns-clause-far c = c.loop-a.invariant.2 ∙ ap (response (lines_of c.args.self.now) c.loop-a.a) (sym c.loop-a-test.false) ∙ map_response_own c.args.self.now c.loop-a.a
