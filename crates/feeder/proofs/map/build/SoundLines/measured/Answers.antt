use Rattle.std.proofs.Common.{◌≡◌, ◌+◌, Some, None, arith}
use Rattle.std.proofs.lemmas.Option.{MatchOption-at_none, MatchOption-at_some}
use Rattle.std.proofs.lemmas.Result.{err_from_is_err_and}
use Rattle.feeder.proofs.Tables.{tabled_more, tabled_all, lowest_beyond}
use Rattle.feeder.proofs.map.build.SoundLines.measured.Goals as goal
use Rattle.feeder.proofs.map.build.SoundLines.measured.Goals.{else-loop-bus-test, then-loop-bus-test+in_ok-ok_or+else-bus-bus-end}

pub returns-in_err-ok_or : goal.returns-in_err-ok_or
returns-in_err-ok_or c =
    let none : c.reach.result ≡ None = grind arith in
    let p = err_from_is_err_and c.from_residual.result c.from_residual.ensures.1 in
    rw (p.1, p.2) (c.loop-bus.bus, grind arith, lowest_beyond c.args.self.lines.now c.loop-bus.bus c.loop-bus.distances.items c.loop-bus.invariant c.loop-bus-test.true (MatchOption-at_none _ _ none c.reach.ensures))

pub loop-bus-preserved : goal.loop-bus-preserved
loop-bus-preserved c =
    let some : c.reach.result ≡ Some c.in_ok-ok_or.field-0 = grind arith in
    rw c.push.ensures.items (tabled_more c.args.self.lines.now c.loop-bus.bus c.in_ok-ok_or.field-0 c.loop-bus.distances.items c.loop-bus.invariant (MatchOption-at_some _ _ _ some c.reach.ensures))

pub returns : goal.returns
returns c =
    elim c.loop-bus-test.branch [
      | else-loop-bus-test w ↦ absurd (omega arith)
      | then-loop-bus-test+in_ok-ok_or+else-bus-bus-end w ↦
          let some : w.reach.result ≡ Some w.in_ok-ok_or.field-0 = grind arith in
          rw (w.distances-is, w.push.ensures.items) (tabled_all c.args.self.lines.now (c.loop-bus.bus + 1) _ (omega arith) (tabled_more c.args.self.lines.now c.loop-bus.bus w.in_ok-ok_or.field-0 c.loop-bus.distances.items c.loop-bus.invariant (MatchOption-at_some _ _ _ some w.reach.ensures)))
    ]
