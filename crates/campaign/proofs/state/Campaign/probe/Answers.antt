use Rattle.std.proofs.Common.{w32, to_z, of_z}
use Rattle.campaign.proofs.Stepping.{follows, never_refused, still_outstanding}
use Rattle.campaign.proofs.state.Campaign.probe.Goals as goal

pub put_back-requires : goal.put_back-requires
put_back-requires g c =
    let h = follows (g.S.Source.facts c.args.source.now) (g.met.S.Source.bounded _) c.args.self.now c.args.inverter (to_z w32 (of_z w32 c.args.step)) _ _ _ c.in_ok-fresh.ensures in
    let out = still_outstanding _ _ _ _ _ _ h c.in-Ok.ensures in
    record { own = out.0; outstanding = out.1 }

pub put_back-requires-in-Err : goal.put_back-requires-in-Err
put_back-requires-in-Err g c =
    let h = follows (g.S.Source.facts c.args.source.now) (g.met.S.Source.bounded _) c.args.self.now c.args.inverter (to_z w32 (of_z w32 c.args.step)) _ _ _ c.in_ok-fresh.ensures in
    absurd (never_refused _ _ _ _ _ _ h c.in-Err.ensures)

pub returns-in-Err : goal.returns-in-Err
returns-in-Err g c =
    let h = follows (g.S.Source.facts c.args.source.now) (g.met.S.Source.bounded _) c.args.self.now c.args.inverter (to_z w32 (of_z w32 c.args.step)) _ _ _ c.in_ok-fresh.ensures in
    absurd (never_refused _ _ _ _ _ _ h c.in-Err.ensures)
