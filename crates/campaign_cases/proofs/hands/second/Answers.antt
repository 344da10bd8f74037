use Rattle.std.proofs.Common.{w32, to_z, of_z}
use Rattle.campaign.proofs.Stepping.{follows}
use Rattle.campaign_cases.proofs.Held.{still_held}
use Rattle.campaign_cases.proofs.hands.second.Goals as goal

pub put_back-requires : goal.put_back-requires
put_back-requires g c =
    let h = follows (g.S.Source.facts c.args.source.now) (g.met.S.Source.bounded _) c.args.campaign.now c.args.inverter (to_z w32 (of_z w32 c.args.step)) _ _ _ c.in_ok-fresh.ensures in
    let held = still_held _ _ _ _ _ _ _ _ (record { own = h.match; outstanding = h.out }) c.commence-2.ensures in
    record { own = held.own; outstanding = held.outstanding }
