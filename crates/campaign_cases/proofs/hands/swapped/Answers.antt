use Rattle.std.proofs.Common.{w32, to_z, of_z}
use Rattle.campaign.proofs.Stepping.{follows}
use Rattle.campaign_cases.proofs.Held.{swapped}
use Rattle.campaign_cases.proofs.hands.swapped.Goals as goal

pub put_back_from-requires : goal.put_back_from-requires
put_back_from-requires g c =
    let h = follows (g.S.Source.facts c.args.source.now) (g.met.S.Source.bounded _) c.args.campaign.now c.args.inverter (to_z w32 (of_z w32 c.args.step)) _ _ _ c.in_ok-fresh.ensures in
    let held = swapped _ _ _ _ _ _ _ h c.collect-answer.ensures in
    record { own = held.own; outstanding = held.outstanding }
