use Rattle.std.proofs.Common.{w32, to_z, of_z}
use Rattle.campaign.proofs.Stepping.{follows}
use Rattle.campaign_cases.proofs.hands.hand_over.Goals as goal

pub take_over-requires : goal.take_over-requires
take_over-requires g c =
    let h = follows (g.S.Source.facts c.args.source.now) (g.met.S.Source.bounded _) c.args.campaign.now c.args.inverter (to_z w32 (of_z w32 c.args.step)) _ _ _ c.in_ok-fresh.ensures in
    record { own = h.match; outstanding = h.out }
