use Rattle.campaign_cases.proofs.Held.{own_held_back}
use Rattle.campaign_cases.proofs.hands.take_over.Goals as goal

pub put_back_from-requires : goal.put_back_from-requires
put_back_from-requires g c =
    let held = own_held_back (g.S.Source.facts c.args.source.now).plant _ _ _ _ _ _ (record { own = c.requires.own; outstanding = c.requires.outstanding }) c.collect-answer.ensures in
    record { own = held.own; outstanding = held.outstanding }
