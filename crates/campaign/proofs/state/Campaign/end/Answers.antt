use Rattle.campaign.proofs.Lists.{known, withdraw_stands}
use Rattle.campaign.proofs.state.Campaign.end.Goals as goal

pub returns-in_err-withdraw : goal.returns-in_err-withdraw
returns-in_err-withdraw g c =
    let f = g.S.Source.facts c.args.source.now in
    let step = c.args.step in
    let stands = known f.plant c.args.self.now step c.in_ok-knows.ensures in
    absurd (withdraw_stands f c.args.self.now step c.in_err-withdraw.field-0.0 stands.0 stands.1 c.in_err-withdraw.ensures.answer)
