use Rattle.std.proofs.Common.{ap, ◌∙◌, rules, w32, SFits}
use Rattle.std.proofs.lemmas.Int.{to_z-of_z}
use Rattle.campaign.specs.Relations.{difference, divided_of}
use Rattle.campaign.proofs.Lists.{known}
use Rattle.campaign.proofs.Quotients.{collect_divides}
use Rattle.campaign.proofs.state.Campaign.divide.Goals as goal

pub returns : goal.returns
returns g c =
    let f = g.S.Source.facts c.args.source.now in
    let d = c.args.self.now in
    let step = c.args.step in
    let stands = known f.plant d step c.in_ok-knows.ensures in
    let fits : SFits w32 step.size = search rules in
    c.quotients.ensures ∙ ap (divided_of d.buses (difference d.before c.in_ok-after.after)) (to_z-of_z w32 step.size fits) ∙
    collect_divides f (g.met.S.Source.bounded _) d step c.in_ok-after.after stands.0 stands.1 c.in_ok-after.ensures
