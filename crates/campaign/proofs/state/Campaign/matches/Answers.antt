use Rattle.std.proofs.Common.{◌≡◌, length, rules, sym, ap, ◌∙◌}
use mathlib.Core.Bool.{beq}
use Rattle.std.specs.Cmp.Lexicographic.{pointwise}
use Rattle.campaign.proofs.Lists.{same_is}
use Rattle.campaign.proofs.state.Campaign.matches.Goals as goal

pub returns-then-buses-self : goal.returns-then-buses-self
returns-then-buses-self g c =
    let long : length c.args.self.now.inverters ≡ 64 = search rules in
    same_is (g.S.Source.facts c.args.source.now).plant c.args.self.now c.eq.result long (sym c.buses.ensures ∙ c.if-buses-self.true)
    (c.eq.ensures ∙ ap (λ xs. pointwise beq xs c.args.self.now.inverters) c.inverters_of.ensures)
