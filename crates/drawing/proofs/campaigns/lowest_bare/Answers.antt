use Rattle.std.proofs.Common.{◌≡◌, true, not, ◌∙◌, rules}
use Rattle.campaign.specs.Columns.{has_inverter}
use Rattle.drawing.proofs.Copying.{lowest_is}
use Rattle.drawing.proofs.Ranges.{found}
use Rattle.drawing.proofs.campaigns.lowest_bare.Goals as goal

pub returns : goal.returns
returns c =
    let campaign = c.args.campaign.now in
    lowest_is campaign.buses (λ n. not (has_inverter campaign n)) c.find.result
    (found c.new.result 1 campaign.buses c.new.ensures.start (c.new.ensures.end ∙ c.buses.ensures) c.new.ensures.exhausted _ _ (λ a b q h. search rules) (λ n. not (has_inverter campaign n) ≡ true) (λ n t h. search rules) _ c.find.ensures.runs)
