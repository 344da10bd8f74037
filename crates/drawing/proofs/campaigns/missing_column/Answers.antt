use Rattle.std.proofs.Common.{◌≡◌, true, not, ◌&&◌, ◌∙◌, rules}
use Rattle.campaign.specs.Columns.{has_inverter, present}
use Rattle.drawing.proofs.Copying.{lowest_is}
use Rattle.drawing.proofs.Ranges.{found}
use Rattle.drawing.proofs.campaigns.missing_column.Goals as goal

pub returns : goal.returns
returns c =
    let campaign = c.args.campaign.now in
    lowest_is campaign.buses (λ m. has_inverter campaign m && not (present campaign m)) c.find.result
    (found c.new.result 1 campaign.buses c.new.ensures.start (c.new.ensures.end ∙ c.buses.ensures) c.new.ensures.exhausted _ _ (λ a b q h. search rules) (λ m. (has_inverter campaign m && not (present campaign m)) ≡ true) (λ n t h. search rules) _ c.find.ensures.runs)
