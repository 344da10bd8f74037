use Rattle.std.proofs.Common.{◌+◌, None, rules}
use Rattle.probing.proofs.Arrays.{each_made}
use Rattle.drawing.proofs.Copying.{Column, copy}
use Rattle.drawing.proofs.campaigns.columns_of.Goals as goal

pub returns : goal.returns
returns c = copy c.args.campaign.now _ c.buses.ensures (λ k. each_made _ (λ k o. Column c.args.campaign.now (k + 1) o) _ (λ i y q h. search rules) _ _ c.from_fn.ensures.items k None)
