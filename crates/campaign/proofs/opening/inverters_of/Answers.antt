use Rattle.std.proofs.Common.{rules}
use Rattle.campaign.proofs.Lists.{inverters_made}
use Rattle.campaign.proofs.opening.inverters_of.Goals as goal

pub returns : goal.returns
returns g c = inverters_made _ _ (g.S.Source.facts c.args.source.now).plant (λ i y q k. search rules) c.from_fn.result c.from_fn.ensures.items
