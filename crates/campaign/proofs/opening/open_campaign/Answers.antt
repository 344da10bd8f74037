use Rattle.std.proofs.Common.{◌≡◌, replicate, pos, None, rules, sym, subst}
use Rattle.campaign.specs.declared.state.Campaign.{Campaign}
use Rattle.campaign.specs.Relations.{zeros, no_columns, opening_of}
use Rattle.campaign.specs.Law.{CampaignLaw, FeederComesBack}
use Rattle.campaign.proofs.Law.{campaign_law, feeder_comes_back}
use Rattle.campaign.proofs.opening.open_campaign.Goals as goal

pub returns : goal.returns
unfolding zeros no_columns
returns g c =
    let f = g.S.Source.facts c.args.source.now in
    let bounds = g.met.S.Source.bounded c.args.source.now in
    let opened : record { buses = c.buses.result; inverters = c.inverters_of.result; outstanding = None; before = replicate 64 (pos 0); columns = replicate 64 None } ≡ opening_of f.plant = search rules in
    record {
      opened = opened;
      law = subst (λ (k : Campaign). CampaignLaw f k) (sym opened) (campaign_law f bounds);
      returned = subst (λ (k : Campaign). FeederComesBack f k) (sym opened) (feeder_comes_back f bounds);
    }
