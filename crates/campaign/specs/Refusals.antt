-- The number, the layer and the place of each fault of a campaign. A source's fault keeps its own.
use Rattle.std.specs.Prelude.{ℕ}
use Rattle.refusals.specs.declared.Refusal.{Refusal}
use Rattle.refusals.specs.declared.Layer.TheVariants.{Campaign}
use Rattle.probing.specs.Refusals as source
use Rattle.campaign.specs.declared.fault.CampaignFault.{CampaignFault}
use Rattle.campaign.specs.declared.fault.CampaignFault.TheVariants.{Source, StepOutstanding, NotThisCampaign, NotMultiple}

-- a refusal of the layer "campaign"
abbrev pub of_campaign : ℕ → ℕ → Refusal
of_campaign number place = record { number = number; layer = Campaign; place = place }

-- each fault's number and place
abbrev pub refusal_of : CampaignFault → Refusal
refusal_of (Source fault) = source.refusal_of fault
refusal_of (StepOutstanding inverter) = of_campaign 11 inverter
refusal_of (NotThisCampaign inverter) = of_campaign 14 inverter
refusal_of (NotMultiple bus) = of_campaign 15 bus
