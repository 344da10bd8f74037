-- The number, layer and place of what ends a survey.
use Rattle.refusals.specs.declared.Refusal.{Refusal}
use Rattle.files.specs.Faults as file
use Rattle.probing.specs.Refusals as source
use Rattle.campaign.specs.Refusals as campaign
use Rattle.campaign.specs.Drawings.{drawing_refusal}
use Rattle.survey.specs.declared.fault.ProgramFault.{ProgramFault}
use Rattle.survey.specs.declared.fault.ProgramFault.TheVariants.{File, Source, Campaign, Drawing}

-- each layer's own; a campaign's refusal is told without its inverter
abbrev pub refusal_of : ProgramFault → Refusal
refusal_of (File fault) = file.refusal_of fault
refusal_of (Source fault) = source.refusal_of fault
refusal_of (Campaign refusal) = campaign.refusal_of refusal.fault
refusal_of (Drawing fault) = drawing_refusal fault
