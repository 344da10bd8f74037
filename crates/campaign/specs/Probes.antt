-- A whole probe of one inverter, and of every inverter in rising order.
use Rattle.std.specs.Prelude.{◌≡◌, ℕ, zero, suc, Bool, true, cond, ◌&&◌, List, [], ◌∷◌, ℤ, is_err, Some, None, Ok, Err, Result}
use Rattle.refusals.specs.Checks.{after}
use Rattle.probing.specs.declared.fault.SourceFault.{SourceFault}
use Rattle.probing.specs.Facts.{Plant, Facts, metered}
use Rattle.probing.specs.Answers.{lowest, read_all_of, command_of}
use Rattle.campaign.specs.declared.fault.CampaignRefusal.{CampaignRefusal}
use Rattle.campaign.specs.declared.state.Campaign.{Campaign}
use Rattle.campaign.specs.declared.steps.Command.{Command}
use Rattle.campaign.specs.declared.steps.Step.{Step}
use Rattle.campaign.specs.declared.steps.Fresh.{Fresh}
use Rattle.campaign.specs.declared.steps.Collected.{Collected}
use Rattle.campaign.specs.Columns.{present, entry}
use Rattle.campaign.specs.Relations.{opening_of, from_source, naming, command, Commences, Collects, Withdraws}
use Rattle.campaign.specs.History.{commencing, collecting, withdrawing, drawing, Calls, outstanding, AllCollected, History}

-- three calls that were accepted: commencing, collecting, withdrawing
pub record Probed (f : Facts) (c : Campaign) (m : ℕ) (size : ℤ) (f' : Facts) (c' : Campaign) : Type 0 where
  pub stepped : Facts
  pub commenced : Campaign
  pub collected : Campaign
  pub fresh : Step Fresh
  pub step : Step Collected
  pub commences : Commences f c m size (Ok fresh) stepped commenced
  pub collects : Collects stepped commenced fresh (Ok step) stepped collected
  pub withdraws : Withdraws stepped collected step.command (Ok tt) f' c'

-- only the commencing can be refused
abbrev pub Probes : Facts → Campaign → ℕ → ℤ → Result (Unit {0}) CampaignRefusal → Facts → Campaign → Type 0
Probes f c m size (Ok _) f' c' = Probed f c m size f' c'
Probes f c m size (Err refusal) f' c' = Commences f c m size (Err refusal) f' c'

-- what the source answers to a step: it reads every meter, and then takes the command
abbrev pub stepping_of : Facts → ℕ → ℤ → Result (Unit {0}) SourceFault
stepping_of f m size = after (read_all_of f) (λ _. command_of f m size)

-- there is an inverter at m, and the source refuses its step
abbrev pub failing : Facts → ℤ → ℕ → Bool
failing f size m = f.plant.inverter m && is_err (stepping_of f m size)

-- the steps that were commenced, the latest first
abbrev pub steps_of : Calls → List Command
steps_of [] = []
steps_of ((crew, commencing m size (Ok step)) ∷ calls) = command m size ∷ steps_of calls
steps_of ((crew, commencing m size (Err refusal)) ∷ calls) = steps_of calls
steps_of ((crew, collecting step answer) ∷ calls) = steps_of calls
steps_of ((crew, withdrawing step answer) ∷ calls) = steps_of calls
steps_of ((crew, drawing d) ∷ calls) = steps_of calls

-- a step of one size for each inverter of 1 to k, the highest first
abbrev pub one_each : Plant → ℤ → ℕ → List Command
one_each p size zero = []
one_each p size (suc k) = cond (p.inverter (suc k)) (command (suc k) size ∷ one_each p size k) (one_each p size k)

-- a campaign to which a history leads whose steps were commenced in rising order, one of this size for each inverter
pub record InRisingOrder (f : Facts) (size : ℤ) (c : Campaign) : Type 0 where
  pub calls : Calls
  pub history : History f (opening_of f.plant) calls f c
  pub rising : steps_of calls ≡ one_each f.plant size f.plant.buses

-- a campaign in which every inverter was probed, and no step is outstanding
pub record Surveyed (f : Facts) (c : Campaign) : Type 0 where
  pub calls : Calls
  pub history : History f (opening_of f.plant) calls f c
  pub withdrawn : outstanding calls ≡ None
  pub each : AllCollected f.plant calls
  pub columns : (m : ℕ) → f.plant.inverter m ≡ true →
      (present c m ≡ true) × ((n : ℕ) → metered f.plant n ≡ true → entry c n m ≡ f.plant.response n m)

-- every inverter, unless the source refuses one: then the lowest, with the source's refusal
abbrev pub AllProbed : Facts → ℤ → Result Campaign CampaignRefusal → Type 0
AllProbed f size (Ok c) = (lowest f.plant.buses (failing f size) ≡ None) × Surveyed f c
AllProbed f size (Err refusal) = (m : ℕ) × (lowest f.plant.buses (failing f size) ≡ Some m) × (Err refusal ≡ naming m (from_source (stepping_of f m size)))
