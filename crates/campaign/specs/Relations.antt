-- What each call on a campaign answers, and what it leaves: one relation for each call, between the facts of the source
-- and the campaign before, what was named, the answer, and facts and campaign after.
use Rattle.std.specs.Prelude.{◌≡◌, ℕ, ◌-◌, Bool, not, List, map, replicate, ℤ, pos, ◌-ℤ◌, is_some, Some, None, Ok, Err, Option, Result, slice_index_or, slice_set}
use Rattle.std.specs.List.{range_with_len}
use Rattle.units.specs.Quotients.{response_of}
use Rattle.refusals.specs.Checks.{need, lacking, after, left}
use Rattle.probing.specs.declared.fault.SourceFault.{SourceFault}
use Rattle.probing.specs.Facts.{Plant, Facts, voltage, with_setting}
use Rattle.probing.specs.Answers.{lowest, per_bus, read_all_of, command_of}
use Rattle.campaign.specs.declared.fault.CampaignFault.{CampaignFault}
use Rattle.campaign.specs.declared.fault.CampaignFault.TheVariants.{Source, StepOutstanding, NotThisCampaign, NotMultiple}
use Rattle.campaign.specs.declared.fault.CampaignRefusal.{CampaignRefusal}
use Rattle.campaign.specs.declared.state.Campaign.{Campaign}
use Rattle.campaign.specs.declared.state.Column.{Column}
use Rattle.campaign.specs.declared.steps.Command.{Command}
use Rattle.campaign.specs.declared.steps.Step.{Step}
use Rattle.campaign.specs.declared.steps.Fresh.{Fresh}
use Rattle.campaign.specs.declared.steps.Collected.{Collected}
use Rattle.campaign.specs.Columns.{same, is_outstanding}

-- Opening

-- which of the buses 1 to 64 have inverters
unfoldable pub inverter_list : Plant → List Bool
inverter_list p = map p.inverter (range_with_len 1 64)

-- 64 readings of 0
unfoldable pub zeros : List ℤ
zeros = replicate 64 (pos 0)

-- 64 columns, none of them present
unfoldable pub no_columns : List (Option Column)
no_columns = replicate 64 None

-- the source's buses and inverters, no column, no outstanding step
abbrev pub opening_of : Plant → Campaign
opening_of p = record { buses = p.buses; inverters = inverter_list p; outstanding = None; before = zeros; columns = no_columns }

-- Refusals

-- a source's fault becomes the inner case of the campaign's
abbrev pub from_source : {T : Type 0} → Result T SourceFault → Result T CampaignFault
from_source (Ok x) = Ok x
from_source (Err fault) = Err (Source fault)

-- the campaign adds the inverter that was named
abbrev pub naming : {T : Type 0} → ℕ → Result T CampaignFault → Result T CampaignRefusal
naming m (Ok x) = Ok x
naming m (Err fault) = Err (record { fault = fault; inverter = m })

-- a refused call hands the step back as it was
abbrev pub handing_back : {S T : Type 0} → S → Result T CampaignRefusal → Result T (S × CampaignRefusal)
handing_back step (Ok x) = Ok x
handing_back step (Err refusal) = Err (step, refusal)

-- Steps

-- what a step of inverter m by a size is known by
abbrev pub command : ℕ → ℤ → Command
command m size = record { inverter = m; size = size }

-- a step that is known so, in either phase
abbrev pub step_of : {P : Type 0} → Command → Step P
step_of known = record { command = known; phase = record {} }

-- Commencing

-- another source; a step outstanding; then what the source refuses: a mute meter, no inverter, a bad step, off schedule
abbrev pub commence_of : Facts → Campaign → ℕ → ℤ → Result (Step Fresh) CampaignFault
commence_of f c m size =
    need (same f.plant c) (NotThisCampaign m)
    (lacking c.outstanding (λ (step : Command). StepOutstanding step.inverter)
    (from_source (after (read_all_of f) (λ _. after (command_of f m size) (λ _. Ok (step_of (command m size)))))))

-- the step is outstanding, and what was read before it is kept
abbrev pub commenced : Facts → Campaign → ℕ → ℤ → Campaign
commenced f c m size =
    record { buses = c.buses; inverters = c.inverters; outstanding = Some (command m size); before = per_bus f.plant.buses (voltage f); columns = c.columns }

-- commencing a step of inverter m
pub record Commences (f : Facts) (c : Campaign) (m : ℕ) (size : ℤ) (answer : Result (Step Fresh) CampaignRefusal) (f' : Facts) (c' : Campaign) : Type 0 where
  pub answers : answer ≡ naming m (commence_of f c m size)
  pub source : f' ≡ left answer (with_setting f m size) f
  pub campaign : c' ≡ left answer (commenced f c m size) c

-- Collecting

-- a quotient, or 0 where there is none
abbrev pub or_zero : Option ℤ → ℤ
or_zero None = pos 0
or_zero (Some q) = q

-- each bus's change divided by the signed step
abbrev pub quotients : ℕ → (ℕ → ℤ) → ℤ → List ℤ
quotients last change size = per_bus last (λ n. or_zero (response_of (change n) size))

-- the change of bus n is no whole multiple of the step, or too large a one
abbrev pub is_uneven : (ℕ → ℤ) → ℤ → ℕ → Bool
is_uneven change size n = not (is_some (response_of (change n) size))

-- the quotients, unless a bus's change is uneven: the lowest such bus
abbrev pub divided_of : ℕ → (ℕ → ℤ) → ℤ → Result (List ℤ) CampaignFault
divided_of last change size = lacking (lowest last (is_uneven change size)) NotMultiple (Ok (quotients last change size))

-- the change from one reading of bus n to another
abbrev pub difference : List ℤ → List ℤ → ℕ → ℤ
difference first second n = slice_index_or second (n - 1) (pos 0) -ℤ slice_index_or first (n - 1) (pos 0)

-- the change of bus n since the commencing
abbrev pub change_of : Facts → Campaign → ℕ → ℤ
change_of f c n = voltage f n -ℤ slice_index_or c.before (n - 1) (pos 0)

-- another source, or not the outstanding step; a mute meter; an uneven change at the lowest bus
abbrev pub collect_of : Facts → Campaign → Command → Result (List ℤ) CampaignFault
collect_of f c step =
    need (same f.plant c) (NotThisCampaign step.inverter)
    (need (is_outstanding c step) (NotThisCampaign step.inverter)
    (after (from_source (read_all_of f)) (λ _. divided_of f.plant.buses (change_of f c) step.size)))

-- one column is replaced, and every other stays
abbrev pub collected : Campaign → ℕ → List ℤ → Campaign
collected c m responses =
    record { buses = c.buses; inverters = c.inverters; outstanding = c.outstanding; before = c.before; columns = slice_set c.columns (m - 1) (Some (record { responses = responses })) }

-- the step comes back as one that was collected
abbrev pub collection_of : Facts → Campaign → Command → Result (Step Collected) CampaignFault
collection_of f c step = after (collect_of f c step) (λ _. Ok (step_of step))

-- collecting a fresh step
pub record Collects (f : Facts) (c : Campaign) (step : Step Fresh) (answer : Result (Step Collected) (Step Fresh × CampaignRefusal)) (f' : Facts) (c' : Campaign) : Type 0 where
  pub answers : answer ≡ handing_back step (naming step.command.inverter (collection_of f c step.command))
  pub source : f' ≡ f
  pub campaign : c' ≡ left answer (collected c step.command.inverter (quotients f.plant.buses (change_of f c) step.command.size)) c

-- Withdrawing

-- another source, or not the outstanding step
abbrev pub withdrawal_of : Plant → Campaign → Command → Result (Unit {0}) CampaignFault
withdrawal_of p c step =
    need (same p c) (NotThisCampaign step.inverter)
    (need (is_outstanding c step) (NotThisCampaign step.inverter)
    (Ok tt))

-- no step is outstanding
abbrev pub ended : Campaign → Campaign
ended c = record { buses = c.buses; inverters = c.inverters; outstanding = None; before = c.before; columns = c.columns }

-- an answer that hands a step back, without the step
abbrev pub told : {S T : Type 0} → Result T (S × CampaignRefusal) → Result T CampaignRefusal
told (Ok x) = Ok x
told (Err back) = Err back.1

-- withdrawing a step, of either phase
pub record Withdraws (f : Facts) (c : Campaign) (step : Command) (answer : Result (Unit {0}) CampaignRefusal) (f' : Facts) (c' : Campaign) : Type 0 where
  pub answers : answer ≡ naming step.inverter (withdrawal_of f.plant c step)
  pub source : f' ≡ left answer (with_setting f step.inverter (pos 0)) f
  pub campaign : c' ≡ left answer (ended c) c
