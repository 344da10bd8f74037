-- Histories of a campaign: the opening, then any list of calls by either of two crews, accepted or refused, whatever each
-- names, each call as its relation says.
use Rattle.std.specs.Prelude.{◌≡◌, ℕ, Bool, true, false, ◌||◌, List, [], ◌∷◌, ℤ, Some, None, Ok, Err, Option, Result, ◌==◌}
use Rattle.probing.specs.Facts.{Plant, Facts}
use Rattle.campaign.specs.declared.fault.CampaignRefusal.{CampaignRefusal}
use Rattle.campaign.specs.declared.state.Campaign.{Campaign}
use Rattle.campaign.specs.declared.steps.Command.{Command}
use Rattle.campaign.specs.declared.steps.Step.{Step}
use Rattle.campaign.specs.declared.steps.Fresh.{Fresh}
use Rattle.campaign.specs.declared.steps.Collected.{Collected}
use Rattle.campaign.specs.Relations.{command, Commences, Collects, Withdraws}
use Rattle.campaign.specs.Drawings.{Drawing, IsDrawingOf}

-- two crews, who may hand a campaign and its step over at any time
pub data Crew : Type 0 where
  first : Crew
  second : Crew

-- a call: what it named and what it answered. A step is withdrawn in either phase, and goes by what it is known by
pub data Call : Type 0 where
  commencing : ℕ → ℤ → Result (Step Fresh) CampaignRefusal → Call
  collecting : Step Fresh → Result (Step Collected) (Step Fresh × CampaignRefusal) → Call
  withdrawing : Command → Result (Unit {0}) CampaignRefusal → Call
  drawing : Drawing → Call

-- the calls so far, the latest first
abbrev pub Calls : Type 0
Calls = List (Crew × Call)

-- A step is outstanding from the accepted commencing that hands it out to the next accepted withdrawing.

-- by one more call
abbrev pub outstanding_after : Call → Option Command → Option Command
outstanding_after (commencing m size (Ok _)) before = Some (command m size)
outstanding_after (commencing m size (Err _)) before = before
outstanding_after (collecting step answer) before = before
outstanding_after (withdrawing step (Ok _)) before = None
outstanding_after (withdrawing step (Err _)) before = before
outstanding_after (drawing d) before = before

-- the step that is outstanding behind the calls
abbrev pub outstanding : Calls → Option Command
outstanding [] = None
outstanding (latest ∷ calls) = outstanding_after latest.1 (outstanding calls)

-- An accepted collection is for its step's inverter.

-- is the call an accepted collection for inverter m?
abbrev pub collects : ℕ → Call → Bool
collects m (commencing _ _ _) = false
collects m (collecting step (Ok _)) = step.command.inverter == m
collects m (collecting step (Err _)) = false
collects m (withdrawing _ _) = false
collects m (drawing _) = false

-- do the calls have an accepted collection for inverter m?
abbrev pub collected_for : ℕ → Calls → Bool
collected_for m [] = false
collected_for m (latest ∷ calls) = collects m latest.1 || collected_for m calls

-- the calls have an accepted collection for each inverter
abbrev pub AllCollected : Plant → Calls → Type 0
AllCollected p calls = (m : ℕ) → p.inverter m ≡ true → collected_for m calls ≡ true

-- each call is as its relation says; a drawing changes neither source nor campaign
abbrev pub Happens : Call → Facts → Campaign → Facts → Campaign → Type 0
Happens (commencing m size answer) f c f' c' = Commences f c m size answer f' c'
Happens (collecting step answer) f c f' c' = Collects f c step answer f' c'
Happens (withdrawing step answer) f c f' c' = Withdraws f c step answer f' c'
Happens (drawing d) f c f' c' = IsDrawingOf c d × (f' ≡ f) × (c' ≡ c)

-- from facts and campaign at the opening, by the calls, to facts and campaign now
pub data History (f₀ : Facts) (c₀ : Campaign) : Calls → Facts → Campaign → Type 0 where
  opened : History f₀ c₀ [] f₀ c₀
  called : {calls : Calls} {f : Facts} {c : Campaign} {f' : Facts} {c' : Campaign} (crew : Crew) (call : Call) →
      History f₀ c₀ calls f c → Happens call f c f' c' → History f₀ c₀ ((crew, call) ∷ calls) f' c'
