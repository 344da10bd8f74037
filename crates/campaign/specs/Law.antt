-- The law of a campaign, for every source and whatever its settings are at the opening: what holds at the opening and after
-- every list of calls by two crews, whatever each call names, accepted or refused.
--
-- Its premise: each call that takes a source takes that of the opening, and nothing else changes that source or the campaign.
-- It is the caller's to keep. A campaign knows a source by its buses and inverters alone (refusal 14), so another source with
-- the same ones is not told apart: a step that is withdrawn on it leaves the inverter of the first off its schedule.
use Rattle.std.specs.Prelude.{◌≡◌, ℕ, true, is_err, List, ℤ, Some, None, Ok, Option}
use Rattle.feeder.specs.declared.line.Line.{Line}
use Rattle.feeder.specs.declared.kind.Kind.TheVariants.{Complete}
use Rattle.feeder.specs.Table.{OfKind, Yields, NoFeeder}
use Rattle.feeder.specs.View.{lines_of, DrawnMap}
use Rattle.probing.specs.Facts.{Facts, metered, replaced}
use Rattle.campaign.specs.declared.state.Campaign.{Campaign}
use Rattle.campaign.specs.declared.steps.Command.{Command}
use Rattle.campaign.specs.Columns.{same, present, entry}
use Rattle.campaign.specs.Drawings.{Moderate, Drawing, IsDrawingOf, responses_of}
use Rattle.campaign.specs.History.{Calls, outstanding, collected_for, AllCollected, History}

-- the settings at the opening, but for the outstanding step's inverter, which has the commanded one
abbrev pub settings_with : (ℕ → ℤ) → Option Command → ℕ → ℤ
settings_with settings None = settings
settings_with settings (Some step) = replaced settings step.inverter step.size

-- facts and campaign behind the calls, where the facts were f₀ at the opening
pub record LawHolds (f₀ : Facts) (calls : Calls) (f : Facts) (c : Campaign) : Type 0 where
  -- no call changes the plant
  pub plant : f.plant ≡ f₀.plant
  -- every inverter has the setting it had at the opening, except that an outstanding step's inverter has its commanded one
  pub settings : (m : ℕ) → f.state.setting m ≡ settings_with f₀.state.setting (outstanding calls) m
  -- the campaign knows the outstanding step, and the source's buses and inverters
  pub remembers : c.outstanding ≡ outstanding calls
  pub same_source : same f₀.plant c ≡ true
  -- every column present is the source's responses to its inverter
  pub columns : (m : ℕ) → present c m ≡ true →
      (f₀.plant.inverter m ≡ true) × ((n : ℕ) → metered f₀.plant n ≡ true → entry c n m ≡ f₀.plant.response n m)
  -- what was collected stays
  pub collected : (m : ℕ) → collected_for m calls ≡ true → present c m ≡ true
  -- so the campaign has at most 64 buses, and no collected entry beyond 1,000,000 either way
  pub moderate : Moderate c
  -- once every inverter has an accepted collection, a drawing is refused exactly when no feeder of its kind yields the source's responses
  pub refused : AllCollected f₀.plant calls → (d : Drawing) → IsDrawingOf c d →
      (is_err d.answer ≡ true → NoFeeder d.kind (responses_of f₀.plant)) ×
      (NoFeeder d.kind (responses_of f₀.plant) → is_err d.answer ≡ true)
  -- a drawn feeder is of its kind and yields every response of the source; every other one that does has at least as many
  -- buses, and with equally many differs only in the numbers of unmetered buses
  pub drawn : (d : Drawing) → IsDrawingOf c d → d.answer ≡ Ok tt → DrawnMap d.kind (responses_of f₀.plant) d.after

-- the law of a campaign that was opened on facts f₀
abbrev pub CampaignLaw : Facts → Campaign → Type 0
CampaignLaw f₀ c₀ = (calls : Calls) (f : Facts) (c : Campaign) → History f₀ c₀ calls f c → LawHolds f₀ calls f c

-- So the feeder comes back: where lines are a complete feeder that yields the source's responses, then after every list of calls
-- with an accepted collection for each inverter every complete drawing answers with these lines.
abbrev pub FeederComesBack : Facts → Campaign → Type 0
FeederComesBack f₀ c₀ =
    (F : List Line) → OfKind Complete (responses_of f₀.plant) F → Yields (responses_of f₀.plant) F →
    (calls : Calls) (f : Facts) (c : Campaign) → History f₀ c₀ calls f c → AllCollected f₀.plant calls →
    (d : Drawing) → IsDrawingOf c d → d.kind ≡ Complete → (d.answer ≡ Ok tt) × (lines_of d.after ≡ F)
