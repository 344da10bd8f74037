-- What probing every inverter of an idle source answers, a loaded table's among them.
use Rattle.std.proofs.Common.{◌≡◌, ℕ, ◌≤◌, Bool, true, false, ◌&&◌, leb, List, ℤ, pos, nat_abs, is_some, is_err, Some, None, Ok, Err, Option, Result, sym, refl, ap, ◌∙◌, arith}
use Rattle.std.proofs.lemmas.Bool.{both_ways, and_parts, and_from, eq-eqb, le-leb}
use Rattle.files.specs.declared.table.Table.{Table}
use Rattle.files.specs.Tables.{probe_of, mute_of}
use Rattle.files.specs.Responses.{Reading}
use Rattle.files.proofs.Outcomes.{mute_has_inverter}
use Rattle.probing.specs.declared.fault.SourceFault.{SourceFault}
use Rattle.probing.specs.declared.fault.SourceFault.TheVariants.{NoInverter, OffSchedule, Unreadable}
use Rattle.refusals.specs.Checks.{need, lacking, after}
use Rattle.probing.specs.Facts.{Plant, Facts, PlantIsBounded, IsBounded, voltage}
use Rattle.probing.specs.Answers.{on_schedule, lowest, per_bus, command_of}
use Rattle.probing.proofs.Readings.{lowest_same, lowest_fails}
use Rattle.sources.specs.GridFacts.{within, IsBusCount, idle}
use Rattle.sources.specs.TableFacts.{table_plant, table_facts}
use Rattle.sources.specs.Bounds.{table_is_bounded}
use Rattle.campaign.specs.declared.fault.CampaignFault.TheVariants.{Source}
use Rattle.campaign.specs.declared.fault.CampaignRefusal.{CampaignRefusal}
use Rattle.campaign.specs.Relations.{from_source, naming}
use Rattle.campaign.specs.Probes.{stepping_of, failing}
use Rattle.campaign.proofs.Law.{lowest_passes}
use Rattle.survey.specs.Surveys.{mute}

-- a step of 100 thousandths
abbrev pub step : ℤ
step = pos 100

-- the lowest mute meter of a source
abbrev pub silent : Facts → Option ℕ
silent f = lowest f.plant.buses f.plant.mute

and_true : (b : Bool) → (b && true) ≡ b
and_true true = refl
and_true false = refl

-- a source with every inverter on its schedule
module _ (f : Facts) (on : (m : ℕ) → f.state.setting m ≡ pos 0) where
  -- the command is taken where an inverter is
  commands : (m : ℕ) → f.plant.inverter m ≡ true → command_of f m step ≡ Ok tt
  commands m e =
      ap (λ b. need b (NoInverter m) (need (on_schedule f m) (OffSchedule m) (Ok tt))) e ∙
      ap (λ b. need b (OffSchedule m) (Ok tt)) (eq-eqb (nat_abs (f.state.setting m)) 0 (ap nat_abs (on m)))

  -- what follows the readings
  abbrev stepping : ℕ → Option ℕ → Result (Unit {0}) SourceFault
  stepping m o = after (lacking o Unreadable (Ok (per_bus f.plant.buses (voltage f)))) (λ _. command_of f m step)

  -- where a meter is mute, every inverter's step is refused
  mute_fails : (bus : ℕ) → silent f ≡ Some bus → (k : ℕ) → failing f step k ≡ f.plant.inverter k
  mute_fails bus e k = ap (λ o. f.plant.inverter k && is_err (stepping k o)) e ∙ and_true (f.plant.inverter k)

  -- with no mute meter no step fails
  pub never_fails : silent f ≡ None → (k : ℕ) → failing f step k ≡ true → ⊥
  never_fails e k h =
      let parts = and_parts (f.plant.inverter k) (is_err (stepping_of f k step)) h in
      both_ways (is_err (stepping_of f k step)) (ap (λ (r : Result (Unit {0}) SourceFault). is_err r) (ap (stepping k) e ∙ commands k parts.0)) parts.1

  abbrev Muted : ℕ → CampaignRefusal → Type 0
  Muted m refusal = (bus : ℕ) × (silent f ≡ Some bus) × (lowest f.plant.buses f.plant.inverter ≡ Some m) × (refusal ≡ record { fault = Source (Unreadable bus); inverter = m })

  -- a refused probing: a meter is mute, and the inverter is the lowest
  pub refused_mute : (m : ℕ) (refusal : CampaignRefusal) → lowest f.plant.buses (failing f step) ≡ Some m → Err refusal ≡ naming m (from_source (stepping_of f m step)) → Muted m refusal
  refused_mute m refusal low told = go (silent f) refl
    where
      go : (o : Option ℕ) → silent f ≡ o → Muted m refusal
      go (Some bus) e =
          let is = told ∙ ap (λ o. naming m (from_source (stepping m o))) e in
          (bus, e, sym (lowest_same f.plant.buses (failing f step) f.plant.inverter (λ k l h. mute_fails bus e k)) ∙ low, cc)
      go None e = absurd (never_fails e m (lowest_passes f.plant.buses (failing f step) m low).2)

  -- an accepted probing: if a meter is mute, there is no inverter
  pub accepted_bare : (bus : ℕ) → silent f ≡ Some bus → lowest f.plant.buses (failing f step) ≡ None → (m : ℕ) → 1 ≤ m → m ≤ f.plant.buses → f.plant.inverter m ≡ true → ⊥
  accepted_bare bus e none m first last has = both_ways _ (lowest_fails f.plant.buses m (failing f step) none first last) (mute_fails bus e m ∙ has)

-- an accepted probing: no meter is mute
pub accepted_heard : (bytes : List ℕ) (t : Table) → Reading bytes (Ok t) → lowest t.buses (failing (table_facts t) step) ≡ None → mute t ≡ None
accepted_heard bytes t reading none = go (mute t) refl
  where
    go : (o : Option ℕ) → mute t ≡ o → o ≡ None
    go None e = refl
    go (Some bus) e =
        let low = lowest_passes t.buses (mute_of t) bus e in
        let row = (mute_has_inverter bytes t reading bus low.2).1 in
        let has = and_from (within t.buses row.inverter) (is_some (probe_of t row.inverter)) (and_from (leb 1 row.inverter) (leb row.inverter t.buses) (le-leb 1 row.inverter row.first) (le-leb row.inverter t.buses row.last)) (ap is_some row.stands) in
        absurd (accepted_bare (table_facts t) (λ m. refl) bus e none row.inverter row.first row.last has)

-- the facts of a plant with every inverter on its schedule are within their bounds, if the plant is
pub idle_is_bounded : (p : Plant) → PlantIsBounded p → IsBounded (idle p)
idle_is_bounded p bounds = record { plant = bounds; state = record { settings = λ m. omega arith; unset = λ m e. refl } }

-- so those of a table of 1 to 64 buses are
pub bounded : (t : Table) → IsBusCount t.buses → IsBounded (table_facts t)
bounded t few = idle_is_bounded (table_plant t) (table_is_bounded t few)
