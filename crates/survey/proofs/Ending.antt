-- What a survey ends with, by the law of the campaign.
use Rattle.std.proofs.Common.{◌≡◌, ℕ, not, List, Some, None, Ok, Err, Option, Result, sym, refl, ap, ◌∙◌, subst}
use Rattle.refusals.proofs.Checks.{clash}
use Rattle.feeder.specs.declared.kind.Kind.{Kind}
use Rattle.feeder.specs.declared.kind.Kind.TheVariants.{Complete, Reduced}
use Rattle.feeder.specs.declared.map.Map.{Map}
use Rattle.feeder.specs.Table.{NoFeeder}
use Rattle.feeder.specs.View.{DrawnMap}
use Rattle.files.specs.declared.table.Table.{Table}
use Rattle.files.proofs.Bounds.{accepted_few}
use Rattle.probing.specs.Facts.{Plant, Facts, IsBounded}
use Rattle.probing.specs.Answers.{lowest}
use Rattle.probing.proofs.Readings.{lowest_same}
use Rattle.sources.specs.TableFacts.{table_plant, table_facts}
use Rattle.campaign.specs.declared.drawing_fault.DrawingFault.{DrawingFault}
use Rattle.campaign.specs.declared.drawing_fault.DrawingFault.TheVariants.{InverterMissing, NoFeeder as Nowhere}
use Rattle.campaign.specs.declared.fault.CampaignRefusal.{CampaignRefusal}
use Rattle.campaign.specs.declared.state.Campaign.{Campaign}
use Rattle.campaign.specs.Columns.{has_inverter}
use Rattle.campaign.specs.Drawings as campaigns
use Rattle.campaign.specs.Drawings.{missing, responses_of, Draws, Drawing}
use Rattle.campaign.specs.Law.{LawHolds}
use Rattle.campaign.specs.Probes.{Surveyed, AllProbed}
use Rattle.campaign.proofs.Sound.{sound}
use Rattle.campaign.proofs.Law.{buses, has, all_collected, campaign_law}
use Rattle.survey.specs.declared.fault.ProgramFault.{ProgramFault}
use Rattle.survey.specs.declared.fault.ProgramFault.TheVariants.{Campaign as InCampaign, Drawing as InDrawing}
use Rattle.survey.specs.Surveys as surveying
use Rattle.survey.specs.Surveys.{Holds, mute, Surveys, muted, unequipped, nowhere, drawn}
use Rattle.survey.proofs.Probing.{step, bounded, refused_mute, accepted_heard}

-- a drawing's answer as the program's
abbrev pub programmed : Result (Unit {0}) DrawingFault → Result (Unit {0}) ProgramFault
programmed (Ok u) = Ok u
programmed (Err fault) = Err (InDrawing fault)

-- the lowest metered bus without an inverter, if the kind wants one at each
abbrev bare_of : Kind → Plant → Option ℕ
bare_of Complete p = None
bare_of Reduced p = lowest p.buses (λ n. not (p.inverter n))

-- the same of a file's table
bare_told : (kind : Kind) (t : Table) → bare_of kind (table_plant t) ≡ surveying.bare kind t
bare_told Complete t = refl
bare_told Reduced t = refl

-- what a drawing of a source's responses answers, from old to new
pub data Ends (p : Plant) (kind : Kind) (old : Map) : Result (Unit {0}) DrawingFault → Map → Type 0 where
  bare : (n : ℕ) → bare_of kind p ≡ Some n → Ends p kind old (Err (InverterMissing n)) old
  none : bare_of kind p ≡ None → NoFeeder kind (responses_of p) → Ends p kind old (Err Nowhere) old
  some : (new : Map) → bare_of kind p ≡ None → DrawnMap kind (responses_of p) new → Ends p kind old (Ok tt) new

-- the drawing of a campaign in which every inverter was probed
module _ (f : Facts) (bounds : IsBounded f) (c : Campaign) (surveyed : Surveyed f c) where
  law : LawHolds f surveyed.calls f c
  law = campaign_law f bounds surveyed.calls f c surveyed.history

  none_missing : missing c ≡ None
  none_missing = all_collected f bounds (sound f bounds surveyed.calls f c surveyed.history) surveyed.each

  bare_same : (kind : Kind) → campaigns.bare kind c ≡ bare_of kind f.plant
  bare_same Complete = refl
  bare_same Reduced =
      let h = sound f bounds surveyed.calls f c surveyed.history in
      ap (λ k. lowest k (λ n. not (has_inverter c n))) (sym (buses f bounds h)) ∙
      lowest_same f.plant.buses (λ n. not (has_inverter c n)) (λ n. not (f.plant.inverter n)) (λ n l last. ap not (sym (has f bounds h n)))

  pub ends : (kind : Kind) (old new : Map) (answer : Result (Unit {0}) DrawingFault) → Draws c kind old answer new → Ends f.plant kind old answer new
  ends kind old new answer (campaigns.incomplete m e) = (let none = none_missing in clash cc)
  ends kind old new answer (campaigns.unequipped n e b) = bare n (sym (bare_same kind) ∙ b)
  ends kind old new answer (campaigns.nowhere e b nothing) =
      let d : Drawing = record { kind = kind; before = old; answer = Err Nowhere; after = old } in
      none (sym (bare_same kind) ∙ b) ((law.refused surveyed.each d (campaigns.nowhere e b nothing)).0 refl)
  ends kind old new answer (campaigns.drawn map e b m) =
      let d : Drawing = record { kind = kind; before = old; answer = Ok tt; after = map } in
      some map (sym (bare_same kind) ∙ b) (law.drawn d (campaigns.drawn map e b m) refl)

-- A table's probing that was refused.
pub ends_muted : (bytes : List ℕ) (kind : Kind) (old : Map) (t : Table) → Holds bytes t → (f : Facts) → f ≡ table_facts t →
    (refusal : CampaignRefusal) → AllProbed f step (Err refusal) → Surveys bytes kind old (Err (InCampaign refusal)) old
ends_muted bytes kind old t holds f e refusal probed =
    let told = subst (λ g. AllProbed g step (Err refusal)) e probed in
    let found = refused_mute (table_facts t) (λ m. refl) told.0 refusal told.1 told.2 in
    subst (λ r. Surveys bytes kind old (Err (InCampaign r)) old) (sym found.3) (muted t holds found.0 told.0 found.1 found.2)

surveys : (bytes : List ℕ) (t : Table) → Holds bytes t → mute t ≡ None → (kind : Kind) (old new : Map) (answer : Result (Unit {0}) DrawingFault) → Ends (table_plant t) kind old answer new → Surveys bytes kind old (programmed answer) new
surveys bytes t holds heard kind old new answer (bare n e) = unequipped t holds heard n (sym (bare_told kind t) ∙ e)
surveys bytes t holds heard kind old new answer (none e nothing) = nowhere t holds heard (sym (bare_told kind t) ∙ e) nothing
surveys bytes t holds heard kind old new answer (some map e m) = drawn t holds heard (sym (bare_told kind t) ∙ e) map m

-- A table's probing that was accepted, and the drawing after it.
pub ends_drawing : (bytes : List ℕ) (t : Table) → Holds bytes t → (f : Facts) → f ≡ table_facts t → (c : Campaign) → AllProbed f step (Ok c) →
    (kind : Kind) (old new : Map) (answer : Result (Unit {0}) DrawingFault) → Draws c kind old answer new → Surveys bytes kind old (programmed answer) new
ends_drawing bytes t holds f e c probed kind old new answer draws =
    let told = subst (λ g. AllProbed g step (Ok c)) e probed in
    let bounds = bounded t (accepted_few bytes t holds) in
    let heard = accepted_heard bytes t holds told.0 in
    surveys bytes t holds heard kind old new answer (ends (table_facts t) bounds c told.1 kind old new answer draws)
