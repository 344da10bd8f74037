-- A made feeder with an inverter at every end is drawn again as it was.
use Rattle.std.proofs.Common.{◌≡◌, ℕ, ◌≤◌, leb, List, length, ℤ, pos, None, Ok, Err, Result, sym, refl, ap, ◌∙◌, subst, arith}
use Rattle.std.proofs.lemmas.Bool.{and_from, cond-true, le-leb}
use Rattle.refusals.proofs.Checks.{clash}
use Rattle.feeder.specs.declared.kind.Kind.TheVariants.{Complete}
use Rattle.feeder.specs.declared.map.Map.{Map}
use Rattle.feeder.specs.Feeder.{response}
use Rattle.feeder.specs.Way.{is_in}
use Rattle.feeder.specs.Table.{OfKind, Yields, NoFeeder}
use Rattle.feeder.specs.View.{lines_of, DrawnMap}
use Rattle.feeder.proofs.Maps.{map_stands}
use Rattle.feeder.proofs.SameMaps.{maps_are_their_lines}
use Rattle.feeder.proofs.Alone.{complete_alone}
use Rattle.printing.specs.MapTexts.{map_text}
use Rattle.maps.specs.Reading.{MapReading}
use Rattle.maps.proofs.Trips.{written_maps_are_read}
use Rattle.sources.specs.declared.feeder_source.FeederGrid.{FeederGrid}
use Rattle.sources.specs.declared.grid_source.GridSource.{GridSource}
use Rattle.probing.specs.Facts.{Facts, IsBounded}
use Rattle.sources.specs.GridFacts.{within}
use Rattle.sources.specs.LineMaking.{made_facts, make_of, IsWithinLimits}
use Rattle.sources.proofs.Making.{within_is_made, make_tells}
use Rattle.probing.proofs.Readings.{lowest_empty}
use Rattle.campaign.specs.declared.drawing_fault.DrawingFault.{DrawingFault}
use Rattle.campaign.specs.declared.fault.CampaignRefusal.{CampaignRefusal}
use Rattle.campaign.specs.declared.state.Campaign.{Campaign}
use Rattle.campaign.specs.Drawings.{responses_of, Draws}
use Rattle.campaign.specs.Probes.{failing, AllProbed}
use Rattle.campaign.proofs.Law.{lowest_passes}
use Rattle.survey.specs.declared.fault.ProgramFault.{ProgramFault}
use Rattle.survey.specs.declared.fault.ProgramFault.TheVariants.{Drawing as InDrawing}
use Rattle.survey.specs.Returns.{EveryEndIsListed, Returns, unmade, nowhere, drawn, Returned}
use Rattle.survey.proofs.Probing.{step, silent, never_fails}
use Rattle.survey.proofs.Ending.{Ends, bare, none, some, ends}

ok_same : {T E : Type 0} {x y : T} → ◌≡◌ {A = Result T E} (Ok x) (Ok y) → x ≡ y
ok_same e = cc

-- the made source yields its own responses, and is complete if every end has an inverter
module _ (map : Map) (xs : List ℕ) (ys : List ℤ) (first : 1 ≤ length (lines_of map)) (ended : EveryEndIsListed (lines_of map) xs) where
  own_kind : OfKind Complete (responses_of (made_facts (lines_of map) xs ys).plant) (lines_of map)
  own_kind = (refl, λ b e. (e.0, and_from (within (length (lines_of map)) b) (is_in xs b) (and_from (leb 1 b) (leb b (length (lines_of map))) (le-leb 1 b e.0.0) (le-leb b (length (lines_of map)) e.0.1)) (ended b e)))

  own_yields : Yields (responses_of (made_facts (lines_of map) xs ys).plant) (lines_of map)
  own_yields =
      record {
        feeder = (map_stands map).feeder first;
        metered = omega arith;
        responses = λ n m p q. cond-true _ (pos (response (lines_of map) n m)) (pos 0) (and_from _ (within (length (lines_of map)) n) q.1 (and_from (leb 1 n) (leb n (length (lines_of map))) (le-leb 1 n p.0) (le-leb n (length (lines_of map)) p.1)));
      }

-- A made source, as it is behind its probing.
module _ (map : Map) (xs : List ℕ) (ys : List ℤ) (f : Facts) (made : make_of (lines_of map) xs ys ≡ Ok f) where
  means : f ≡ made_facts (lines_of map) xs ys
  means = (make_tells (lines_of map) xs ys f made).means

  on_schedule : (m : ℕ) → f.state.setting m ≡ pos 0
  on_schedule m = ap (λ (g : Facts). g.state.setting m) means

  heard : silent f ≡ None
  heard = ap silent means ∙ lowest_empty (length (lines_of map)) (made_facts (lines_of map) xs ys).plant.mute (λ n l h. refl)

  -- its probing is not refused
  pub not_refused : (refusal : CampaignRefusal) → AllProbed f step (Err refusal) → ⊥
  not_refused refusal (m, low, told) = never_fails f on_schedule heard m (lowest_passes f.plant.buses (failing f step) m low).2

module _ (facts : GridSource FeederGrid → Facts) (map : Map) (xs : List ℕ) (ys : List ℤ) (source : GridSource FeederGrid) (made : make_of (lines_of map) xs ys ≡ Ok (facts source)) (bounds : IsBounded (facts source)) where
  -- its drawing is right; a refused one leaves the place before
  pub draws_again : (old new : Map) (c : Campaign) → AllProbed (facts source) step (Ok c) → (answer : Result (Unit {0}) DrawingFault) → Draws c Complete old answer new →
      Ends (facts source).plant Complete old answer new
  draws_again old new c probed answer draws = ends (facts source) bounds c probed.1 Complete old new answer draws

  pub not_drawn : (before : GridSource FeederGrid) (old new : Map) (fault : DrawingFault) → Ends (facts source).plant Complete old (Err fault) new → Returns facts (lines_of map) xs ys before old (Err (InDrawing fault)) before new
  not_drawn before old new fault (bare n e) = clash cc
  not_drawn before old new fault (none e nothing) = nowhere (facts source) made nothing

  pub drawn_again : (before : GridSource FeederGrid) (old new : Map) → Ends (facts source).plant Complete old (Ok tt) new → Returns facts (lines_of map) xs ys before old (Ok tt) source new
  drawn_again before old new (some n e d) = drawn source made n d

-- with an inverter at every end the feeder comes back
pub came_back : (facts : GridSource FeederGrid → Facts) (map : Map) (xs : List ℕ) (ys : List ℤ) (before : GridSource FeederGrid) (old : Map) (r : Result (Unit {0}) ProgramFault) (source : GridSource FeederGrid) (new : Map) →
    Returns facts (lines_of map) xs ys before old r source new → IsWithinLimits (lines_of map) xs ys → EveryEndIsListed (lines_of map) xs → Returned facts map r source new
came_back facts map xs ys before old r source new (unmade fault e) limits ended = (let made = within_is_made (lines_of map) xs ys limits in clash cc)
came_back facts map xs ys before old r source new (nowhere f made nothing) limits ended =
    absurd (subst (λ (g : Facts). NoFeeder Complete (responses_of g.plant)) ((make_tells (lines_of map) xs ys f made).means) nothing (lines_of map) (own_kind map xs ys limits.some ended) (own_yields map xs ys limits.some ended))
came_back facts map xs ys before old r source new (drawn s made n d) limits ended =
    let told = (make_tells (lines_of map) xs ys (facts s) made).means in
    let d' = subst (λ (g : Facts). DrawnMap Complete (responses_of g.plant) n) told d in
    let same = complete_alone (responses_of (made_facts (lines_of map) xs ys).plant) (lines_of n) (lines_of map) d'.1 (own_kind map xs ys limits.some ended) (own_yields map xs ys limits.some ended) in
    record {
      accepted = refl;
      lines = same;
      metered = d'.0;
      same = λ all. maps_are_their_lines n map (d'.0 ∙ sym all) same;
      settings = λ m. ap (λ (g : Facts). g.state.setting m) told;
      file = λ answer reading. written_maps_are_read map answer limits.some limits.few (subst (λ F. MapReading (map_text F) answer) same reading);
    }
