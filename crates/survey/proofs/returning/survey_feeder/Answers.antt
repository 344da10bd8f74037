use Rattle.std.proofs.Common.{Ok, Err, sym, ap, ◌∙◌, subst}
use Rattle.std.proofs.lemmas.Result.{err_from_is_err_and}
use Rattle.feeder.specs.View.{lines_of}
use Rattle.probing.specs.Facts.{Facts, IsBounded}
use Rattle.probing.proofs.Settings.{kept_is_bounded}
use Rattle.sources.specs.declared.feeder_source.FeederGrid.{FeederGrid}
use Rattle.sources.specs.declared.grid_source.GridSource.{GridSource}
use Rattle.sources.specs.LineFacts.{feeder_plant}
use Rattle.sources.specs.Bounds.{feeder_is_bounded}
use Rattle.probing.specs.Settings.{with_kept}
use Rattle.campaign.specs.Probes.{AllProbed}
use Rattle.survey.specs.Returns.{Returns, unmade}
use Rattle.survey.proofs.Probing.{step}
use Rattle.survey.proofs.CameBack.{not_refused, draws_again, not_drawn, drawn_again, came_back}
use Rattle.survey.proofs.returning.survey_feeder.Goals as goal

-- what a feeder source means
abbrev facts : GridSource FeederGrid → Facts
facts s = with_kept (feeder_plant (lines_of s.grid.map) s.grid.inverters s.grid.standing) s.settings.thousandths

bounds : (s : GridSource FeederGrid) → IsBounded (facts s)
bounds s =
    kept_is_bounded (feeder_plant (lines_of s.grid.map) s.grid.inverters s.grid.standing)
    (feeder_is_bounded s.grid.map s.grid.inverters s.grid.standing s.grid.few s.grid.near) s.settings.thousandths s.settings.kept

pub returns-in_err-make : goal.returns-in_err-make
returns-in_err-make c =
    let p = err_from_is_err_and c.from_residual.result c.from_residual.ensures.1 in
    let map = c.args.map.now in
    let xs = c.args.inverters.now in
    let ys = c.args.standing.now in
    let told = c.in_err-make.ensures.value in
    let ends : Returns facts (lines_of map) xs ys c.args.source.now c.args.place.now c.from_residual.result c.args.source.now c.args.place.now = rw (p.1, p.2) (unmade c.in_err-make.field-0.0 told.0) in
    record { returns = ends; returned = came_back facts map xs ys _ _ _ _ _ ends }

pub returns-in_err-campaign : goal.returns-in_err-campaign
returns-in_err-campaign c =
    absurd (not_refused c.args.map.now c.args.inverters.now c.args.standing.now (facts c.make.new.self) c.in_ok-make.ensures.value c.in_err-campaign.field-0.0 c.in_err-campaign.ensures.answers)

pub returns-in_err-draw_campaign : goal.returns-in_err-draw_campaign
returns-in_err-draw_campaign c =
    let p = err_from_is_err_and c.from_residual-in_err-draw_campaign.result c.from_residual-in_err-draw_campaign.ensures.1 in
    let map = c.args.map.now in
    let xs = c.args.inverters.now in
    let ys = c.args.standing.now in
    let source = c.make.new.self in
    let made = c.in_ok-make.ensures.value in
    let fault = c.in_err-draw_campaign.field-0.0 in
    let new = c.draw_campaign.new.place in
    let drawing = draws_again facts map xs ys source made (bounds source) c.args.place.now new c.in_ok-campaign.campaign c.in_ok-campaign.ensures.answers (Err fault) c.in_err-draw_campaign.ensures.draws in
    let ends : Returns facts (lines_of map) xs ys c.args.source.now c.args.place.now c.from_residual-in_err-draw_campaign.result c.args.source.now new =
    rw (p.1, p.2) (not_drawn facts map xs ys source made (bounds source) c.args.source.now c.args.place.now new fault drawing)
    in
    record { returns = ends; returned = came_back facts map xs ys _ _ _ _ _ ends }

pub returns : goal.returns
returns c =
    let map = c.args.map.now in
    let xs = c.args.inverters.now in
    let ys = c.args.standing.now in
    let probed = c.in_ok-campaign.ensures in
    let campaign = c.in_ok-campaign.campaign in
    let source = c.probe_all.new.source in
    let made = c.in_ok-make.ensures.value ∙ ap Ok (sym probed.facts) in
    let new = c.draw_campaign.new.place in
    let drawing = draws_again facts map xs ys source made (bounds source) c.args.place.now new campaign (subst (λ f. AllProbed f step (Ok campaign)) (sym probed.facts) probed.answers) (Ok tt) c.in_ok-draw_campaign.ensures.draws in
    let ends = drawn_again facts map xs ys source made (bounds source) c.args.source.now c.args.place.now new drawing in
    record { returns = ends; returned = came_back facts map xs ys _ _ _ _ _ ends }
