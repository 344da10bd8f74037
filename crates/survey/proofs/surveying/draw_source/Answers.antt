use Rattle.std.proofs.Common.{Ok, Err}
use Rattle.std.proofs.lemmas.Result.{err_from_is_err_and}
use Rattle.survey.proofs.Ending.{ends_muted, ends_drawing}
use Rattle.survey.proofs.surveying.draw_source.Goals as goal

pub returns-in_err-campaign : goal.returns-in_err-campaign
returns-in_err-campaign c bytes loaded =
    let p = err_from_is_err_and c.from_residual.result c.from_residual.ensures.1 in
    rw (p.1, p.2)
    (ends_muted bytes c.args.kind c.args.place.now loaded.0 loaded.1 _ loaded.2 c.in_err-campaign.field-0.0 c.in_err-campaign.ensures.answers)

pub returns-in_err-draw_campaign : goal.returns-in_err-draw_campaign
returns-in_err-draw_campaign c bytes loaded =
    let p = err_from_is_err_and c.from_residual-in_err-draw_campaign.result c.from_residual-in_err-draw_campaign.ensures.1 in
    rw (p.1, p.2)
    (ends_drawing bytes loaded.0 loaded.1 _ loaded.2 c.in_ok-campaign.campaign c.in_ok-campaign.ensures.answers c.args.kind c.args.place.now c.draw_campaign.new.place (Err c.in_err-draw_campaign.field-0.0) c.in_err-draw_campaign.ensures.draws)

pub returns : goal.returns
returns c bytes loaded =
    ends_drawing bytes loaded.0 loaded.1 _ loaded.2 c.in_ok-campaign.campaign c.in_ok-campaign.ensures.answers c.args.kind c.args.place.now c.draw_campaign.new.place (Ok tt) c.in_ok-draw_campaign.ensures.draws
