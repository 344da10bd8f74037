use Rattle.std.proofs.Common.{◌≤◌, sym, ◌∙◌, arith}
use Rattle.std.proofs.lemmas.Result.{err_from_is_err_and}
use Rattle.campaign.specs.Drawings.{incomplete, unequipped, nowhere, drawn}
use Rattle.feeder.proofs.Alone.{complete_alone}
use Rattle.feeder.proofs.Agreeing.{nowhere_to, drawn_map_to}
use Rattle.drawing.proofs.Copying.{copied, copied_within, was_drawn, was_refused}
use Rattle.drawing.proofs.campaigns.draw_campaign.Goals as goal

pub returns-in-Some-clause-draws : goal.returns-in-Some-clause-draws
returns-in-Some-clause-draws c = incomplete c.in-Some.inverter (sym c.in-Some.ensures)

pub returns-in-Some-clause-complete : goal.returns-in-Some-clause-complete
returns-in-Some-clause-complete c = complete_alone

pub returns-in-Some-bare_bus-clause-draws : goal.returns-in-Some-bare_bus-clause-draws
returns-in-Some-bare_bus-clause-draws c = unequipped c.in-Some-bare_bus.bus (sym c.in_default.ensures) (sym c.in-Some-bare_bus.ensures)

pub returns-in-Some-bare_bus-clause-complete : goal.returns-in-Some-bare_bus-clause-complete
returns-in-Some-bare_bus-clause-complete c = complete_alone

pub returns-then-buses-gt-MOST_METERED-clause-draws : goal.returns-then-buses-gt-MOST_METERED-clause-draws
returns-then-buses-gt-MOST_METERED-clause-draws c =
    nowhere (sym c.in_default.ensures) (sym c.in_default-bare_bus.ensures) (λ moderate. absurd (omega (arith, moderate.few, c.buses.ensures, c.if-buses-gt-MOST_METERED.true)))

pub returns-then-buses-gt-MOST_METERED-clause-complete : goal.returns-then-buses-gt-MOST_METERED-clause-complete
returns-then-buses-gt-MOST_METERED-clause-complete c = complete_alone

pub returns-clause-draws : goal.returns-clause-draws
returns-clause-draws c =
    let campaign = c.args.campaign.now in
    let none = sym c.in_default.ensures in
    let few : campaign.buses ≤ 64 = omega (arith, c.buses.ensures, c.if-buses-gt-MOST_METERED.false) in
    let map = was_drawn _ _ c.draw.result _ c.in_ok-map.map (sym c.ok_or.ensures.value ∙ c.in_ok-map.was) c.draw.ensures in
    drawn c.in_ok-map.map none (sym c.in_default-bare_bus.ensures) (drawn_map_to c.args.kind (copied campaign c.columns_of.result c.columns_of.ensures few none) c.in_ok-map.map map)

pub returns-clause-complete : goal.returns-clause-complete
returns-clause-complete c = complete_alone

pub returns-in_err-map-clause-draws : goal.returns-in_err-map-clause-draws
returns-in_err-map-clause-draws c =
    let campaign = c.args.campaign.now in
    let none = sym c.in_default.ensures in
    let few : campaign.buses ≤ 64 = omega (arith, c.buses.ensures, c.if-buses-gt-MOST_METERED.false) in
    let p = err_from_is_err_and c.from_residual.result c.from_residual.ensures.1 in
    let refused = was_refused _ _ c.draw.result _ _ (sym c.ok_or.ensures.value ∙ c.in_err-map.was) c.draw.ensures in
    rw (p.1, p.2, refused.0) (nowhere none (sym c.in_default-bare_bus.ensures) (λ moderate. nowhere_to c.args.kind (copied campaign c.columns_of.result c.columns_of.ensures few none) (refused.1 (copied_within campaign c.columns_of.result c.columns_of.ensures none moderate))))

pub returns-in_err-map-clause-complete : goal.returns-in_err-map-clause-complete
returns-in_err-map-clause-complete c = complete_alone
