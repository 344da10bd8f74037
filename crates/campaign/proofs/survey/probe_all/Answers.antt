use Rattle.std.proofs.Common.{◌≡◌, ℤ, Ok, Err, sym, ap, ◌∙◌, subst, arith, w32, to_z, of_z}
use Rattle.std.proofs.lemmas.Int.{to_z-of_z}
use Rattle.std.proofs.lemmas.Result.{err_from_is_err_and}
use Rattle.campaign.specs.Probes.{InRisingOrder, AllProbed}
use Rattle.campaign.proofs.Rising.{below_starts, below_passes, below_steps, below_stops, below_ends}
use Rattle.campaign.proofs.survey.probe_all.Goals as goal
use Rattle.campaign.proofs.survey.probe_all.Goals.{then-has_inverter+in_ok-probe, else-has_inverter}

pub loop-bus-init : goal.loop-bus-init
loop-bus-init g c = below_starts _ _ _ c.open_campaign-campaign.ensures.opened

pub returns-in_err-probe : goal.returns-in_err-probe
returns-in_err-probe g c =
    let p = err_from_is_err_and c.from_residual.result c.from_residual.ensures.1 in
    let f = g.S.Source.facts c.args.source.now in
    let size = to_z w32 (of_z w32 c.args.step) in
    let e = c.in_err-probe.field-0.0 in
    let stops = below_stops f (g.met.S.Source.bounded _) size c.loop-bus.bus (g.S.Source.facts c.loop-bus.source) c.loop-bus.campaign e (g.S.Source.facts c.probe.new.source) c.probe.new.self
    (omega arith) (sym c.has_inverter.ensures ∙ c.if-has_inverter.true) c.in_err-probe.ensures c.loop-bus.invariant in
    record {
      facts = stops.0;
      answers = subst (λ r. AllProbed f c.args.step r) (sym (p.1 ∙ ap Err p.2)) (subst (λ (z : ℤ). AllProbed f z (Err e)) (to_z-of_z w32 c.args.step c.ranges.step) stops.1);
      rising = rw p.1 tt;
    }

pub loop-bus-preserved : goal.loop-bus-preserved
loop-bus-preserved g c =
    let f₀ = g.S.Source.facts c.args.source.now in
    let f = g.S.Source.facts c.loop-bus.source in
    let size = to_z w32 (of_z w32 c.args.step) in
    elim c.if-has_inverter.branch [
      | then-has_inverter+in_ok-probe w ↦
          below_steps f₀ (g.met.S.Source.bounded _) size c.loop-bus.bus f _ _ c.loop-bus.campaign _ _ (ap g.S.Source.facts w.source-is) w.campaign-is w.in_ok-probe.ensures c.loop-bus.invariant
      | else-has_inverter w ↦
          below_passes f₀ (g.met.S.Source.bounded _) size c.loop-bus.bus f _ c.loop-bus.campaign _ (ap g.S.Source.facts w.source-is) w.campaign-is (sym c.has_inverter.ensures ∙ w.if-has_inverter.false) c.loop-bus.invariant
    ]

pub returns-after-has_inverter : goal.returns-after-has_inverter
returns-after-has_inverter g c =
    let f = g.S.Source.facts c.args.source.now in
    let back = to_z-of_z w32 c.args.step c.ranges.step in
    let last : c.loop-bus.bus ≡ f.plant.buses = omega arith in
    let ends = below_ends f (g.met.S.Source.bounded _) (to_z w32 (of_z w32 c.args.step)) c.loop-bus.bus (g.S.Source.facts c.if-has_inverter.source) c.if-has_inverter.campaign last (
    let f₀ = g.S.Source.facts c.args.source.now in
    let f = g.S.Source.facts c.loop-bus.source in
    let size = to_z w32 (of_z w32 c.args.step) in
    elim c.if-has_inverter.branch [
      | then-has_inverter+in_ok-probe w ↦
          below_steps f₀ (g.met.S.Source.bounded _) size c.loop-bus.bus f _ _ c.loop-bus.campaign _ _ (ap g.S.Source.facts w.source-is) w.campaign-is w.in_ok-probe.ensures c.loop-bus.invariant
      | else-has_inverter w ↦
          below_passes f₀ (g.met.S.Source.bounded _) size c.loop-bus.bus f _ c.loop-bus.campaign _ (ap g.S.Source.facts w.source-is) w.campaign-is (sym c.has_inverter.ensures ∙ w.if-has_inverter.false) c.loop-bus.invariant
    ]
    ) in
    record {
      facts = ends.0;
      answers = subst (λ (z : ℤ). AllProbed f z (Ok c.if-has_inverter.campaign)) back ends.1;
      rising = subst (λ (z : ℤ). InRisingOrder f z c.if-has_inverter.campaign) back ends.2;
    }
