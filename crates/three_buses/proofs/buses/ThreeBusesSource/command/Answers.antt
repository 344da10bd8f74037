use Rattle.std.proofs.Common.{◌≡◌, ◌-◌, ◌<◌, ◌≤◌, nat_abs, length, Ok, sym, ◌∙◌, w32, SFits, rules}
use Rattle.std.proofs.lemmas.Int.{to_z-of_z}
use Rattle.std.proofs.lemmas.Bool.{leb-true, and_parts}
use Rattle.probing.specs.Answers.{command_of}
use Rattle.probing.specs.Settings.{with_kept}
use Rattle.probing.proofs.Probes.{command_accepted, command_leaves}
use Rattle.probing.proofs.Settings.{set_are_settings, kept_replaced}
use Rattle.three_buses.specs.Buses.{plant_of}
use Rattle.three_buses.proofs.buses.ThreeBusesSource.command.Goals as goal

pub invariant_of-self : goal.invariant_of-self
invariant_of-self c =
    let self = c.args.self.now in
    let step : SFits w32 c.args.step = c.ranges.step in
    let facts = with_kept (plant_of self.responses self.standing self.mute) self.settings in
    let ok : Ok tt ≡ command_of facts c.args.inverter c.args.step = search rules in
    let small : nat_abs c.args.step ≤ 1000 = leb-true _ _ (and_parts _ _ (command_accepted facts c.args.inverter c.args.step ok).small).1 in
    record {
      plant = self.plant;
      settled = simp to_z-of_z (set_are_settings self.settings (c.args.inverter - 1) c.args.step small self.settled);
    }

pub returns-clause-effect : goal.returns-clause-effect
returns-clause-effect c =
    let self = c.args.self.now in
    let plant = plant_of self.responses self.standing self.mute in
    let facts = with_kept plant self.settings in
    let step : SFits w32 c.args.step = c.ranges.step in
    let ok : Ok tt ≡ command_of facts c.args.inverter c.args.step = search rules in
    let place : c.args.inverter - 1 < length self.settings = search rules in
    let there = (command_accepted facts c.args.inverter c.args.step ok).there in
    simp to_z-of_z (kept_replaced plant self.plant self.settings c.args.inverter c.args.step there place ∙ sym (command_leaves facts c.args.inverter c.args.step ok))
