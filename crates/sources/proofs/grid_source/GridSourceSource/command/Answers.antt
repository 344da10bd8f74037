use Rattle.std.proofs.Common.{◌≡◌, ◌-◌, ◌<◌, length, Ok, sym, ap, ◌∙◌, w32, SFits, rules}
use Rattle.std.proofs.lemmas.Int.{to_z-of_z}
use Rattle.probing.specs.Answers.{command_of}
use Rattle.probing.proofs.Probes.{command_accepted, command_leaves}
use Rattle.probing.specs.Settings.{with_kept}
use Rattle.probing.proofs.Settings.{kept_replaced}
use Rattle.sources.proofs.grid_source.GridSourceSource.command.Goals as goal

pub returns-clause-effect : goal.returns-clause-effect
returns-clause-effect g c =
    let self = c.args.self.now in
    let plant = g.G.Grid.plant self.grid in
    let facts = with_kept plant self.settings.thousandths in
    let step : SFits w32 c.args.step = c.ranges.step in
    let ok : Ok tt ≡ command_of facts c.args.inverter c.args.step = search rules in
    let after = simp to_z-of_z at c.put.ensures in
    let place : c.args.inverter - 1 < length self.settings.thousandths = search rules in
    ap (with_kept plant) after ∙
    kept_replaced plant (g.met.G.Grid.bounded self.grid) self.settings.thousandths c.args.inverter c.args.step (command_accepted facts c.args.inverter c.args.step ok).there place ∙
    sym (command_leaves facts c.args.inverter c.args.step ok)
