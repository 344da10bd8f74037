use Rattle.std.proofs.Common.{◌≡◌, ◌-◌, ◌<◌, true, length, pos, sym, ap, ◌∙◌, rules}
use Rattle.probing.proofs.Probes.{withdraw_accepted}
use Rattle.probing.specs.Settings.{with_kept}
use Rattle.probing.proofs.Settings.{kept_replaced}
use Rattle.sources.proofs.grid_source.GridSourceSource.withdraw.Goals as goal

pub returns-clause-effect : goal.returns-clause-effect
returns-clause-effect g c =
    let self = c.args.self.now in
    let plant = g.G.Grid.plant self.grid in
    let there : plant.inverter c.args.inverter ≡ true = search rules in
    let place : c.args.inverter - 1 < length self.settings.thousandths = search rules in
    ap (with_kept plant) c.put.ensures ∙
    kept_replaced plant (g.met.G.Grid.bounded self.grid) self.settings.thousandths c.args.inverter (pos 0) there place ∙
    sym (withdraw_accepted (with_kept plant self.settings.thousandths) c.args.inverter there).1
