use Rattle.std.proofs.Common.{◌≡◌, ◌-◌}
use Rattle.probing.specs.Facts.{share, sum_to}
use Rattle.probing.specs.Settings.{with_kept}
use Rattle.sources.proofs.grid_source.GridSource.shares.Given as goal

abbrev pub invariant-loop-inverter : goal.invariant-loop-inverter
invariant-loop-inverter g l = l.sum ≡ sum_to (l.inverter - 1) (share (with_kept (g.G.Grid.plant l.self.grid) l.self.settings.thousandths) l.bus)
