use Rattle.std.proofs.Common.{◌≡◌, ◌+◌, ◌-◌, sym, ap, arith}
use Rattle.std.proofs.lemmas.Int.{ints}
use Rattle.probing.specs.Facts.{share, sum_to}
use Rattle.probing.proofs.Voltages.{sum_none, sum_more, sum_bounded, share_bounded}
use Rattle.probing.specs.Settings.{with_kept}
use Rattle.probing.proofs.Settings.{kept_is_bounded}
use Rattle.sources.proofs.grid_source.GridSource.shares.Goals as goal

pub loop-inverter-init : goal.loop-inverter-init
loop-inverter-init g c = sym (sum_none _)

pub overflow_add-sum : goal.overflow_add-sum
overflow_add-sum g c =
    let self = c.args.self.now in
    let facts = with_kept (g.G.Grid.plant self.grid) self.settings.thousandths in
    let bounds = kept_is_bounded (g.G.Grid.plant self.grid) (g.met.G.Grid.bounded self.grid) self.settings.thousandths self.settings.kept in
    let one = share_bounded facts bounds c.args.bus c.loop-inverter.inverter in
    let all = sum_bounded facts bounds c.args.bus (c.loop-inverter.inverter - 1) in
    omega (arith, ints, one, all, c.loop-inverter.invariant, c.share-sum.ensures, bounds.plant.few, c.buses-inverter-end.ensures)

pub loop-inverter-preserved : goal.loop-inverter-preserved
loop-inverter-preserved g c =
    let self = c.args.self.now in
    let facts = with_kept (g.G.Grid.plant self.grid) self.settings.thousandths in
    let bounds = kept_is_bounded (g.G.Grid.plant self.grid) (g.met.G.Grid.bounded self.grid) self.settings.thousandths self.settings.kept in
    let m = c.loop-inverter.inverter in
    let one = share_bounded facts bounds c.args.bus m in
    let all = sum_bounded facts bounds c.args.bus (m - 1) in
    let more = sum_more (m - 1) (share facts c.args.bus) in
    let last : share facts c.args.bus (m - 1 + 1) ≡ share facts c.args.bus m = ap (share facts c.args.bus) (omega arith) in
    let at : sum_to (m + 1 - 1) (share facts c.args.bus) ≡ sum_to (m - 1 + 1) (share facts c.args.bus) = ap (λ k. sum_to k (share facts c.args.bus)) (omega arith) in
    omega (arith, ints, one, all, more, last, at, c.loop-inverter.invariant, c.loop-inverter.sum-is, c.share-sum.ensures, bounds.plant.few, c.buses-inverter-end.ensures)

pub returns-2 : goal.returns-2
returns-2 g c =
    let self = c.args.self.now in
    let facts = with_kept (g.G.Grid.plant self.grid) self.settings.thousandths in
    let bounds = kept_is_bounded (g.G.Grid.plant self.grid) (g.met.G.Grid.bounded self.grid) self.settings.thousandths self.settings.kept in
    let m = c.loop-inverter.inverter in
    let one = share_bounded facts bounds c.args.bus m in
    let all = sum_bounded facts bounds c.args.bus (m - 1) in
    let more = sum_more (m - 1) (share facts c.args.bus) in
    let last : share facts c.args.bus (m - 1 + 1) ≡ share facts c.args.bus m = ap (share facts c.args.bus) (omega arith) in
    let at : sum_to facts.plant.buses (share facts c.args.bus) ≡ sum_to (m - 1 + 1) (share facts c.args.bus) = ap (λ k. sum_to k (share facts c.args.bus)) (omega (arith, c.buses-inverter-end.ensures)) in
    omega (arith, ints, one, all, more, last, at, c.loop-inverter.invariant, c.loop-inverter.sum-is, c.share-sum.ensures, bounds.plant.few, c.buses-inverter-end.ensures)
