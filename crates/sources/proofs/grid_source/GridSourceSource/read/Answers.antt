use Rattle.std.proofs.Common.{◌≡◌, Some, sym, ◌∙◌, arith, w64, SFits, rules}
use Rattle.std.proofs.lemmas.Int.{ints}
use Rattle.probing.specs.Facts.{voltage}
use Rattle.probing.proofs.Voltages.{sum_bounded}
use Rattle.probing.specs.Settings.{with_kept}
use Rattle.probing.proofs.Settings.{kept_is_bounded}
use Rattle.sources.specs.GridFacts.{standing_heard}
use Rattle.sources.proofs.Hearing.{heard, read_heard}
use Rattle.sources.proofs.grid_source.GridSourceSource.read.Goals as goal

pub overflow_add-result : goal.overflow_add-result
overflow_add-result g c =
    let self = c.args.self.now in
    let facts = with_kept (g.G.Grid.plant self.grid) self.settings.thousandths in
    let bounds = kept_is_bounded (g.G.Grid.plant self.grid) (g.met.G.Grid.bounded self.grid) self.settings.thousandths self.settings.kept in
    let told : standing_heard facts.plant c.args.bus ≡ Some c.in_ok-standing.standing = sym c.standing.ensures ∙ c.in_ok-standing.ensures.ok_part in
    let stands = (heard facts.plant c.args.bus c.in_ok-standing.standing told).1 in
    omega (arith, ints, stands, bounds.plant.standings c.args.bus, sum_bounded facts bounds c.args.bus facts.plant.buses, bounds.plant.few, c.shares.ensures)

pub returns : goal.returns
unfolding voltage
returns g c =
    let self = c.args.self.now in
    let facts = with_kept (g.G.Grid.plant self.grid) self.settings.thousandths in
    let bounds = kept_is_bounded (g.G.Grid.plant self.grid) (g.met.G.Grid.bounded self.grid) self.settings.thousandths self.settings.kept in
    let told : standing_heard facts.plant c.args.bus ≡ Some c.in_ok-standing.standing = sym c.standing.ensures ∙ c.in_ok-standing.ensures.ok_part in
    let stands = (heard facts.plant c.args.bus c.in_ok-standing.standing told).1 in
    let fits : SFits w64 c.shares.result = search rules in
    read_heard facts c.args.bus c.in_ok-standing.standing _ told (omega (arith, ints, stands, bounds.plant.standings c.args.bus, sum_bounded facts bounds c.args.bus facts.plant.buses, bounds.plant.few, c.shares.ensures))
