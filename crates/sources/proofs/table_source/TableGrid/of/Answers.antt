use Rattle.std.proofs.Common.{sym, subst}
use Rattle.probing.specs.Facts.{PlantIsBounded}
use Rattle.sources.specs.Bounds.{table_is_bounded}
use Rattle.sources.proofs.Working.{worked_is_table}
use Rattle.sources.proofs.table_source.TableGrid.of.Goals as goal

pub invariant_of-result : goal.invariant_of-result
invariant_of-result c =
    let same = worked_is_table c.args.table.now c.requires.1 c.inverters.result c.all_responses.result c.mute_meters.result c.inverters.ensures c.all_responses.ensures c.mute_meters.ensures in
    record { bounds = subst PlantIsBounded (sym same) (table_is_bounded c.args.table.now c.requires) }

pub returns : goal.returns
returns c = worked_is_table c.args.table.now c.requires.1 c.inverters.result c.all_responses.result c.mute_meters.result c.inverters.ensures c.all_responses.ensures c.mute_meters.ensures
