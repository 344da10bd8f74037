use Rattle.std.proofs.Common.{length, ap, arith}
use Rattle.sources.proofs.Entries.{zeros_are_standings}
use Rattle.sources.proofs.feeder_source.making.FeederSource.new.Goals as goal

pub invariant_of-result : goal.invariant_of-result
invariant_of-result c =
    let count = ap length c.one_bus.ensures in
    record { few = (omega arith, omega arith); near = zeros_are_standings }
