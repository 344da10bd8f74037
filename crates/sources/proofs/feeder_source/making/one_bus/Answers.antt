use Rattle.std.proofs.Common.{arith}
use Rattle.sources.proofs.Remaking.{ok_since, one_made}
use Rattle.sources.proofs.feeder_source.making.one_bus.Goals as goal

pub unwrap-requires : goal.unwrap-requires
unwrap-requires c = ok_since c.from_lines.result _ _ c.from_lines.ensures.value (rw c.default.ensures (one_made (omega arith) (omega arith)))
