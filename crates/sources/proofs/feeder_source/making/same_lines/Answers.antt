use Rattle.sources.proofs.Remaking.{ok_since, same_made}
use Rattle.sources.proofs.feeder_source.making.same_lines.Goals as goal

pub unwrap-requires : goal.unwrap-requires
unwrap-requires c =
    ok_since c.from_lines.result _ _ c.from_lines.ensures.value (same_made c.args.map.now c.buses.result _ c.buses.ensures c.lines.ensures c.requires)
