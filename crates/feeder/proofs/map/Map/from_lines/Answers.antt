use Rattle.std.proofs.Common.{arith}
use Rattle.feeder.proofs.Builds.{built_wired, built_near, built_measured}
use Rattle.feeder.proofs.map.Map.from_lines.Goals as goal

pub invariant_of-result : goal.invariant_of-result
invariant_of-result c =
    let F = c.args.lines.now in
    let ds = c.in_ok-distances.distances.items in
    let sound = c.in_default-flawed.ensures in
    let T = c.in_ok-distances.ensures in
    let same = c.in-Ok.ensures.0 in
    record {
      counted = rw same (omega arith, c.in-Ok.ensures.1);
      placed = rw same T.places;
      wired = rw same (built_wired F ds sound T);
      started = T.start;
      near = rw same (built_near F ds sound T);
      measured = rw same (built_measured F ds sound T);
    }
