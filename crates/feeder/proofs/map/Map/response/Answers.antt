use Rattle.std.proofs.Common.{arith}
use Rattle.std.proofs.lemmas.Grind.{common_steps}
use Rattle.std.proofs.lemmas.Bool.Decides.{nat_tests}
use Rattle.feeder.proofs.Maps.{map_distance}
use Rattle.feeder.proofs.map.Map.response.Goals as goal

pub returns-clause-value : goal.returns-clause-value
returns-clause-value c = let d = map_distance c.args.self.now c.meet-meet.result c.meet-meet.ensures.within in grind (arith, common_steps, nat_tests)
