use Rattle.drawing.specs.Responses.{entries_of}
use Rattle.drawing.proofs.Listings.{seat_on, none_on}
use Rattle.drawing.proofs.seats.branches.Metered.seat_on.Goals as goal

pub returns-in_err-distance : goal.returns-in_err-distance
returns-in_err-distance c = rw c.from_residual.ensures (none_on c.args.last c.args.m c.distance_passed.result c.distance_passed.ensures c.requires.from (entries_of c.args.self.now.responses.now) c.args.self.now.seats.now c.in_err-distance.ensures)

pub returns : goal.returns
returns c = seat_on c.args.last c.args.m c.distance_passed.result c.distance_passed.ensures c.requires.from (entries_of c.args.self.now.responses.now) c.args.self.now.seats.now c.in_ok-distance.distance c.in_ok-distance.ensures
