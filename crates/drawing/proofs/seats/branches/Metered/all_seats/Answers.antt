use Rattle.std.proofs.Common.{arith}
use Rattle.drawing.specs.Responses.{entries_of}
use Rattle.drawing.proofs.Reading.{few}
use Rattle.drawing.proofs.Listings.{listed_more_to, overseated, listed_seated}
use Rattle.drawing.proofs.seats.branches.Metered.all_seats.Goals as goal

pub returns-then-len-most : goal.returns-then-len-most
returns-then-len-most c = overseated (entries_of c.args.self.now.responses.now) c.args.self.now.seats.now c.loop-seat.seats.items c.loop-seat.last c.in-Some.seat c.loop-seat.invariant c.in-Some.ensures (few c.args.self.now.responses.now) c.args.self.now.seated (omega arith)

pub loop-seat-preserved : goal.loop-seat-preserved
loop-seat-preserved c = rw c.push.ensures.items (listed_more_to (entries_of c.args.self.now.responses.now) c.args.self.now.seats.now c.loop-seat.seats.items c.loop-seat.last c.in-Some.seat c.loop-seat.invariant c.in-Some.ensures (few c.args.self.now.responses.now) (omega arith))

pub returns : goal.returns
returns c = listed_seated (entries_of c.args.self.now.responses.now) c.args.self.now.seats.now c.loop-seat.seats.items c.loop-seat.last c.args.self.now.seated c.loop-seat.invariant c.in_default.ensures (few c.args.self.now.responses.now)
