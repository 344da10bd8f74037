use Rattle.std.proofs.Common.{◌+◌, ◌-◌, length}
use Rattle.drawing.specs.Responses.{entries_of}
use Rattle.drawing.proofs.Listings.{ListedTo}
use Rattle.drawing.proofs.seats.branches.Metered.all_seats.Given as goal

abbrev pub invariant-loop-seat : goal.invariant-loop-seat
invariant-loop-seat l = ListedTo (entries_of l.self.responses.now) l.self.seats.now l.seats.items l.last

abbrev pub decreases-loop-seat : goal.decreases-loop-seat
decreases-loop-seat l = l.most + 1 - length l.seats.items
