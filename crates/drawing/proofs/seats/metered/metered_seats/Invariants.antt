use Rattle.drawing.specs.Responses.{entries_of}
use Rattle.drawing.proofs.Rows.{SeatedTo}
use Rattle.drawing.proofs.seats.metered.metered_seats.Given as goal

abbrev pub invariant-loop-bus : goal.invariant-loop-bus
invariant-loop-bus l = SeatedTo (entries_of l.responses) l.bus l.seats.items
