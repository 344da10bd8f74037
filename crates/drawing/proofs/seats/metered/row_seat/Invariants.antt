use Rattle.drawing.specs.Responses.{entries_of}
use Rattle.drawing.proofs.Rows.{BestTo}
use Rattle.drawing.proofs.seats.metered.row_seat.Given as goal

abbrev pub invariant-loop-m : goal.invariant-loop-m
invariant-loop-m l = BestTo (entries_of l.responses) l.bus l.m l.best
