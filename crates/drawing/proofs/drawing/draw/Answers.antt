use Rattle.std.proofs.Common.{subst}
use Rattle.drawing.specs.Responses.{entries_of}
use Rattle.drawing.specs.Columns.{table_of}
use Rattle.drawing.specs.Seating.{MapSeated}
use Rattle.drawing.proofs.Outcomes.{no_map, wrong_none, unseated_none, checked}
use Rattle.drawing.proofs.drawing.draw.Goals as goal

pub returns-in_err-responses : goal.returns-in_err-responses
returns-in_err-responses c = no_map c.args.kind (table_of c.args.columns.now) c.from_residual.result c.from_residual.ensures (wrong_none c.args.kind (table_of c.args.columns.now) c.in_err-responses.ensures)

pub returns-in_err-seats : goal.returns-in_err-seats
returns-in_err-seats c = no_map c.args.kind (table_of c.args.columns.now) c.from_residual-in_err-seats.result c.from_residual-in_err-seats.ensures (λ _. unseated_none c.args.kind (table_of c.args.columns.now) (entries_of c.in_ok-responses.responses) c.in_ok-responses.ensures.natural c.in_err-seats.ensures)

pub returns : goal.returns
returns c = rw c.then_some.ensures (checked c.args.kind (table_of c.args.columns.now) (entries_of c.in_ok-responses.responses) c.in_ok-responses.ensures c.in_ok-seats.seats.items c.in_ok-seats.ensures c.wired_map-map.result (subst (λ seats. MapSeated (entries_of c.in_ok-responses.responses) seats c.wired_map-map.result) c.deref.ensures.0 c.wired_map-map.ensures) c.passes.result c.passes.ensures)
