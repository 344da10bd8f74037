use Rattle.drawing.proofs.Reading.{read_nothing, read_wrong}
use Rattle.drawing.proofs.responses.reading.unsigned_columns.Goals as goal

pub loop-m-init : goal.loop-m-init
loop-m-init c = read_nothing c.args.columns.now

pub returns-in_err-unsigned_column : goal.returns-in_err-unsigned_column
returns-in_err-unsigned_column c =
    let more = c.loop-m.invariant in
    rw c.from_residual.ensures (read_wrong c.args.columns.now c.loop-m.m c.loop-m.unsigned more.0 more.1 c.loop-m-test.true c.requires c.in-Some.column c.in-Some.is c.in_err-unsigned_column.ensures)
