use Rattle.std.proofs.Common.{refl, rules}
use Rattle.drawing.proofs.Reading.{wrong_entry, outside, read_all}
use Rattle.drawing.proofs.responses.reading.read_columns.Goals as goal

pub returns-then-not-contains : goal.returns-then-not-contains
returns-then-not-contains c = outside c.args.columns.now (λ some few. search rules)

pub returns-in_err-columns : goal.returns-in_err-columns
returns-in_err-columns c = rw c.from_residual.ensures (wrong_entry c.args.columns.now c.in_err-columns.ensures)

pub returns : goal.returns
returns c = read_all c.args.columns.now _ refl c.in_ok-columns.ensures
