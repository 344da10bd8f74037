use Rattle.std.proofs.Common.{sym}
use Rattle.std.proofs.lemmas.Result.{err_from_is_err_and}
use Rattle.files.proofs.Outcomes.{unopened, unread, filled, outcomes_are_unique, right_files_are_read, tables_tell}
use Rattle.files.proofs.table.Table.read.Goals as goal

pub returns-in_err-open-clause-reads : goal.returns-in_err-open-clause-reads
returns-in_err-open-clause-reads c =
    let p = err_from_is_err_and c.from_residual.result c.from_residual.ensures.1 in
    rw (p.1, p.2) (unopened c.args.file.now c.args.self.now c.in_err-open.field-0.0 c.in_err-open.ensures)

pub returns-in_err-open-clause-one : goal.returns-in_err-open-clause-one
returns-in_err-open-clause-one c = outcomes_are_unique

pub returns-in_err-read_table-clause-reads : goal.returns-in_err-read_table-clause-reads
returns-in_err-read_table-clause-reads c =
    let p = err_from_is_err_and c.from_residual-in_err-read_table.result c.from_residual-in_err-read_table.ensures.1 in
    rw (p.1, p.2) (unread c.args.file.now c.args.self.now c.in_ok-open.field-0 c.in_err-read_table.field-0.0 c.in_ok-open.ensures (sym c.in_err-read_table.ensures))

pub returns-in_err-read_table-clause-one : goal.returns-in_err-read_table-clause-one
returns-in_err-read_table-clause-one c = outcomes_are_unique

pub returns-clause-reads : goal.returns-clause-reads
returns-clause-reads c =
    filled c.args.file.now c.read_table.new.table c.in_ok-open.field-0 c.in_ok-open.ensures (sym c.in_ok-read_table.ensures)

pub returns-clause-one : goal.returns-clause-one
returns-clause-one c = outcomes_are_unique

pub returns-in_err-open-clause-right : goal.returns-in_err-open-clause-right
returns-in_err-open-clause-right c = right_files_are_read

pub returns-in_err-open-clause-tells : goal.returns-in_err-open-clause-tells
returns-in_err-open-clause-tells c = tables_tell

pub returns-in_err-read_table-clause-right : goal.returns-in_err-read_table-clause-right
returns-in_err-read_table-clause-right c = right_files_are_read

pub returns-in_err-read_table-clause-tells : goal.returns-in_err-read_table-clause-tells
returns-in_err-read_table-clause-tells c = tables_tell

pub returns-clause-right : goal.returns-clause-right
returns-clause-right c = right_files_are_read

pub returns-clause-tells : goal.returns-clause-tells
returns-clause-tells c = tables_tell
