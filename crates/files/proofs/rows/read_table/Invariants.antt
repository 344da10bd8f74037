use Rattle.std.proofs.Common.{◌≡◌, ◌≤◌}
use Rattle.rfc4180.specs.Views.{left}
use Rattle.files.specs.Rows.{rows_of, table_of}
use Rattle.files.proofs.rows.read_table.Given as goal

abbrev pub invariant-loop-row : goal.invariant-loop-row
invariant-loop-row l = (table_of (left l.fn.reader) ≡ rows_of l.table (left l.row-iterator)) × (l.table.buses ≤ 64)
