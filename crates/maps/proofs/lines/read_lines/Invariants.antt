use Rattle.std.proofs.Common.{◌≡◌, []}
use Rattle.rfc4180.specs.Views.{left}
use Rattle.maps.specs.Lines.{lines_in}
use Rattle.maps.proofs.lines.read_lines.Given as goal

abbrev pub invariant-loop-row : goal.invariant-loop-row
invariant-loop-row l = lines_in l.buses [] (left l.fn.reader) ≡ lines_in l.buses l.lines.items (left l.row-iterator)
