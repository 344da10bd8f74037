use Rattle.std.proofs.Common.{◌≡◌, ◌+◌, length, take}
use Rattle.rfc4180.specs.After.{fields_at, fields_after}
use Rattle.rfc4180.proofs.Rows.{last_end}
use Rattle.rfc4180.proofs.Keeping.{keeping}
use Rattle.rfc4180.proofs.reader.Record.read.Given as goal

-- the fields ahead bring what is missing of the record's
abbrev pub invariant-loop-next : goal.invariant-loop-next
invariant-loop-next g l =
    let whole = fields_at l.first in
    let ahead = fields_after l.next in
    record {
      kept : keeping g.row.KEPT l.kept.items ahead ≡ take g.row.KEPT whole;
      many : l.count + length ahead ≡ length whole;
      far : last_end l.end ahead ≡ last_end l.first.at whole;
    }

abbrev pub decreases-loop-next : goal.decreases-loop-next
decreases-loop-next g l = length (fields_after l.next)
