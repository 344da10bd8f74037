use Rattle.std.proofs.Common.{rules}
use Rattle.rfc4180.proofs.Held.{held_pass}
use Rattle.rfc4180.proofs.scan.closing_quote.Goals as goal

pub loop-at-preserved-then-byte-ne34 : goal.loop-at-preserved-then-byte-ne34
loop-at-preserved-then-byte-ne34 c = search (rules, held_pass c.args.bytes.now c.loop-at.at)
