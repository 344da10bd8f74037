use Rattle.std.proofs.Common.{ℕ, rules}
use Rattle.rfc4180.proofs.Decided.{verdict, counted}
use Rattle.rfc4180.proofs.Unique.{parsed}
use Rattle.rfc4180.proofs.automaton.count.Goals as goal

pub returns : goal.returns
returns c =
    let file = c.args.file.now in
    search (rules, verdict file, parsed {A = ℕ} file, counted file)
