use Rattle.std.proofs.Common.{◌≡◌, ◌+◌, ◌≤◌, drop}
use Rattle.rfc4180.specs.declared.automaton.State.TheVariants.{Start}
use Rattle.rfc4180.specs.Automaton.{scan_of}
use Rattle.rfc4180.proofs.automaton.scan.Given as goal

-- what is left decides the answer, and no more records than bytes have opened
abbrev pub invariant-loop-at : goal.invariant-loop-at
invariant-loop-at l = (scan_of Start 0 1 l.file ≡ scan_of l.state l.at l.records (drop l.at l.file)) × (l.records ≤ l.at + 1)
