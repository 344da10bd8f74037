use Rattle.std.proofs.Common.{◌≡◌, ℕ, ◌≤◌, get_or, None}
use Rattle.drawing.specs.Responses.{ReadTo}
use Rattle.drawing.proofs.responses.reading.unsigned_columns.Given as goal

abbrev pub invariant-loop-m : goal.invariant-loop-m
invariant-loop-m l = ReadTo l.columns l.m l.unsigned × ((k : ℕ) → l.m ≤ k → get_or l.unsigned k None ≡ None)
