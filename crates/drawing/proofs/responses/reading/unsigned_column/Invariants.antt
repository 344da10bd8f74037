use Rattle.std.proofs.Common.{◌≡◌, ℕ, ◌<◌, ◌≤◌, length, get_or, pos}
use Rattle.drawing.proofs.responses.reading.unsigned_column.Given as goal

abbrev pub invariant-loop-n : goal.invariant-loop-n
invariant-loop-n l = (length l.unsigned ≡ 64) × ((k : ℕ) → k < l.n → get_or l.column k (pos 0) ≡ pos (get_or l.unsigned k 0)) × ((k : ℕ) → k < l.n → get_or l.unsigned k 0 ≤ 1000000)
