use Rattle.std.proofs.Common.{◌≡◌, ℕ, ◌+◌, ◌<◌, get_or, pos, None}
use Rattle.probing.specs.Facts.{voltage}
use Rattle.probing.specs.Answers.{lowest}
use Rattle.probing.proofs.reading.read_all.Given as goal

abbrev pub invariant-loop-index : goal.invariant-loop-index
invariant-loop-index g l =
    let facts = g.S.Source.facts l.source in
    (lowest l.index facts.plant.mute ≡ None) × ((k : ℕ) → k < l.index → get_or l.reading-items k (pos 0) ≡ voltage facts (k + 1))
