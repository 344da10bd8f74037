use Rattle.std.proofs.Common.{◌≡◌, length, take, None}
use Rattle.sources.specs.LineMaking.{first_at, misplaced, Marks}
use Rattle.sources.proofs.feeder_source.making.mark.Given as goal

abbrev pub invariant-loop-index : goal.invariant-loop-index
invariant-loop-index l =
    (length l.marks ≡ 64) × (first_at l.index (misplaced l.buses l.inverters) ≡ None) × Marks (take l.index l.inverters) l.marks
