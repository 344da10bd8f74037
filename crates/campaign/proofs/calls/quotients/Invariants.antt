use Rattle.std.proofs.Common.{◌≡◌, ℕ, ◌+◌, ◌<◌, get_or, pos, not, is_some, None}
use Rattle.units.specs.Quotients.{response_of}
use Rattle.probing.specs.Answers.{lowest}
use Rattle.campaign.specs.Relations.{or_zero, difference}
use Rattle.campaign.proofs.calls.quotients.Given as goal

abbrev pub invariant-loop-index : goal.invariant-loop-index
invariant-loop-index l =
    (lowest l.index (λ n. not (is_some (response_of (difference l.before l.after n) l.size))) ≡ None) ×
    ((k : ℕ) → k < l.index → get_or l.response-items k (pos 0) ≡ or_zero (response_of (difference l.before l.after (k + 1)) l.size))
