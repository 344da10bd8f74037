-- The response that a voltage change and a step give: change divided by step, if that is whole and not too large.
use Rattle.std.specs.Prelude.{◌≡◌, ◌≤◌, cond, ◌&&◌, ℤ, ◌*ℤ◌, Some, None, Option, ◌==◌, ◌≢◌, int_div, int_rem, nat_le, unsigned_abs}

-- at most 1,000,000 either way
abbrev pub Moderate : ℤ → Type 0
Moderate q = unsigned_abs q ≤ 1000000

-- r times the step is the change; none where no whole number within 1,000,000 either way is so
abbrev pub Divides : ℤ → ℤ → Option ℤ → Type 0
Divides change step (Some q) = (q *ℤ step ≡ change) × Moderate q
Divides change step None = (q : ℤ) → Moderate q → q *ℤ step ≢ change

-- the same by division; there is no step 0
abbrev pub response_of : ℤ → ℤ → Option ℤ
response_of change step =
    cond (unsigned_abs step == 0) None
    (cond (unsigned_abs (int_rem change step) == 0 && nat_le (unsigned_abs (int_div change step)) 1000000) (Some (int_div change step)) None)
