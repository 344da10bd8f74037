-- The facts of a source over a grid.
use Rattle.std.specs.Prelude.{ℕ, ◌≤◌, Bool, cond, not, ◌&&◌, ℤ, pos, Some, None, Option, nat_le}
use Rattle.probing.specs.Facts.{Plant, Facts, metered}

-- is it one of the numbers 1 to last?
abbrev pub within : ℕ → ℕ → Bool
within last n = nat_le 1 n && nat_le n last

-- a source has 1 to 64 buses
abbrev pub IsBusCount : ℕ → Type 0
IsBusCount n = (1 ≤ n) × (n ≤ 64)

-- a plant with every inverter on its schedule
abbrev pub idle : Plant → Facts
idle p = record { plant = p; state = record { setting = λ _. pos 0 } }

-- the standing voltage of bus n, if it is metered and its meter not mute
abbrev pub standing_heard : Plant → ℕ → Option ℤ
standing_heard p n = cond (metered p n && not (p.mute n)) (Some (p.standing n)) None
