-- Settings that a source keeps in a list: that of the inverter at bus m at place m - 1, in thousandths of per unit.
use Rattle.std.specs.Prelude.{ℕ, ◌-◌, ◌≤◌, Bool, cond, List, ℤ, pos, slice_index_or, unsigned_abs}
use Rattle.probing.specs.Facts.{Plant, State, Facts}

-- the settings in the list, 0 where no inverter is
abbrev pub settings_in : (ℕ → Bool) → List ℤ → State
settings_in inverter kept = record { setting = λ m. cond (inverter m) (slice_index_or kept (m - 1) (pos 0)) (pos 0) }

-- a plant with the settings in the list
abbrev pub with_kept : Plant → List ℤ → Facts
with_kept p kept = record { plant = p; state = settings_in p.inverter kept }

-- no setting beyond 1,000 either way
abbrev pub AreSettings : List ℤ → Type 0
AreSettings kept = (k : ℕ) → unsigned_abs (slice_index_or kept k (pos 0)) ≤ 1000
