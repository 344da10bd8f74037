-- What a campaign holds: its buses and inverters, its outstanding step, its columns.
use Rattle.std.specs.Prelude.{ℕ, zero, suc, ◌-◌, Bool, true, false, cond, not, ◌&&◌, ℤ, pos, ◌-ℤ◌, is_some, Some, None, Option, ◌==◌, nat_le, slice_index_or, unsigned_abs}
use Rattle.probing.specs.Facts.{Plant}
use Rattle.campaign.specs.declared.state.Campaign.{Campaign}
use Rattle.campaign.specs.declared.state.Column.{Column}
use Rattle.campaign.specs.declared.steps.Command.{Command}

-- 1 to 64
abbrev pub numbered : ℕ → Bool
numbered n = nat_le 1 n && nat_le n 64

-- has the campaign an inverter at bus m?
abbrev pub has_inverter : Campaign → ℕ → Bool
has_inverter c m = numbered m && slice_index_or c.inverters (m - 1) false

-- all of 1 to k pass the test
unfoldable pub all_to : ℕ → (ℕ → Bool) → Bool
all_to zero test = true
all_to (suc k) test = all_to k test && test (suc k)

-- both or neither
abbrev pub alike : Bool → Bool → Bool
alike a b = cond a b (not b)

-- has the source the buses and the inverters that the campaign was opened on?
abbrev pub same : Plant → Campaign → Bool
same p c = p.buses == c.buses && all_to 64 (λ m. alike (p.inverter m) (has_inverter c m))

-- a step is known by its inverter and its size with sign
abbrev pub is_step : Option Command → Command → Bool
is_step None step = false
is_step (Some handed) step = handed.inverter == step.inverter && unsigned_abs (handed.size -ℤ step.size) == 0

-- is this the outstanding step? A campaign steps only inverters of its own
abbrev pub is_outstanding : Campaign → Command → Bool
is_outstanding c step = is_step c.outstanding step && has_inverter c step.inverter

-- a column that was not collected
abbrev pub blank : Option Column
blank = None

-- the column of inverter m, if it was collected
abbrev pub column_of : Campaign → ℕ → Option Column
column_of c m = slice_index_or c.columns (m - 1) blank

-- is the column of inverter m present?
abbrev pub present : Campaign → ℕ → Bool
present c m = numbered m && is_some (column_of c m)

-- the response of bus n in a column, and 0 in one that was not collected
abbrev pub entry_in : Option Column → ℕ → ℤ
entry_in None n = pos 0
entry_in (Some column) n = slice_index_or column.responses (n - 1) (pos 0)

-- the response of bus n in the column of inverter m
abbrev pub entry : Campaign → ℕ → ℕ → ℤ
entry c n m = entry_in (column_of c m) n

-- the same, if that column is present
abbrev pub response_in : Campaign → ℕ → ℕ → Option ℤ
response_in c n m = cond (numbered n && present c m) (Some (entry c n m)) None
