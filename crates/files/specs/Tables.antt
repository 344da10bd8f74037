-- What a table of a response file holds: what was probed, and the responses and mute meters that follow from it.
use Rattle.std.specs.Prelude.{ℕ, ◌-◌, Bool, false, cond, ◌&&◌, ℤ, pos, is_none, Some, None, Option, unwrap_or, option_and_then, nat_le, slice_index_or, replicate}
use Rattle.std.specs.List.{list_any}
use Rattle.units.specs.Quotients.{response_of}
use Rattle.files.specs.declared.table.Probe.{Probe}
use Rattle.files.specs.declared.table.Table.{Table}

-- what was probed at inverter m
abbrev pub probe_of : Table → ℕ → Option Probe
probe_of t m = slice_index_or t.probes (m - 1) None

-- the voltage change of bus n that was probed, none for a blank
abbrev pub change_at : Probe → ℕ → Option ℤ
change_at p n = slice_index_or p.changes (n - 1) None

-- the response of bus n: its change divided by the step, and 0 for a blank
abbrev pub response_at : Probe → ℕ → ℤ
response_at p n = unwrap_or (option_and_then (λ v. response_of v p.step) (change_at p n)) (pos 0)

-- the response of bus n to an inverter, 0 where nothing was probed there
abbrev pub response_in : Option Probe → ℕ → ℤ
response_in None n = pos 0
response_in (Some p) n = response_at p n

-- the response of bus n to inverter m, both counted from 1
abbrev pub response_to : Table → ℕ → ℕ → ℤ
response_to t n m = cond (nat_le 1 n && nat_le 1 m) (response_in (probe_of t m) n) (pos 0)

-- whether something was probed that is blank at bus n
abbrev pub blank_at : ℕ → Option Probe → Bool
blank_at n None = false
blank_at n (Some p) = is_none (change_at p n)

-- whether the meter of bus n is mute: some record is blank there
abbrev pub mute_of : Table → ℕ → Bool
mute_of t n = (nat_le 1 n && nat_le n t.buses) && list_any (blank_at n) t.probes

-- a table of n buses where nothing was probed
abbrev pub empty_table : ℕ → Table
empty_table n = record { buses = n; probes = replicate 64 None }
