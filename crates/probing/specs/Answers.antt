-- What a source answers and refuses, and which facts it leaves.
use Rattle.std.specs.Prelude.{ℕ, zero, suc, Bool, cond, not, ◌&&◌, List, map, ℤ, pos, Some, None, Ok, Option, Result, ◌==◌, nat_le, unsigned_abs}
use Rattle.std.specs.List.{range_with_len}
use Rattle.refusals.specs.Checks.{need, lacking, left}
use Rattle.probing.specs.declared.fault.SourceFault.{SourceFault}
use Rattle.probing.specs.declared.fault.SourceFault.TheVariants.{NoInverter, BadStep, Unreadable, OffSchedule}
use Rattle.probing.specs.Facts.{Facts, metered, voltage, with_setting}

-- a step is within 1,000 either way, and not 0
abbrev pub admissible : ℤ → Bool
admissible step = nat_le 1 (unsigned_abs step) && nat_le (unsigned_abs step) 1000

-- is inverter m on its schedule?
abbrev pub on_schedule : Facts → ℕ → Bool
on_schedule f m = unsigned_abs (f.state.setting m) == 0

-- reading bus n
abbrev pub read_of : Facts → ℕ → Result ℤ SourceFault
read_of f n = need (metered f.plant n && not (f.plant.mute n)) (Unreadable n) (Ok (voltage f n))

-- commanding inverter m a step
abbrev pub command_of : Facts → ℕ → ℤ → Result (Unit {0}) SourceFault
command_of f m step =
    need (f.plant.inverter m) (NoInverter m)
    (need (admissible step) (BadStep m)
    (need (on_schedule f m) (OffSchedule m)
    (Ok tt)))

-- the facts behind a command
abbrev pub commanded : Facts → ℕ → ℤ → Facts
commanded f m step = left (command_of f m step) (with_setting f m step) f

-- withdrawing inverter m
abbrev pub withdraw_of : Facts → ℕ → Result (Unit {0}) SourceFault
withdraw_of f m = need (f.plant.inverter m) (NoInverter m) (Ok tt)

-- the facts behind a withdrawal
abbrev pub withdrawn : Facts → ℕ → Facts
withdrawn f m = left (withdraw_of f m) (with_setting f m (pos 0)) f

-- the lowest of 1 to k that passes the test
unfoldable pub lowest : ℕ → (ℕ → Bool) → Option ℕ
lowest zero test = None
lowest (suc k) test = elim (lowest k test) [ Some n ↦ Some n | None ↦ cond (test (suc k)) (Some (suc k)) None ]

-- a list of 64: at each bus of 1 to last what g says of it, and 0 behind the last
unfoldable pub per_bus : ℕ → (ℕ → ℤ) → List ℤ
per_bus last g = map (λ n. cond (nat_le n last) (g n) (pos 0)) (range_with_len 1 64)

-- reading every meter in bus order: the lowest mute bus refuses
abbrev pub read_all_of : Facts → Result (List ℤ) SourceFault
read_all_of f = lacking (lowest f.plant.buses f.plant.mute) Unreadable (Ok (per_bus f.plant.buses (voltage f)))
