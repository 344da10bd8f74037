-- The numbers of a record, each read from its field.
use Rattle.std.specs.Prelude.{ℕ, Bool, not, ◌&&◌, ℤ, is_some, Some, None, Ok, Option, Result, nat_le, unsigned_abs}
use Rattle.refusals.specs.Checks.{need, having, after}
use Rattle.rfc4180.specs.Places.{Content, plainly, quotedly, nothing, held, Piece}
use Rattle.units.specs.Decimals.{bus_of, decimal_of}
use Rattle.units.specs.Quotients.{response_of}
use Rattle.files.specs.declared.fault.FileFault.{FileFault}
use Rattle.files.specs.declared.fault.FileFault.TheVariants.{Form, Inverter, Step, Change}
use Rattle.files.specs.declared.table.Table.{Table}
use Rattle.files.specs.Tables.{probe_of}

-- a number that a field is to hold and that is to pass a test; the first fault is of its form, the second of its value
abbrev pub number_in : {T : Type 0} → Option T → (T → Bool) → FileFault → FileFault → Result T FileFault
number_in number passes malformed refused = having number malformed (λ x. need (passes x) refused (Ok x))

-- one of the buses 1 to N that has no record yet
abbrev pub is_free : Table → ℕ → Bool
is_free table m = (nat_le 1 m && nat_le m table.buses) && not (is_some (probe_of table m))

-- a record's inverter
abbrev pub inverter_of : Table → Piece → Result ℕ FileFault
inverter_of table p = number_in (bus_of (held p.content)) (is_free table) (Form p.start) (Inverter p.start)

-- a step is not 0 and at most 1,000 thousandths either way
abbrev pub is_step : ℤ → Bool
is_step s = nat_le 1 (unsigned_abs s) && nat_le (unsigned_abs s) 1000

-- a record's step
abbrev pub step_of : Piece → Result ℤ FileFault
step_of p = number_in (decimal_of 3 (held p.content)) is_step (Form p.start) (Step p.start)

-- whether a change gives a response
abbrev pub responds : ℤ → ℤ → Bool
responds step change = is_some (response_of change step)

-- a change that is no blank
abbrev pub given_in : ℤ → Piece → Result (Option ℤ) FileFault
given_in step p = after (number_in (decimal_of 9 (held p.content)) (responds step) (Form p.start) (Change p.start)) (λ v. Ok (Some v))

abbrev pub change_in : ℤ → Piece → Content → Result (Option ℤ) FileFault
change_in step p (plainly xs) = given_in step p
change_in step p (quotedly xs) = given_in step p
change_in step p nothing = Ok None

-- a record's change at one bus, none for a blank
abbrev pub change_of : ℤ → Piece → Result (Option ℤ) FileFault
change_of step p = change_in step p p.content
