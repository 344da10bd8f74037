-- What the values of the code stand for: the parts of a decimal, and the text that a value in per unit prints.
use Rattle.std.specs.Prelude.{ℕ, List}
use Rattle.units.specs.declared.decimals.Decimal.{Decimal as Held}
use Rattle.units.specs.declared.per_unit.PerUnit.{PerUnit}
use Rattle.units.specs.Decimals.{Decimal}
use Rattle.units.specs.PerUnits.{per_unit_text}

abbrev pub parts : Held → Decimal
parts d = record { minus = d.minus; whole = d.whole.now; fraction = d.fraction.now }

abbrev pub told : PerUnit → List ℕ
told p = per_unit_text p.scale p.value
