-- How a value is told in per unit.
use Rattle.std.specs.Prelude.{ℕ, ◌-◌, ◌/◌, ◌%◌, ◌^◌, List, [], ◌++◌, length, replicate, ℤ, pos, negsuc, codes, decimal, unsigned_abs}
use Rattle.units.specs.declared.scale.Scale.{Scale}
use Rattle.units.specs.Decimals.{places_of}

-- a minus exactly where the value is below 0
abbrev pub minus_text : ℤ → List ℕ
minus_text (pos n) = []
minus_text (negsuc n) = codes "-"

-- n in base ten, with zeros in front up to `width` digits
abbrev pub padded : ℕ → ℕ → List ℕ
padded width n = replicate (width - length (decimal n)) 0x30 ++ decimal n

-- a value in the scale's units: a minus, the whole part in base ten without leading zeros, a point, and as many digits as the
-- scale has places
abbrev pub per_unit_text : Scale → ℤ → List ℕ
per_unit_text scale v =
    let places = places_of scale in
    let n = unsigned_abs v in
    minus_text v ++ (decimal (n / 10 ^ places) ++ (codes "." ++ padded places (n % 10 ^ places)))
