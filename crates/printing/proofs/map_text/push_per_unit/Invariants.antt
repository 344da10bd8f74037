use Rattle.std.proofs.Common.{◌≡◌, ◌+◌, ◌++◌, map, drop}
use Rattle.arrayvec.specs.ArrayVec.{array_vec_len}
use Rattle.printing.specs.MapTexts.{digit_at}
use Rattle.printing.proofs.Digits.{behind}
use Rattle.printing.proofs.map_text.push_per_unit.Given as goal

abbrev pub invariant-loop-unit : goal.invariant-loop-unit
invariant-loop-unit l =
    (l.text.bytes.items ++ map (digit_at l.resistance) (drop l.unit-index behind) ≡ l.initial.text.bytes.items ++ map (digit_at l.resistance) behind) ×
    (array_vec_len l.text.bytes ≡ array_vec_len l.initial.text.bytes + l.unit-index)
