use Rattle.std.proofs.Common.{◌≡◌, ◌+◌, ◌*◌, ◌≤◌, ◌++◌, drop}
use Rattle.arrayvec.specs.ArrayVec.{array_vec_len}
use Rattle.printing.specs.MapTexts.{lines_text, map_text}
use Rattle.printing.proofs.map_text.map_text.Given as goal

abbrev pub invariant-loop-i : goal.invariant-loop-i
invariant-loop-i l = (l.text.bytes.items ++ lines_text (l.i + 1) (drop l.i l.lines) ≡ map_text l.lines) × (array_vec_len l.text.bytes ≤ 14 + 18 * l.i)
