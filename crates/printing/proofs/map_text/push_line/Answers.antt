use Rattle.std.proofs.Common.{[], ◌∷◌, arith}
use Rattle.printing.specs.Texts.{new_line}
use Rattle.printing.specs.MapTexts.{short_number, per_unit}
use Rattle.printing.proofs.Parts.{six_parts}
use Rattle.printing.proofs.Numbers.{three_long, short_decimal}
use Rattle.printing.proofs.map_text.push_line.Goals as goal

pub push_number-requires : goal.push_number-requires
push_number-requires c = (omega arith, omega (arith, three_long c.args.bus c.requires.short.0))

pub push-requires : goal.push-requires
push-requires c = (omega arith, omega (arith, three_long c.args.bus c.requires.short.0))

pub push_number-requires-2 : goal.push_number-requires-2
push_number-requires-2 c = (omega arith, omega (arith, three_long c.args.bus c.requires.short.0, three_long c.args.line.parent c.requires.short.1))

pub push-requires-2 : goal.push-requires-2
push-requires-2 c = (omega arith, omega (arith, three_long c.args.bus c.requires.short.0, three_long c.args.line.parent c.requires.short.1))

pub push_per_unit-requires : goal.push_per_unit-requires
push_per_unit-requires c = omega (arith, three_long c.args.bus c.requires.short.0, three_long c.args.line.parent c.requires.short.1)

pub push-requires-3 : goal.push-requires-3
push-requires-3 c = (omega arith, omega (arith, three_long c.args.bus c.requires.short.0, three_long c.args.line.parent c.requires.short.1))

pub returns : goal.returns
returns c =
    let line = c.args.line in
    let bus = short_decimal c.args.bus c.requires.short.0 in
    let parent = short_decimal line.parent c.requires.short.1 in
    let all = six_parts c.args.text.now.bytes.items (short_number c.args.bus) (0x2C ∷ []) (short_number line.parent) (0x2C ∷ []) (per_unit line.resistance) new_line in
    record { bytes = cc; len = omega (arith, three_long c.args.bus c.requires.short.0, three_long line.parent c.requires.short.1) }
