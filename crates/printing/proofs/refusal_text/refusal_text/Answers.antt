use Rattle.std.proofs.Common.{arith}
use Rattle.printing.proofs.Numbers.{three_long, twenty_digits}
use Rattle.printing.proofs.refusal_text.refusal_text.Goals as goal

pub push_number-requires : goal.push_number-requires
push_number-requires c = (omega arith, omega (arith, three_long c.args.refusal.number (omega arith)))

pub push-requires-5 : goal.push-requires-5
push-requires-5 c = (omega arith, omega (arith, three_long c.args.refusal.number (omega arith)))

pub push_number-requires-2 : goal.push_number-requires-2
push_number-requires-2 c = (omega arith, omega (arith, three_long c.args.refusal.number (omega arith), twenty_digits c.args.refusal.place (omega arith)))

pub push-requires-6 : goal.push-requires-6
push-requires-6 c = (omega arith, omega (arith, three_long c.args.refusal.number (omega arith), twenty_digits c.args.refusal.place (omega arith)))
