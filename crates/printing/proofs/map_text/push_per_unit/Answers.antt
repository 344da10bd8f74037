use Rattle.std.proofs.Common.{◌+◌, ◌/◌, ◌%◌, [], ◌∷◌, ◌++◌, map, get_or, drop, sym, ap, ◌∙◌, arith}
use Rattle.std.proofs.lemmas.List.{append-nil, drop_all}
use Rattle.printing.specs.MapTexts.{digit_at}
use Rattle.printing.proofs.Digits.{behind}
use Rattle.printing.proofs.Numbers.{one_long, behind_more, per_unit_put}
use Rattle.printing.proofs.map_text.push_per_unit.Goals as goal

pub push_number-requires : goal.push_number-requires
push_number-requires c = (omega arith, omega (arith, one_long (c.args.resistance / 1000000 % 10) (omega arith)))

pub push-requires : goal.push-requires
push-requires c = (omega arith, omega (arith, c.push_number.ensures.len, one_long (c.args.resistance / 1000000 % 10) (omega arith)))

pub push_number-requires-in-loop-unit : goal.push_number-requires-in-loop-unit
push_number-requires-in-loop-unit c =
    let first = one_long (c.args.resistance / 1000000 % 10) (omega arith) in
    let next = one_long (c.args.resistance / get_or behind c.loop-unit.unit-index 0 % 10) (omega arith) in
    (omega arith, omega (arith, c.loop-unit.invariant.1, c.push.ensures.len, c.push_number.ensures.len, first, next))

pub loop-unit-preserved : goal.loop-unit-preserved
loop-unit-preserved c =
    let n = c.args.resistance in
    let i = c.loop-unit.unit-index in
    let next = one_long (n / get_or behind i 0 % 10) (omega arith) in (
      ap (λ t. t ++ map (digit_at n) (drop (i + 1) behind)) c.push_number-in-loop-unit.ensures.bytes ∙ behind_more _ n i c.loop-unit-test.true ∙ c.loop-unit.invariant.0,
      omega (arith, c.push_number-in-loop-unit.ensures.len, c.loop-unit.invariant.1, next),
    )

pub returns : goal.returns
returns c =
    let n = c.args.resistance in
    let text = c.loop-unit.text.bytes.items in
    let all = ap (λ units. text ++ map (digit_at n) units) (drop_all c.loop-unit.unit-index behind c.loop-unit-test.false) ∙ append-nil text in
    let start = c.push.ensures.bytes ∙ ap (λ t. t ++ 0x2E ∷ []) c.push_number.ensures.bytes in
    record {
      bytes = sym all ∙ c.loop-unit.invariant.0 ∙ ap (λ t. t ++ map (digit_at n) behind) start ∙ per_unit_put c.args.text.now.bytes.items n;
      len = omega (arith, c.loop-unit.invariant.1, c.loop-unit.auto.unit-index-end, c.loop-unit-test.false, c.push.ensures.len, c.push_number.ensures.len, one_long (n / 1000000 % 10) (omega arith));
    }
