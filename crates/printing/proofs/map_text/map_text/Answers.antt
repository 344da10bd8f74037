use Rattle.std.proofs.Common.{◌≡◌, ◌+◌, ◌-◌, length, get_or, ap, ◌∙◌, arith}
use Rattle.std.proofs.lemmas.List.{get_or_default}
use Rattle.feeder.specs.declared.line.Line.{Line}
use Rattle.feeder.specs.Feeder.{Bus, blank}
use Rattle.feeder.specs.View.{lines_of}
use Rattle.feeder.proofs.Maps.{parents, map_stands}
use Rattle.printing.proofs.map_text.map_text.Goals as goal

pub push_line-requires-clause-short : goal.push_line-requires-clause-short
push_line-requires-clause-short c =
    let m = c.args.map.now in
    let i = c.loop-i.i in
    let lines = c.lines-lines.result.now in
    let count = ap length c.lines-lines.ensures in
    let most = (map_stands m).counted in
    let bus : Bus (lines_of m) (i + 1) = (omega arith, omega (arith, count, c.loop-i-test.true)) in
    let none : Line = record { parent = 0; resistance = 0 } in
    let here = get_or_default lines i none blank c.loop-i-test.true ∙ ap (λ ls. get_or ls i blank) c.lines-lines.ensures in
    let place : i ≡ i + 1 - 1 = omega arith in
    let line = ap (λ (l : Line). l.parent) (here ∙ ap (λ k. get_or (lines_of m) k blank) place) in
    (omega (arith, count, most, c.loop-i-test.true), omega (arith, line, parents m (i + 1) bus, most))
