use Rattle.std.proofs.Common.{◌≡◌, ◌≤◌, length, Ok, sym, ap, ◌∙◌, arith, rules}
use Rattle.feeder.specs.View.{lines_of}
use Rattle.probing.specs.Settings.{with_kept}
use Rattle.sources.specs.LineFacts.{feeder_plant}
use Rattle.sources.specs.LineMaking.{first_misplaced}
use Rattle.sources.proofs.Entries.{copies_are_standings}
use Rattle.sources.proofs.Making.{made_means, make_accepted}
use Rattle.sources.proofs.feeder_source.making.FeederSource.made.Goals as goal

pub invariant_of-result : goal.invariant_of-result
invariant_of-result c =
    let count = ap length c.same_lines.ensures in
    let stood = c.in_ok-voltages.ensures in
    let some : 1 ≤ c.buses-buses.result = search rules in
    let few : c.buses-buses.result ≤ 64 = search rules in
    record {
      few = (omega (arith, count, c.buses-buses.ensures, some), omega (arith, count, c.buses-buses.ensures, few));
      near = copies_are_standings c.args.standing.now c.in_ok-voltages.voltages stood.0 stood.1;
    }

pub returns : goal.returns
returns c =
    let F = lines_of c.args.map.now in
    let xs = c.args.inverters.now in
    let ys = c.args.standing.now in
    let marks = c.in_ok-marks.marks in
    let places = c.in_ok-voltages.voltages in
    let marked = c.in_ok-marks.ensures in
    let stood = c.in_ok-voltages.ensures in
    let some : 1 ≤ length F = search rules in
    let few : length F ≤ 64 = search rules in
    let long : length ys ≡ length F = omega arith in
    let means =
    ap (λ G. with_kept (feeder_plant G marks places) c.new-2.result.thousandths) c.same_lines.ensures ∙
    ap (with_kept (feeder_plant F marks places)) c.new-2.ensures ∙
    made_means F xs ys marks places few marked.1 stood.1 in
    let placed = ap (λ n. first_misplaced n xs) (sym c.buses-buses.ensures) ∙ marked.0 in
    make_accepted F xs ys some few placed long stood.0 ∙ ap Ok (sym means)
