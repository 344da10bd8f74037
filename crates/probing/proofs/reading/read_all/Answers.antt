use Rattle.std.proofs.Common.{◌≡◌, ◌≢◌, ◌+◌, ◌<◌, ◌∙◌, ◌++◌, length, drop, replicate, pos, ap, sym, below_more, get_or-set_other, get_or-set_same, arith, w64, SFits, rules}
use Rattle.std.proofs.lemmas.Int.{to_z-of_z}
use Rattle.std.proofs.lemmas.Result.{err_from_is_err_and}
use Rattle.probing.specs.Answers.{lowest}
use Rattle.probing.specs.Facts.{voltage}
use Rattle.probing.proofs.Readings.{filled_before, lowest_none, lowest_more, read_live, read_all_live, read_all_mute}
use Rattle.probing.proofs.reading.read_all.Goals as goal

pub loop-index-init : goal.loop-index-init
loop-index-init g c = (lowest_none _, λ k lt. absurd (omega arith))

pub returns-in_err-reading : goal.returns-in_err-reading
returns-in_err-reading g c =
    let p = err_from_is_err_and c.from_residual.result c.from_residual.ensures.1 in
    let facts = g.S.Source.facts c.args.source.now in
    rw (p.1, p.2) (read_all_mute facts c.loop-index.index c.in_err-reading.field-0.0 (search rules) c.loop-index.invariant.0 c.in_err-reading.ensures)

pub loop-index-preserved : goal.loop-index-preserved
loop-index-preserved g c =
    let facts = g.S.Source.facts c.args.source.now in
    let i = c.loop-index.index in
    let fits : SFits w64 c.in_ok-reading.field-0 = search rules in
    let live = read_live facts (i + 1) c.in_ok-reading.field-0 c.in_ok-reading.ensures in
    let room : i < length c.loop-index.reading-items = search rules in (
      lowest_more _ _ c.loop-index.invariant.0 live.0,
      below_more _ _ (λ k h. let other : k ≢ i = omega arith in rw get_or-set_other (c.loop-index.invariant.1 k h))
          (get_or-set_same _ _ _ _ room ∙ to_z-of_z w64 _ fits ∙ live.1),
    )

pub returns : goal.returns
returns g c =
    let facts = g.S.Source.facts c.args.source.now in
    let bounds = g.met.S.Source.bounded c.args.source.now in
    let long : length c.loop-index.reading-items ≡ facts.plant.buses = search rules in
    let same : c.loop-index.index ≡ facts.plant.buses = omega (arith, long) in
    let all = filled_before facts.plant.buses (voltage facts) c.loop-index.reading-items bounds.plant.few long (λ k lt. c.loop-index.invariant.1 k (omega (arith, same))) in
    read_all_live facts _ (ap (λ n. c.loop-index.reading-items ++ drop n (replicate 64 (pos 0))) c.buses.ensures ∙ all)
    (ap (λ n. lowest n facts.plant.mute) (sym same) ∙ c.loop-index.invariant.0)
