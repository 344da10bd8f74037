use Rattle.std.proofs.Common.{◌≡◌, ◌↔◌, true, is_ok, sym, ap, ◌∙◌, subst}
use Rattle.std.proofs.lemmas.Result.{err_from_is_err_and}
use Rattle.feeder.specs.View.{lines_of}
use Rattle.sources.specs.LineMaking.{IsWithinLimits}
use Rattle.sources.proofs.Making.{made_just_within}
use Rattle.sources.proofs.feeder_source.making.FeederSource.make.Goals as goal

pub returns-in_err-self-clause-limits : goal.returns-in_err-self-clause-limits
returns-in_err-self-clause-limits c =
    let map = c.args.map.now in
    let xs = c.args.inverters.now in
    let ys = c.args.standing.now in
    let refused = err_from_is_err_and c.from_residual.result c.from_residual.ensures.1 in
    let same = ap is_ok (c.in_err-self.ensures) ∙ sym (ap is_ok refused.1) in
    subst (λ b. (b ≡ true) ↔ IsWithinLimits (lines_of map) xs ys) same (made_just_within map xs ys)

pub returns-clause-limits : goal.returns-clause-limits
returns-clause-limits c =
    let map = c.args.map.now in
    let xs = c.args.inverters.now in
    let ys = c.args.standing.now in
    subst (λ b. (b ≡ true) ↔ IsWithinLimits (lines_of map) xs ys) (ap is_ok (c.in_ok-self.ensures)) (made_just_within map xs ys)
