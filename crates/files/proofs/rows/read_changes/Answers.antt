use Rattle.std.proofs.Common.{◌≡◌, ◌+◌, ◌<◌, set, map, drop, length, Err, sym, ap, ◌∙◌, subst, w64, SFits, to_z, of_z, arith}
use Rattle.std.proofs.lemmas.Int.{to_z-of_z}
use Rattle.std.proofs.lemmas.List.{at_drop_more}
use Rattle.std.proofs.lemmas.Result.{err_from_is_err_and}
use Rattle.refusals.specs.Checks.{after}
use Rattle.rfc4180.specs.Views.{piece}
use Rattle.files.specs.Rows.{changes_from, no_changes}
use Rattle.files.proofs.rows.read_changes.Goals as goal

pub returns-in_err-changes : goal.returns-in_err-changes
returns-in_err-changes c =
    let p = err_from_is_err_and c.from_residual.result c.from_residual.ensures.1 in
    let n = c.loop-n.n in
    let fields = c.args.fields.now in
    let s = to_z w64 (of_z w64 c.args.step) in
    let fits : SFits w64 c.args.step = c.ranges.step in
    let same : s ≡ c.args.step = to_z-of_z w64 c.args.step fits in
    let within : n < length fields = omega arith in
    let found =
    c.loop-n.invariant
    ∙ at_drop_more (λ xs. changes_from s n c.loop-n.changes (map piece xs)) fields n _ within
    ∙ ap (λ o. after o (λ v. changes_from s (n + 1) (set c.loop-n.changes n v) (map piece (drop (n + 1) fields)))) (sym c.in_err-changes.ensures) in
    rw (p.1, p.2) (subst (λ x. Err c.in_err-changes.field-0.0 ≡ changes_from x 0 no_changes (map piece fields)) same (sym found))
