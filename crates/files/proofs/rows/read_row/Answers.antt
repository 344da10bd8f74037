use Rattle.std.proofs.Common.{◌≡◌, ◌+◌, length, sym, ap, ◌∙◌, w64, SFits, arith, rules}
use Rattle.std.proofs.lemmas.Int.{to_z-of_z}
use Rattle.std.proofs.lemmas.Result.{err_from_is_err_and}
use Rattle.rfc4180.specs.Views.{pieces}
use Rattle.files.specs.Numbers.{inverter_of, step_of}
use Rattle.files.specs.Rows.{changes_from, no_changes}
use Rattle.files.proofs.Keeping.{kept_field, kept_rest, row_taken, row_refused}
use Rattle.files.proofs.rows.read_row.Goals as goal

pub returns-in_err-changes-clause-value : goal.returns-in_err-changes-clause-value
returns-in_err-changes-clause-value c =
    let p = err_from_is_err_and c.from_residual-in_err-changes.result c.from_residual-in_err-changes.ensures.1 in
    let row = pieces c.args.row.now in
    let t = c.args.table.now in
    let fields = c.fields.result.now in
    let kept = c.fields.ensures.pieces in
    let full : length row ≡ t.buses + 2 = omega arith in
    let first = ap (inverter_of t) (sym (kept_field 0 67 fields row _ kept (omega arith))) ∙ sym c.in_ok-inverter.ensures.value in
    let second = ap step_of (sym (kept_field 1 67 fields row _ kept (omega arith))) ∙ sym c.in_ok-step.ensures in
    let fits : SFits w64 c.in_ok-step.step = search rules in
    let e = simp to_z-of_z at c.in_err-changes.ensures in
    let done = ap (changes_from c.in_ok-step.step 0 no_changes) (sym (kept_rest 2 67 fields row (omega arith) kept)) ∙ sym e in
    rw (p.1, p.2) (row_refused t row full c.in_ok-inverter.inverter first c.in_ok-step.step second c.in_err-changes.field-0.0 done)

pub returns-clause-value : goal.returns-clause-value
returns-clause-value c =
    let row = pieces c.args.row.now in
    let t = c.args.table.now in
    let fields = c.fields.result.now in
    let kept = c.fields.ensures.pieces in
    let full : length row ≡ t.buses + 2 = omega arith in
    let first = ap (inverter_of t) (sym (kept_field 0 67 fields row _ kept (omega arith))) ∙ sym c.in_ok-inverter.ensures.value in
    let second = ap step_of (sym (kept_field 1 67 fields row _ kept (omega arith))) ∙ sym c.in_ok-step.ensures in
    let fits : SFits w64 c.in_ok-step.step = search rules in
    let e = simp to_z-of_z at c.in_ok-changes.ensures in
    let done = ap (changes_from c.in_ok-step.step 0 no_changes) (sym (kept_rest 2 67 fields row (omega arith) kept)) ∙ sym e in
    simp to_z-of_z (row_taken t row full c.in_ok-inverter.inverter first c.in_ok-step.step second c.in_ok-changes.changes done)
