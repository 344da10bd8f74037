use Rattle.std.proofs.Common.{◌≡◌, ◌≢◌, ◌+◌, ◌<◌, length, below_more, get_or-set_other, get_or-set_same, get_or, ℤ, pos, Some, None, Err, Result, sym, ap, ◌∙◌, arith, w32, w64, SFits, to_z, of_z, rules}
use Rattle.std.specs.Option.{ok_or}
use Rattle.std.proofs.lemmas.Int.{to_z-of_z}
use Rattle.std.proofs.lemmas.Result.{err_from_is_err_and}
use Rattle.units.specs.Quotients.{response_of}
use Rattle.probing.proofs.Readings.{lowest_none, lowest_more}
use Rattle.campaign.specs.declared.fault.CampaignFault.{CampaignFault}
use Rattle.campaign.specs.declared.fault.CampaignFault.TheVariants.{NotMultiple}
use Rattle.campaign.specs.Relations.{or_zero, difference, divided_of}
use Rattle.campaign.proofs.Quotients.{difference_at, some_even, divided_all, divided_stops}
use Rattle.campaign.proofs.calls.quotients.Goals as goal

pub loop-index-init : goal.loop-index-init
loop-index-init c = (lowest_none _, λ k lt. absurd (omega arith))

pub loop-index-preserved : goal.loop-index-preserved
loop-index-preserved c =
    let before : SFits w64 (get_or c.args.before.now c.loop-index.index (pos 0)) = search rules in
    let after : SFits w64 (get_or c.args.after.now c.loop-index.index (pos 0)) = search rules in
    let small = c.ranges.size in
    let fits : SFits w64 c.in_ok-response.field-0 = search rules in
    let size = to_z w32 (of_z w32 c.args.size) in
    let change = difference c.args.before.now c.args.after.now in
    let room : c.loop-index.index < length c.loop-index.response-items = search rules in
    let told : Some c.in_ok-response.field-0 ≡ response_of (change (c.loop-index.index + 1)) size =
    sym c.in_ok-response.ensures.ok_part ∙ simp to_z-of_z at c.quotient.ensures ∙
    ap (λ z. response_of z c.args.size) (sym (difference_at c.args.before.now c.args.after.now c.loop-index.index)) ∙
    ap (response_of (change (c.loop-index.index + 1))) (sym (to_z-of_z w32 c.args.size small)) in (
      lowest_more c.loop-index.index _ c.loop-index.invariant.0 (some_even _ c.in_ok-response.field-0 told),
      below_more _ _ (λ k h. let other : k ≢ c.loop-index.index = omega arith in rw get_or-set_other (c.loop-index.invariant.1 k h))
          (get_or-set_same _ _ _ _ room ∙ to_z-of_z w64 _ fits ∙ ap or_zero told),
    )

pub returns : goal.returns
returns c =
    let change = difference c.args.before.now c.args.after.now in
    let size = to_z w32 (of_z w32 c.args.size) in
    let items = c.loop-index.response-items in
    let long : length items ≡ c.args.buses = search rules in
    let same : c.loop-index.index ≡ c.args.buses = omega (arith, long) in
    divided_all c.args.buses c.loop-index.index change size items c.requires same long c.loop-index.invariant.0 c.loop-index.invariant.1 ∙
    ap (divided_of c.args.buses change) (to_z-of_z w32 c.args.size c.ranges.size)

pub returns-in_err-response : goal.returns-in_err-response
returns-in_err-response c =
    let before : SFits w64 (get_or c.args.before.now c.loop-index.index (pos 0)) = search rules in
    let after : SFits w64 (get_or c.args.after.now c.loop-index.index (pos 0)) = search rules in
    let small = c.ranges.size in
    let size = to_z w32 (of_z w32 c.args.size) in
    let back = to_z-of_z w32 c.args.size small in
    let change = difference c.args.before.now c.args.after.now in
    let none = c.in_err-response.ensures.ok_part in
    let told : None ≡ response_of (change (c.loop-index.index + 1)) size =
    sym none ∙ simp to_z-of_z at c.quotient.ensures ∙
    ap (λ z. response_of z c.args.size) (sym (difference_at c.args.before.now c.args.after.now c.loop-index.index)) ∙
    ap (response_of (change (c.loop-index.index + 1))) (sym back) in
    let p = err_from_is_err_and c.from_residual.result c.from_residual.ensures.1 in
    let err : ◌≡◌ {A = Result ℤ CampaignFault} (Err c.in_err-response.field-0.0) (Err (NotMultiple (c.loop-index.index + 1))) =
    c.in_err-response.ensures.value ∙ ap (λ o. ok_or o (NotMultiple (c.loop-index.index + 1))) none in
    let fault : c.in_err-response.field-0.0 ≡ NotMultiple (c.loop-index.index + 1) = cc in
    p.1 ∙ ap Err (p.2 ∙ fault) ∙
    divided_stops c.args.buses c.loop-index.index change size (search rules) c.loop-index.invariant.0 told ∙ ap (divided_of c.args.buses change) back
