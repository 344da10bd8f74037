-- Dividing the change that a step made by the step.
use Rattle.std.proofs.Common.{◌≡◌, ℕ, zero, suc, ◌+◌, ◌-◌, ◌*◌, ◌/◌, ◌<◌, ◌≤◌, Bool, true, false, not, List, ◌++◌, length, get_or, drop, replicate, ℤ, pos, negsuc, ◌-ℤ◌, ◌*ℤ◌, nat_abs, is_some, Some, None, Ok, Err, Option, sym, refl, ap, ◌∙◌, mul-div_cancel, arith}
use borrow.Author.Differences.{up, down, product_is}
use Rattle.std.proofs.lemmas.Int.{ints}
use Rattle.probing.specs.Facts.{Facts, IsBounded, voltage}
use Rattle.refusals.specs.Checks.{need, lacking, after}
use Rattle.probing.specs.Answers.{lowest, read_all_of}
use Rattle.probing.proofs.Readings.{filled_before, lowest_stays, lowest_here, lowest_same, per_bus_same, per_bus_of, read_heard}
use Rattle.campaign.specs.declared.fault.CampaignFault.TheVariants.{NotThisCampaign, NotMultiple}
use Rattle.campaign.specs.declared.state.Campaign.{Campaign}
use Rattle.campaign.specs.declared.steps.Command.{Command}
use Rattle.campaign.specs.Columns.{same, is_outstanding}
use Rattle.campaign.specs.Relations.{from_source, or_zero, quotients, is_uneven, divided_of, difference, change_of, collect_of}
use Rattle.campaign.proofs.Lists.{same_buses}
use Rattle.units.specs.Quotients.{Divides, response_of}
use Rattle.units.proofs.Division.{divides}

cancel_nat : (a b k : ℕ) → a * suc k ≡ b * suc k → a ≡ b
cancel_nat a b k e = sym (mul-div_cancel a {n = suc k} (omega arith)) ∙ ap (λ n. n / suc k) e ∙ mul-div_cancel b {n = suc k} (omega arith)

cancel : (q r step : ℤ) → (step ≡ pos 0 → ⊥) → q *ℤ step ≡ r *ℤ step → q ≡ r
cancel q r (pos zero) nonzero e = absurd (nonzero refl)
cancel q r (pos (suc k)) nonzero e =
    let ups = cancel_nat (up q) (up r) k (omega (arith, ap up e, (product_is q (pos (suc k))).0, (product_is r (pos (suc k))).0)) in
    let downs = cancel_nat (down q) (down r) k (omega (arith, ap down e, (product_is q (pos (suc k))).1, (product_is r (pos (suc k))).1)) in
    omega (arith, ints, ups, downs)
cancel q r (negsuc k) nonzero e =
    let ups = cancel_nat (up q) (up r) k (omega (arith, ap down e, (product_is q (negsuc k)).1, (product_is r (negsuc k)).1)) in
    let downs = cancel_nat (down q) (down r) k (omega (arith, ap up e, (product_is q (negsuc k)).0, (product_is r (negsuc k)).0)) in
    omega (arith, ints, ups, downs)

same_some : (o : Option ℤ) (change step r : ℤ) → (step ≡ pos 0 → ⊥) → nat_abs r ≤ 1000000 → r *ℤ step ≡ change → Divides change step o → o ≡ Some r
same_some None change step r nonzero m e d = absurd (d r m e)
same_some (Some q) change step r nonzero m e d = ap Some (cancel q r step nonzero (d.0 ∙ sym e))

-- a response times the step, divided by the step, is the response
pub divided_back : (r step : ℤ) → (step ≡ pos 0 → ⊥) → nat_abs r ≤ 1000000 → response_of (r *ℤ step) step ≡ Some r
divided_back r step nonzero m = same_some (response_of (r *ℤ step) step) (r *ℤ step) step r nonzero m refl (divides (r *ℤ step) step nonzero)

-- The division of each bus's change, in bus order.

pub difference_at : (before after : List ℤ) (i : ℕ) → difference before after (i + 1) ≡ get_or after i (pos 0) -ℤ get_or before i (pos 0)
difference_at before after i = ap (λ k. get_or after k (pos 0) -ℤ get_or before k (pos 0)) (let is : i + 1 - 1 ≡ i = omega arith in is)

pub some_even : (o : Option ℤ) (q : ℤ) → Some q ≡ o → not (is_some o) ≡ false
some_even o q h = ap (λ p. not (is_some p)) (sym h)

pub none_uneven : (o : Option ℤ) → None ≡ o → not (is_some o) ≡ true
none_uneven o h = ap (λ p. not (is_some p)) (sym h)

pub divided_all :
    (last i : ℕ) (change : ℕ → ℤ) (size : ℤ) (xs : List ℤ) → last ≤ 64 → i ≡ last → length xs ≡ last → lowest i (is_uneven change size) ≡ None →
    ((k : ℕ) → k < i → get_or xs k (pos 0) ≡ or_zero (response_of (change (k + 1)) size)) → Ok (xs ++ drop last (replicate 64 (pos 0))) ≡ divided_of last change size
divided_all last i change size xs few at long none told =
    ap Ok (filled_before last (λ n. or_zero (response_of (change n) size)) xs few long (λ k lt. told k (omega (arith, at)))) ∙
    ap (λ o. lacking o NotMultiple (Ok (quotients last change size))) (sym none ∙ ap (λ k. lowest k (is_uneven change size)) at)

pub divided_stops : (last i : ℕ) (change : ℕ → ℤ) (size : ℤ) → i < last → lowest i (is_uneven change size) ≡ None → None ≡ response_of (change (i + 1)) size → Err (NotMultiple (i + 1)) ≡ divided_of last change size
divided_stops last i change size lt none h =
    let test : ℕ → Bool = is_uneven change size in
    let found = lowest_stays (i + 1) last (i + 1) test (omega arith) (lowest_here i test none (none_uneven _ h)) in
    ap (λ o. lacking o NotMultiple (Ok (quotients last change size))) (sym found)

-- the same changes give the same
pub divided_same : (last : ℕ) (change change' : ℕ → ℤ) (size : ℤ) → ((n : ℕ) → 1 ≤ n → n ≤ last → change n ≡ change' n) → divided_of last change size ≡ divided_of last change' size
divided_same last change change' size h =
    ap (λ o. lacking o NotMultiple (Ok (quotients last change size)))
    (lowest_same last (is_uneven change size) (is_uneven change' size) (λ n some le. ap (λ z. not (is_some (response_of z size))) (h n some le))) ∙
    ap (λ qs. lacking (lowest last (is_uneven change' size)) NotMultiple (Ok qs))
    (per_bus_same last (λ n. or_zero (response_of (change n) size)) (λ n. or_zero (response_of (change' n) size)) (λ n some le. ap (λ z. or_zero (response_of z size)) (h n some le)))

-- what the readings of a source give
pub collect_divides : (f : Facts) → IsBounded f → (c : Campaign) (step : Command) (after : List ℤ) → same f.plant c ≡ true → is_outstanding c step ≡ true → Ok after ≡ read_all_of f →
    divided_of c.buses (difference c.before after) step.size ≡ collect_of f c step
collect_divides f bounds c step readings match out h =
    let is = (read_heard f readings h).1 in
    let divided = divided_of f.plant.buses (change_of f c) step.size in
    ap (λ last. divided_of last (difference c.before readings) step.size) (sym (same_buses f.plant c match)) ∙
    divided_same f.plant.buses (difference c.before readings) (change_of f c) step.size
    (λ n some le. ap (λ v. v -ℤ get_or c.before (n - 1) (pos 0)) (ap (λ xs. get_or xs (n - 1) (pos 0)) is ∙ per_bus_of f.plant.buses (voltage f) n bounds.plant.few some le)) ∙
    ap (λ r. after (from_source r) (λ (xs : List ℤ). divided)) h ∙
    ap (λ t. need t (NotThisCampaign step.inverter) (after (from_source (read_all_of f)) (λ _. divided))) (sym out) ∙
    ap (λ t. need t (NotThisCampaign step.inverter) (need (is_outstanding c step) (NotThisCampaign step.inverter) (after (from_source (read_all_of f)) (λ _. divided)))) (sym match)
