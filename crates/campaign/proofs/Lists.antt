-- The inverters of a source as a list, and a test on all of 1 to k.
use Rattle.std.proofs.Common.{◌≡◌, ℕ, zero, suc, ◌+◌, ◌-◌, ◌<◌, ◌≤◌, Bool, true, false, ◌&&◌, eqb, leb, List, length, get_or, Ok, Err, sym, refl, ap, ◌∙◌, inl, inr, arith}
use mathlib.Core.Bool.{beq}
use denote.Param.Members.{Mut}
use Rattle.std.specs.Fn.{Called}
use Rattle.std.specs.Array.{IsFromFnResult}
use Rattle.std.specs.Cmp.{booleans_Decides}
use Rattle.std.specs.Cmp.Lexicographic.{pointwise}
use Rattle.std.proofs.lemmas.Bool.Decides.{same_from_decides}
use Rattle.std.proofs.lemmas.Slice.Eq.{slice_eq-Decides}
use Rattle.std.proofs.lemmas.List.FromFn.{length-map-range_with_len, get_or-map-range_with_len}
use Rattle.std.proofs.lemmas.List.{same_lists, get_or_default}
use Rattle.std.proofs.lemmas.Bool.{cases_eq, and_parts, and_from, le-leb, leb-true, eq-eqb, eqb-true}
use Rattle.probing.specs.declared.fault.SourceFault.{SourceFault}
use Rattle.refusals.proofs.Checks.{clash, need_ok}
use Rattle.probing.specs.Answers.{withdraw_of}
use Rattle.probing.proofs.Arrays.{each_made}
use Rattle.probing.proofs.Probes.{withdraw_accepted}
use Rattle.probing.specs.Facts.{Plant, Facts, PlantIsBounded}
use Rattle.campaign.specs.declared.fault.CampaignFault.TheVariants.{NotThisCampaign}
use Rattle.campaign.specs.declared.state.Campaign.{Campaign}
use Rattle.campaign.specs.declared.steps.Command.{Command}
use Rattle.campaign.specs.Columns.{numbered, has_inverter, all_to, alike, same, is_step, is_outstanding}
use Rattle.campaign.specs.Relations.{inverter_list, withdrawal_of}

-- the list of inverters

pub inverters_length : (p : Plant) → length (inverter_list p) ≡ 64
unfolding inverter_list
inverters_length p = length-map-range_with_len p.inverter 1 64

pub inverters_at : (f : Plant) (k : ℕ) (d : Bool) → k < 64 → get_or (inverter_list f) k d ≡ f.inverter (k + 1)
unfolding inverter_list
inverters_at f k d lt = get_or-map-range_with_len f.inverter 1 64 k (k + 1) d lt (omega arith)

-- a list that has at each place what the source says of the bus
pub inverters_are : (f : Plant) (xs : List Bool) (d : Bool) → length xs ≡ 64 → ((k : ℕ) → k < 64 → get_or xs k d ≡ f.inverter (k + 1)) → xs ≡ inverter_list f
inverters_are f xs d long told =
    same_lists xs (inverter_list f) (long ∙ sym (inverters_length f))
    (λ k e lt. let under : k < 64 = omega (arith, long) in get_or_default xs k e d lt ∙ told k under ∙ sym (inverters_at f k e under))

-- the array that a closure makes of its indices, where its calls leave it as it is
pub inverters_made : {F : Type 0} (g : Mut F (ℕ × Unit {0}) Bool) (p : F) (f : Plant) → ((i : ℕ) (y : Bool) (q : F) → Called g p (i, tt) y q → (y ≡ f.inverter (i + 1)) × (q ≡ p)) → (xs : List Bool) → IsFromFnResult g p xs 64 → xs ≡ inverter_list f
inverters_made g p f gives xs made =
    inverters_are f xs false made.long (λ k under. each_made g (λ i y. y ≡ f.inverter (i + 1)) p gives xs 64 made k false under)

-- a test on all of 1 to k

pub all_none : (test : ℕ → Bool) → all_to 0 test ≡ true
unfolding all_to
all_none test = refl

all_suc : (k : ℕ) (test : ℕ → Bool) → all_to (suc k) test ≡ (all_to k test && test (suc k))
unfolding all_to
all_suc k test = refl

pub all_at : (k n : ℕ) (test : ℕ → Bool) → all_to k test ≡ true → 1 ≤ n → n ≤ k → test n ≡ true
all_at zero n test all some le = absurd (omega arith)
all_at (suc k) n test all some le =
    let parts = and_parts (all_to k test) (test (suc k)) (sym (all_suc k test) ∙ all) in
    elim (cases_eq n (suc k)) [ inl at ↦ ap test at ∙ parts.1 | inr other ↦ all_at k n test parts.0 some (omega arith) ]

pub all_empty : (k : ℕ) (test : ℕ → Bool) → ((n : ℕ) → 1 ≤ n → n ≤ k → test n ≡ true) → all_to k test ≡ true
all_empty zero test h = all_none test
all_empty (suc k) test h = all_suc k test ∙ and_from _ _ (all_empty k test (λ n some le. h n some (omega arith))) (h (suc k) (omega arith) (omega arith))

pub alike_true : (a b : Bool) → alike a b ≡ true → a ≡ b
alike_true true true h = refl
alike_true true false h = sym h
alike_true false true h = h
alike_true false false h = refl

pub alike_self : (a b : Bool) → a ≡ b → alike a b ≡ true
alike_self true true h = refl
alike_self true false h = sym h
alike_self false true h = h
alike_self false false h = refl

pub has_at : (c : Campaign) (i : ℕ) → i < 64 → has_inverter c (i + 1) ≡ get_or c.inverters i false
has_at c i lt =
    ap (λ t. t && get_or c.inverters (i + 1 - 1) false) (and_from _ _ (le-leb 1 (i + 1) (omega arith)) (le-leb (i + 1) 64 (omega arith))) ∙
    ap (λ k. get_or c.inverters k false) (omega arith)

-- what the comparison with the source's inverters tells

abbrev test : Plant → Campaign → ℕ → Bool
test f c m = alike (f.inverter m) (has_inverter c m)

all_same : (f : Plant) (c : Campaign) → inverter_list f ≡ c.inverters → all_to 64 (test f c) ≡ true
all_same f c e =
    all_empty 64 (test f c)
    (λ n some le. alike_self _ _ (ap f.inverter (let is : n ≡ n - 1 + 1 = omega arith in is) ∙ sym (inverters_at f (n - 1) false (omega arith)) ∙ ap (λ xs. get_or xs (n - 1) false) e ∙ sym (has_at c (n - 1) (omega arith)) ∙ ap (has_inverter c) (let is : n - 1 + 1 ≡ n = omega arith in is)))

same_all : (f : Plant) (c : Campaign) → length c.inverters ≡ 64 → all_to 64 (test f c) ≡ true → c.inverters ≡ inverter_list f
same_all f c long all =
    inverters_are f c.inverters false long
    (λ k under. sym (alike_true _ _ (all_at 64 (k + 1) (test f c) all (omega arith) (omega arith)) ∙ has_at c k under))

pub same_is : (f : Plant) (c : Campaign) (r : Bool) → length c.inverters ≡ 64 → f.buses ≡ c.buses → r ≡ pointwise beq (inverter_list f) c.inverters → r ≡ same f c
same_is f c r long buses e =
    same_from_decides r (all_to 64 (test f c)) (slice_eq-Decides booleans_Decides _ _ r e) (λ all. sym (same_all f c long all), all_same f c) ∙
    ap (λ t. t && all_to 64 (test f c)) (sym (eq-eqb _ _ buses))

-- what a source that matches has
pub same_buses : (f : Plant) (c : Campaign) → same f c ≡ true → f.buses ≡ c.buses
same_buses f c h = eqb-true _ _ (and_parts (eqb f.buses c.buses) (all_to 64 (test f c)) h).0

pub same_inverter : (f : Plant) (c : Campaign) → same f c ≡ true → (m : ℕ) → has_inverter c m ≡ true → f.inverter m ≡ true
same_inverter f c h m has =
    let number = and_parts (leb 1 m) (leb m 64) (and_parts (numbered m) (get_or c.inverters (m - 1) false) has).0 in
    let all = (and_parts (eqb f.buses c.buses) (all_to 64 (test f c)) h).1 in
    alike_true _ _ (all_at 64 m (test f c) all (leb-true _ _ number.0) (leb-true _ _ number.1)) ∙ has

pub outstanding_has : (c : Campaign) (step : Command) → is_outstanding c step ≡ true → has_inverter c step.inverter ≡ true
outstanding_has c step h = (and_parts (is_step c.outstanding step) (has_inverter c step.inverter) h).1

-- a campaign that knows a source and a step was opened on the one, and the other is outstanding
pub known : (p : Plant) (c : Campaign) (step : Command) → Ok tt ≡ withdrawal_of p c step → (same p c ≡ true) × (is_outstanding c step ≡ true)
known p c step h =
    let first = need_ok (same p c) (NotThisCampaign step.inverter) _ tt (sym h) in
    (first.0, (need_ok (is_outstanding c step) (NotThisCampaign step.inverter) _ tt first.1).0)

-- a source that matches does not refuse to withdraw the outstanding step
pub withdraw_stands : (f : Facts) (c : Campaign) (step : Command) (e : SourceFault) → same f.plant c ≡ true → is_outstanding c step ≡ true → Err e ≡ withdraw_of f step.inverter → ⊥
withdraw_stands f c step e match out h =
    let there = same_inverter f.plant c match step.inverter (outstanding_has c step out) in
    let differ : Err e ≡ Ok tt = h ∙ sym (withdraw_accepted f step.inverter there).0 in
    clash cc

-- an inverter of a source that matches is one of the campaign's
pub same_has : (f : Plant) → PlantIsBounded f → (c : Campaign) → same f c ≡ true → (m : ℕ) → f.inverter m ≡ true → has_inverter c m ≡ true
same_has f bounds c h m there =
    let placed = and_parts (leb 1 m) (leb m f.buses) (bounds.placed m there) in
    let all = (and_parts (eqb f.buses c.buses) (all_to 64 (test f c)) h).1 in
    let low = leb-true _ _ placed.0 in
    let high = leb-true _ _ placed.1 in
    sym (alike_true _ _ (all_at 64 m (test f c) all low (omega (arith, high, bounds.few)))) ∙ there
