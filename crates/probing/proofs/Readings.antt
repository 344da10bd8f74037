-- Reading every meter in bus order fills the list of readings, or finds the lowest mute bus.
use Rattle.std.proofs.Common.{◌≡◌, ℕ, zero, suc, ◌+◌, ◌-◌, ◌<◌, ◌≤◌, Bool, true, false, cond, not, ◌&&◌, leb, List, ◌++◌, length, get_or, drop, replicate, ℤ, pos, Some, None, Ok, Err, Option, sym, refl, ap, ◌∙◌, inl, inr, add-one, arith}
use Rattle.std.proofs.lemmas.List.FromFn.{length-map-range_with_len, get_or-map-range_with_len}
use Rattle.std.proofs.lemmas.List.{same_lists, get_or_default, length-replicate, length-append, length-drop, get_or-replicate, get_or-drop, get_or_append_left, get_or-append_right}
use Rattle.std.proofs.lemmas.Bool.{cases_lt, cases_eq, cond-true, cond-false, le-leb, lt-leb, not-true, not-false, and_parts, and_cases, and_from, both_ways}
use Rattle.refusals.specs.Checks.{lacking}
use Rattle.refusals.proofs.Checks.{clash, need_ok, need_err, lacking_ok}
use Rattle.probing.specs.declared.fault.SourceFault.{SourceFault}
use Rattle.probing.specs.declared.fault.SourceFault.TheVariants.{Unreadable}
use Rattle.probing.specs.Facts.{Facts, metered, voltage}
use Rattle.probing.specs.Answers.{lowest, per_bus, read_of, read_all_of}

-- what stands of a list in the making after i places: g at each place before, and 0 from there on
pub record Filled (g : ℕ → ℤ) (i : ℕ) (xs : List ℤ) : Type 0 where
  pub long : length xs ≡ 64
  pub told : (k : ℕ) → k < i → get_or xs k (pos 0) ≡ g (k + 1)
  pub rest : (k : ℕ) → i ≤ k → k < 64 → get_or xs k (pos 0) ≡ pos 0

per_bus_at : (last : ℕ) (g : ℕ → ℤ) (k : ℕ) (d : ℤ) → k < 64 → get_or (per_bus last g) k d ≡ cond (leb (k + 1) last) (g (k + 1)) (pos 0)
unfolding per_bus
per_bus_at last g k d lt = get_or-map-range_with_len (λ n. cond (leb n last) (g n) (pos 0)) 1 64 k (k + 1) d lt (omega arith)

pub per_bus_length : (last : ℕ) (g : ℕ → ℤ) → length (per_bus last g) ≡ 64
unfolding per_bus
per_bus_length last g = length-map-range_with_len (λ n. cond (leb n last) (g n) (pos 0)) 1 64

-- at a metered bus
pub per_bus_metered : (last : ℕ) (g : ℕ → ℤ) (k : ℕ) (d : ℤ) → k < 64 → k < last → get_or (per_bus last g) k d ≡ g (k + 1)
per_bus_metered last g k d lt under = per_bus_at last g k d lt ∙ cond-true _ _ _ (le-leb (k + 1) last (omega arith))

pub per_bus_outside : (last : ℕ) (g : ℕ → ℤ) (k : ℕ) (d : ℤ) → k < 64 → last ≤ k → get_or (per_bus last g) k d ≡ pos 0
per_bus_outside last g k d lt over = per_bus_at last g k d lt ∙ cond-false _ _ _ (lt-leb (k + 1) last (omega arith))

-- a list that is filled to the last metered bus
pub filled_all : (last : ℕ) (g : ℕ → ℤ) (xs : List ℤ) → last ≤ 64 → Filled g last xs → xs ≡ per_bus last g
filled_all last g xs few h =
    same_lists xs (per_bus last g) (h.long ∙ sym (per_bus_length last g))
    (λ k d lt. get_or_default xs k d (pos 0) lt ∙
    let under : k < 64 = omega (arith, h.long) in
    elim (cases_lt k last) [
      | inl metered ↦ h.told k metered ∙ sym (per_bus_metered last g k d under metered)
      | inr past ↦ h.rest k past under ∙ sym (per_bus_outside last g k d under past)
    ])

-- voltages to the last metered bus, before what is left of 64 zeros
pub filled_before : (last : ℕ) (g : ℕ → ℤ) (xs : List ℤ) → last ≤ 64 → length xs ≡ last → ((k : ℕ) → k < last → get_or xs k (pos 0) ≡ g (k + 1)) → xs ++ drop last (replicate 64 (pos 0)) ≡ per_bus last g
filled_before last g xs few long told =
    filled_all last g (xs ++ behind) few
    record {
      long = omega (arith, long, few, length-append xs behind, length-drop last zeros, length-replicate 64 (pos 0));
      told = λ k under. get_or_append_left xs behind (pos 0) k (omega (arith, long)) ∙ told k under;
      rest = λ k past under. get_or-append_right xs behind last k (pos 0) long past ∙ get_or-drop last zeros (k - last) (pos 0) ∙ get_or-replicate 64 (last + (k - last)) (pos 0) (pos 0) (omega arith);
    }
  where
    zeros : List ℤ
    zeros = replicate 64 (pos 0)

    behind : List ℤ
    behind = drop last zeros

-- the lowest that passes

pub lowest_none : (test : ℕ → Bool) → lowest 0 test ≡ None
unfolding lowest
lowest_none test = refl

lowest_suc_none : (i : ℕ) (test : ℕ → Bool) → lowest i test ≡ None → lowest (suc i) test ≡ cond (test (suc i)) (Some (suc i)) None
unfolding lowest
lowest_suc_none i test e = rw e refl

lowest_suc_some : (i n : ℕ) (test : ℕ → Bool) → lowest i test ≡ Some n → lowest (suc i) test ≡ Some n
unfolding lowest
lowest_suc_some i n test e = rw e refl

pub lowest_more : (i : ℕ) (test : ℕ → Bool) → lowest i test ≡ None → test (i + 1) ≡ false → lowest (i + 1) test ≡ None
lowest_more i test e f = ap (λ k. lowest k test) (add-one i) ∙ lowest_suc_none i test e ∙ cond-false _ _ _ (ap test (sym (add-one i)) ∙ f)

pub lowest_here : (i : ℕ) (test : ℕ → Bool) → lowest i test ≡ None → test (i + 1) ≡ true → lowest (i + 1) test ≡ Some (i + 1)
lowest_here i test e t =
    ap (λ k. lowest k test) (add-one i) ∙ lowest_suc_none i test e ∙ cond-true _ _ _ (ap test (sym (add-one i)) ∙ t) ∙ ap Some (sym (add-one i))

-- once found it stays
pub lowest_stays : (a b n : ℕ) (test : ℕ → Bool) → a ≤ b → lowest a test ≡ Some n → lowest b test ≡ Some n
lowest_stays a zero n test le e = ap (λ k. lowest k test) (omega arith) ∙ e
lowest_stays a (suc b) n test le e =
    elim (cases_eq a (suc b)) [
      | inl same ↦ ap (λ k. lowest k test) (sym same) ∙ e
      | inr other ↦ lowest_suc_some b n test (lowest_stays a b n test (omega arith) e)
    ]

-- what one reading tells

pub read_live : (f : Facts) (n : ℕ) (v : ℤ) → Ok v ≡ read_of f n → (f.plant.mute n ≡ false) × (v ≡ voltage f n)
read_live f n v h =
    let told = need_ok (metered f.plant n && not (f.plant.mute n)) (Unreadable n) (Ok (voltage f n)) v (sym h) in
    (not-true _ (and_parts (metered f.plant n) (not (f.plant.mute n)) told.0).1, let is = told.1 in cc)

pub read_mute : (f : Facts) (n : ℕ) (e : SourceFault) → metered f.plant n ≡ true → Err e ≡ read_of f n → (f.plant.mute n ≡ true) × (e ≡ Unreadable n)
read_mute f n e m h =
    elim (need_err (metered f.plant n && not (f.plant.mute n)) (Unreadable n) (Ok (voltage f n)) e (sym h)) [
      | inl deaf ↦ (elim (and_cases (metered f.plant n) (not (f.plant.mute n)) deaf.0) [ inl none ↦ absurd (both_ways (metered f.plant n) none m) | inr mute ↦ not-false _ mute ], sym deaf.1)
      | inr live ↦ clash (let is = live.1 in cc)
    ]

pub metered_here : (f : Facts) (i : ℕ) → i < f.plant.buses → metered f.plant (i + 1) ≡ true
metered_here f i lt = and_from _ _ (le-leb 1 (i + 1) (omega arith)) (le-leb (i + 1) f.plant.buses (omega arith))

-- reading all: the end of the loop, and its way out
pub read_all_live : (f : Facts) (xs : List ℤ) → xs ≡ per_bus f.plant.buses (voltage f) → lowest f.plant.buses f.plant.mute ≡ None → Ok xs ≡ read_all_of f
read_all_live f xs is none = ap Ok is ∙ ap (λ o. lacking o Unreadable (Ok (per_bus f.plant.buses (voltage f)))) (sym none)

pub read_all_mute : (f : Facts) (i : ℕ) (e : SourceFault) → i < f.plant.buses → lowest i f.plant.mute ≡ None → Err e ≡ read_of f (i + 1) → Err e ≡ read_all_of f
read_all_mute f i e lt none h =
    let told = read_mute f (i + 1) e (metered_here f i lt) h in
    let found = lowest_stays (i + 1) f.plant.buses (i + 1) f.plant.mute (omega arith) (lowest_here i f.plant.mute none told.0) in
    ap Err told.1 ∙ ap (λ o. lacking o Unreadable (Ok (per_bus f.plant.buses (voltage f)))) (sym found)

-- what the readings are
pub read_heard : (f : Facts) (xs : List ℤ) → Ok xs ≡ read_all_of f → (lowest f.plant.buses f.plant.mute ≡ None) × (xs ≡ per_bus f.plant.buses (voltage f))
read_heard f xs h =
    let told = lacking_ok (lowest f.plant.buses f.plant.mute) Unreadable (Ok (per_bus f.plant.buses (voltage f))) xs (sym h) in
    (told.0, let is = told.1 in cc)

same_on : (k : ℕ) (test test' : ℕ → Bool) → lowest k test ≡ lowest k test' → test (suc k) ≡ test' (suc k) → (o : Option ℕ) → lowest k test ≡ o → lowest (suc k) test ≡ lowest (suc k) test'
same_on k test test' before here None e =
    lowest_suc_none k test e ∙ ap (λ t. cond t (Some (suc k)) None) here ∙ sym (lowest_suc_none k test' (sym before ∙ e))
same_on k test test' before here (Some n) e = lowest_suc_some k n test e ∙ sym (lowest_suc_some k n test' (sym before ∙ e))

-- the same test on 1 to k finds the same
pub lowest_same : (k : ℕ) (test test' : ℕ → Bool) → ((n : ℕ) → 1 ≤ n → n ≤ k → test n ≡ test' n) → lowest k test ≡ lowest k test'
lowest_same zero test test' h = lowest_none test ∙ sym (lowest_none test')
lowest_same (suc k) test test' h =
    same_on k test test' (lowest_same k test test' (λ n some le. h n some (omega arith))) (h (suc k) (omega arith) (omega arith)) (lowest k test) refl

cond_none : (t : Bool) (n : ℕ) → cond t (Some n) None ≡ None → t ≡ false
cond_none true n h = absurd (let z : ◌≡◌ {A = ℕ} 0 1 = cc in omega arith)
cond_none false n h = refl

none_before : (k : ℕ) (test : ℕ → Bool) → lowest (suc k) test ≡ None → (o : Option ℕ) → lowest k test ≡ o → o ≡ None
none_before k test e None is = refl
none_before k test e (Some m) is = sym (lowest_suc_some k m test is) ∙ e

-- what is not found is not there
pub lowest_fails : (k n : ℕ) (test : ℕ → Bool) → lowest k test ≡ None → 1 ≤ n → n ≤ k → test n ≡ false
lowest_fails zero n test e some le = absurd (omega arith)
lowest_fails (suc k) n test e some le =
    let none = none_before k test e (lowest k test) refl in
    elim (cases_eq n (suc k)) [
      | inl at ↦ ap test at ∙ cond_none (test (suc k)) (suc k) (sym (lowest_suc_none k test none) ∙ e)
      | inr other ↦ lowest_fails k n test none some (omega arith)
    ]

-- what nothing passes finds nothing
pub lowest_empty : (k : ℕ) (test : ℕ → Bool) → ((n : ℕ) → 1 ≤ n → n ≤ k → test n ≡ false) → lowest k test ≡ None
lowest_empty zero test h = lowest_none test
lowest_empty (suc k) test h =
    lowest_suc_none k test (lowest_empty k test (λ n some le. h n some (omega arith))) ∙ cond-false _ _ _ (h (suc k) (omega arith) (omega arith))

-- two lists that agree at each bus
pub per_bus_same : (last : ℕ) (g g' : ℕ → ℤ) → ((n : ℕ) → 1 ≤ n → n ≤ last → g n ≡ g' n) → per_bus last g ≡ per_bus last g'
per_bus_same last g g' h =
    same_lists (per_bus last g) (per_bus last g') (per_bus_length last g ∙ sym (per_bus_length last g'))
    (λ k d lt.
    let under : k < 64 = omega (arith, per_bus_length last g) in
    elim (cases_lt k last) [
      | inl metered ↦ per_bus_metered last g k d under metered ∙ h (k + 1) (omega arith) (omega arith) ∙ sym (per_bus_metered last g' k d under metered)
      | inr past ↦ per_bus_outside last g k d under past ∙ sym (per_bus_outside last g' k d under past)
    ])

-- what the list has for bus n
pub per_bus_of : (last : ℕ) (g : ℕ → ℤ) (n : ℕ) → last ≤ 64 → 1 ≤ n → n ≤ last → get_or (per_bus last g) (n - 1) (pos 0) ≡ g n
per_bus_of last g n few some le = per_bus_metered last g (n - 1) (pos 0) (omega arith) (omega arith) ∙ ap g (omega arith)
