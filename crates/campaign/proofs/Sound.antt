-- What facts and campaign are behind every history.
use Rattle.std.proofs.Common.{◌≡◌, ℕ, zero, suc, ◌-◌, ◌≤◌, Bool, true, false, ◌||◌, eqb, leb, List, ◌∷◌, length, get_or, replicate, ℤ, pos, ◌-ℤ◌, ◌*ℤ◌, nat_abs, is_some, Some, None, Ok, Err, Option, Result, sym, refl, ap, ◌∙◌, subst, inl, inr, arith, length-set, get_or-set_other, get_or-set_same}
use Rattle.std.proofs.lemmas.List.{length-replicate}
use Rattle.std.proofs.lemmas.Int.{ints}
use Rattle.std.proofs.lemmas.Bool.{cases_eq, and_parts, and_from, leb-true, eqb-true, or_cases, false≢true, both_ways}
use Rattle.units.specs.Quotients.{response_of}
use Rattle.probing.specs.declared.fault.SourceFault.{SourceFault}
use Rattle.probing.specs.Facts.{Plant, Facts, IsBounded, metered, voltage, with_settings, with_setting}
use Rattle.refusals.proofs.Checks.{clash, need_ok, lacking_ok, after_ok}
use Rattle.probing.specs.Answers.{per_bus, admissible, read_all_of, command_of}
use Rattle.probing.proofs.Readings.{per_bus_of}
use Rattle.probing.proofs.Voltages.{setting_back, voltage_moved}
use Rattle.probing.proofs.Probes.{command_accepted}
use Rattle.campaign.specs.declared.fault.CampaignFault.{CampaignFault}
use Rattle.campaign.specs.declared.fault.CampaignFault.TheVariants.{StepOutstanding, NotThisCampaign}
use Rattle.campaign.specs.declared.fault.CampaignRefusal.{CampaignRefusal}
use Rattle.campaign.specs.declared.state.Campaign.{Campaign}
use Rattle.campaign.specs.declared.steps.Command.{Command}
use Rattle.campaign.specs.declared.steps.Step.{Step}
use Rattle.campaign.specs.declared.steps.Fresh.{Fresh}
use Rattle.campaign.specs.declared.steps.Collected.{Collected}
use Rattle.campaign.specs.Columns.{numbered, has_inverter, same, is_step, is_outstanding, blank, column_of, present, entry_in, entry}
use Rattle.campaign.specs.Relations.{command, step_of, inverter_list, no_columns, opening_of, from_source, naming, handing_back, commence_of, commenced, Commences, or_zero, quotients, change_of, collect_of, collected, collection_of, Collects, withdrawal_of, ended, Withdraws}
use Rattle.campaign.specs.History.{Crew, Call, Calls, commencing, collecting, withdrawing, drawing, outstanding, collected_for, Happens, History, opened, called}
use Rattle.campaign.specs.Law.{settings_with}
use Rattle.campaign.proofs.Lists.{outstanding_has}
use Rattle.campaign.proofs.Quotients.{divided_back}

-- What an accepted call tells.

ok_same : {T E F : Type 0} (x y : T) → ◌≡◌ {A = Result T E} (Ok x) (Ok y) → ◌≡◌ {A = Result T F} (Ok x) (Ok y)
ok_same x y h = ap Ok (let is : x ≡ y = cc in is)

named : {T : Type 0} (m : ℕ) (r : Result T CampaignFault) (x : T) → Ok x ≡ naming m r → r ≡ Ok x
named m (Ok y) x h = sym (ok_same x y h)
named m (Err e) x h = clash (let z = h in cc)

handed : {S T : Type 0} (step : S) (r : Result T CampaignRefusal) (x : T) → Ok x ≡ handing_back step r → Ok x ≡ r
handed step (Ok y) x h = ok_same x y h
handed step (Err e) x h = clash (let z = h in cc)

sourced : {T : Type 0} (r : Result T SourceFault) (x : T) → from_source r ≡ Ok x → r ≡ Ok x
sourced (Ok y) x h = ok_same y x h
sourced (Err e) x h = clash (let z = h in cc)

pub none_from : {A : Type 0} (o : Option A) → is_some o ≡ false → o ≡ None
none_from None h = refl
none_from (Some x) h = absurd (false≢true (sym h))

pub record Commencing (f : Facts) (c : Campaign) (m : ℕ) (size : ℤ) : Type 0 where
  pub match : same f.plant c ≡ true
  pub free : c.outstanding ≡ None
  pub readings : List ℤ
  pub read : Ok readings ≡ read_all_of f
  pub command : Ok tt ≡ command_of f m size

-- and the step that it hands out
pub commencing_of : (f : Facts) (c : Campaign) (m : ℕ) (size : ℤ) (x : Step Fresh) → Ok x ≡ naming m (commence_of f c m size) → Commencing f c m size × (x ≡ step_of (command m size))
commencing_of f c m size x h =
    let first = need_ok (same f.plant c) (NotThisCampaign m) _ x (named m (commence_of f c m size) x h) in
    let second = lacking_ok c.outstanding (λ (step : Command). StepOutstanding step.inverter) _ x first.1 in
    let reading = after_ok (read_all_of f) _ x (sourced _ x second.1) in
    let commanding = after_ok (command_of f m size) _ x reading.2 in (
      record { match = first.0; free = second.0; readings = reading.0; read = sym reading.1; command = sym commanding.1 },
      let given = commanding.2 in cc,
    )

pub commence_accepted : (f : Facts) (c : Campaign) (m : ℕ) (size : ℤ) (x : Step Fresh) → Ok x ≡ naming m (commence_of f c m size) → Commencing f c m size
commence_accepted f c m size x h = (commencing_of f c m size x h).0

pub commence_gives : (f : Facts) (c : Campaign) (m : ℕ) (size : ℤ) (x : Step Fresh) → Ok x ≡ naming m (commence_of f c m size) → x ≡ step_of (command m size)
commence_gives f c m size x h = (commencing_of f c m size x h).1

same_size : (a b : ℤ) → nat_abs (a -ℤ b) ≡ 0 → a ≡ b
same_size a b h = omega (arith, ints)

step_is : (o : Option Command) (step : Command) → is_step o step ≡ true → o ≡ Some step
step_is None step h = absurd (false≢true h)
step_is (Some handed) step h =
    let parts = and_parts (eqb handed.inverter step.inverter) (eqb (nat_abs (handed.size -ℤ step.size)) 0) h in
    let inverter = eqb-true _ _ parts.0 in
    let sized = same_size _ _ (eqb-true _ _ parts.1) in
    ap (λ k. Some (command k handed.size)) inverter ∙ ap (λ z. Some (command step.inverter z)) sized

pub outstanding_is : (c : Campaign) (step : Command) → is_outstanding c step ≡ true → c.outstanding ≡ Some step
outstanding_is c step h = step_is c.outstanding step (and_parts (is_step c.outstanding step) (has_inverter c step.inverter) h).0

pub record Collecting (p : Plant) (c : Campaign) (known : Command) : Type 0 where
  pub match : same p c ≡ true
  pub step : is_outstanding c known ≡ true

pub collect_accepted : (f : Facts) (c : Campaign) (step : Step Fresh) (x : Step Collected) →
    Ok x ≡ handing_back step (naming step.command.inverter (collection_of f c step.command)) → Collecting f.plant c step.command
collect_accepted f c step x h =
    let divided = after_ok (collect_of f c step.command) _ x (named step.command.inverter (collection_of f c step.command) x (handed step _ x h)) in
    let first = need_ok (same f.plant c) (NotThisCampaign step.command.inverter) _ divided.0 divided.1 in
    let second = need_ok (is_outstanding c step.command) (NotThisCampaign step.command.inverter) _ divided.0 first.1 in
    record { match = first.0; step = second.0 }

pub withdraw_accepted : (p : Plant) (c : Campaign) (step : Command) (x : Unit {0}) → Ok x ≡ naming step.inverter (withdrawal_of p c step) → Collecting p c step
withdraw_accepted p c step x h =
    let first = need_ok (same p c) (NotThisCampaign step.inverter) _ x (named step.inverter (withdrawal_of p c step) x h) in
    let second = need_ok (is_outstanding c step) (NotThisCampaign step.inverter) _ x first.1 in
    record { match = first.0; step = second.0 }

-- Facts and campaign of a history, given its outstanding step and the inverters that it collected for.

-- the outstanding step was commanded on the facts of the opening, whose readings are kept
pub record Pending (f₀ : Facts) (c : Campaign) (m : ℕ) (size : ℤ) : Type 0 where
  pub there : f₀.plant.inverter m ≡ true
  pub still : f₀.state.setting m ≡ pos 0
  pub some : size ≡ pos 0 → ⊥
  pub before : c.before ≡ per_bus f₀.plant.buses (voltage f₀)

pub record Sound (f₀ : Facts) (o : Option Command) (got : ℕ → Bool) (f : Facts) (c : Campaign) : Type 0 where
  pub facts : f ≡ with_settings f₀ (settings_with f₀.state.setting o)
  pub remembers : c.outstanding ≡ o
  pub buses : c.buses ≡ f₀.plant.buses
  pub inverters : c.inverters ≡ inverter_list f₀.plant
  pub long : length c.columns ≡ 64
  pub pending : (m : ℕ) (size : ℤ) → o ≡ Some (command m size) → Pending f₀ c m size
  pub columns : (m : ℕ) → present c m ≡ true → (f₀.plant.inverter m ≡ true) × ((n : ℕ) → metered f₀.plant n ≡ true → entry c n m ≡ f₀.plant.response n m)
  pub collected : (m : ℕ) → got m ≡ true → present c m ≡ true

pub stay : {f₀ : Facts} {o : Option Command} {got : ℕ → Bool} {f f' : Facts} {c c' : Campaign} → Sound f₀ o got f c → f' ≡ f → c' ≡ c → Sound f₀ o got f' c'
stay {f₀} {o} {got} {f} {f'} {c} {c'} h ef ec = subst (λ x. Sound f₀ o got x c') (sym ef) (subst (λ x. Sound f₀ o got f x) (sym ec) h)

-- the opening

all_blank : (n k : ℕ) → is_some (get_or (replicate n blank) k blank) ≡ false
all_blank zero k = refl
all_blank (suc n) zero = refl
all_blank (suc n) (suc k) = all_blank n k

no_column : (m : ℕ) → is_some (get_or no_columns (m - 1) blank) ≡ false
unfolding no_columns
no_column m = all_blank 64 (m - 1)

no_columns_long : length no_columns ≡ 64
unfolding no_columns
no_columns_long = length-replicate 64 blank

pub start : (f₀ : Facts) → Sound f₀ None (λ _. false) f₀ (opening_of f₀.plant)
start f₀ =
    record {
      facts = refl;
      remembers = refl;
      buses = refl;
      inverters = refl;
      long = no_columns_long;
      pending = λ m size e. absurd (let z : ◌≡◌ {A = ℕ} 0 1 = cc in omega arith);
      columns = λ m h. absurd (both_ways _ (no_column m) (and_parts (numbered m) (is_some (column_of (opening_of f₀.plant) m)) h).1);
      collected = λ m h. absurd (false≢true h);
    }

-- an accepted commencing

pub nonzero : (size : ℤ) → admissible size ≡ true → size ≡ pos 0 → ⊥
nonzero size h e = let one = leb-true _ _ (and_parts (leb 1 (nat_abs size)) (leb (nat_abs size) 1000) h).0 in omega (arith, ints, one)

abbrev at : ℕ → ℤ → Option Command
at m size = Some (command m size)

abbrev inverter_of : Option Command → ℕ
inverter_of None = 0
inverter_of (Some step) = step.inverter

abbrev size_of : Option Command → ℤ
size_of None = pos 0
size_of (Some step) = step.size

pend : (f₀ : Facts) (c : Campaign) (m : ℕ) (size : ℤ) → Pending f₀ c m size → (m' : ℕ) (size' : ℤ) → at m size ≡ at m' size' → Pending f₀ c m' size'
pend f₀ c m size p m' size' e = subst (λ z. Pending f₀ c m' z) (ap size_of e) (subst (λ k. Pending f₀ c k size) (ap inverter_of e) p)

commences : (f₀ : Facts) (got : ℕ → Bool) (c : Campaign) (m : ℕ) (size : ℤ) → Commencing f₀ c m size → Sound f₀ None got f₀ c → Sound f₀ (at m size) got (with_setting f₀ m size) (commenced f₀ c m size)
commences f₀ got c m size ok h =
    let allowed = command_accepted f₀ m size ok.command in
    let p : Pending f₀ (commenced f₀ c m size) m size = record { there = allowed.there; still = allowed.still; some = nonzero size allowed.small; before = refl } in
    record {
      facts = refl;
      remembers = refl;
      buses = h.buses;
      inverters = h.inverters;
      long = h.long;
      pending = pend f₀ (commenced f₀ c m size) m size p;
      columns = h.columns;
      collected = h.collected;
    }

-- an accepted withdrawing

withdraws : (f₀ : Facts) (got : ℕ → Bool) (c : Campaign) (m : ℕ) (size : ℤ) → Sound f₀ (at m size) got (with_setting f₀ m size) c → Sound f₀ None got (with_setting (with_setting f₀ m size) m (pos 0)) (ended c)
withdraws f₀ got c m size h =
    record {
      facts = setting_back f₀ m size (h.pending m size refl).still;
      remembers = refl;
      buses = h.buses;
      inverters = h.inverters;
      long = h.long;
      pending = λ m size e. absurd (let z : ◌≡◌ {A = ℕ} 0 1 = cc in omega arith);
      columns = h.columns;
      collected = h.collected;
    }

-- an accepted collection

numbered_parts : (m : ℕ) → numbered m ≡ true → (1 ≤ m) × (m ≤ 64)
numbered_parts m h = let parts = and_parts (leb 1 m) (leb m 64) h in (leb-true _ _ parts.0, leb-true _ _ parts.1)

column_here : (c : Campaign) (m : ℕ) (responses : List ℤ) → length c.columns ≡ 64 → numbered m ≡ true → column_of (collected c m responses) m ≡ Some (record { responses = responses })
column_here c m responses long number =
    let within = numbered_parts m number in
    get_or-set_same c.columns (m - 1) (Some (record { responses = responses })) blank (omega (arith, long, within.0, within.1))

column_there : (c : Campaign) (m k : ℕ) (responses : List ℤ) → numbered m ≡ true → numbered k ≡ true → (k ≡ m → ⊥) → column_of (collected c m responses) k ≡ column_of c k
column_there c m k responses number number' other =
    let within = numbered_parts m number in
    let within' = numbered_parts k number' in
    get_or-set_other c.columns (m - 1) (k - 1) (Some (record { responses = responses })) blank (λ e. other (omega (arith, within.0, within'.0, e)))

-- the change at each bus is its response times the step, and the quotient its response
pub change_is : (f₀ : Facts) → IsBounded f₀ → (c : Campaign) (m : ℕ) (size : ℤ) → Pending f₀ c m size → (n : ℕ) → metered f₀.plant n ≡ true → change_of (with_setting f₀ m size) c n ≡ f₀.plant.response n m *ℤ size
change_is f₀ bounds c m size p n here =
    let parts = and_parts (leb 1 n) (leb n f₀.plant.buses) here in
    let was = ap (λ xs. get_or xs (n - 1) (pos 0)) p.before ∙ per_bus_of f₀.plant.buses (voltage f₀) n bounds.plant.few (leb-true _ _ parts.0) (leb-true _ _ parts.1) in
    let moved = voltage_moved f₀ bounds m size n p.there p.still in
    omega (arith, ints, was, moved)

quotient_is : (f₀ : Facts) → IsBounded f₀ → (c : Campaign) (m : ℕ) (size : ℤ) → Pending f₀ c m size → (n : ℕ) → metered f₀.plant n ≡ true → or_zero (response_of (change_of (with_setting f₀ m size) c n) size) ≡ f₀.plant.response n m
quotient_is f₀ bounds c m size p n here =
    ap (λ z. or_zero (response_of z size)) (change_is f₀ bounds c m size p n here) ∙ ap or_zero (divided_back (f₀.plant.response n m) size p.some (bounds.plant.responses n m))

abbrev column : Facts → Campaign → ℕ → ℤ → List ℤ
column f₀ c m size = quotients f₀.plant.buses (change_of (with_setting f₀ m size) c) size

present_here : (f₀ : Facts) (c : Campaign) (m : ℕ) (size : ℤ) → length c.columns ≡ 64 → numbered m ≡ true → present (collected c m (column f₀ c m size)) m ≡ true
present_here f₀ c m size long number = and_from _ _ number (ap (λ col. is_some col) (column_here c m (column f₀ c m size) long number))

entry_here : (f₀ : Facts) → IsBounded f₀ → (c : Campaign) (m : ℕ) (size : ℤ) → length c.columns ≡ 64 → numbered m ≡ true → Pending f₀ c m size → (n : ℕ) → metered f₀.plant n ≡ true → entry (collected c m (column f₀ c m size)) n m ≡ f₀.plant.response n m
entry_here f₀ bounds c m size long number p n here =
    let parts = and_parts (leb 1 n) (leb n f₀.plant.buses) here in
    ap (λ col. entry_in col n) (column_here c m (column f₀ c m size) long number) ∙
    per_bus_of f₀.plant.buses (λ k. or_zero (response_of (change_of (with_setting f₀ m size) c k) size)) n bounds.plant.few (leb-true _ _ parts.0) (leb-true _ _ parts.1) ∙
    quotient_is f₀ bounds c m size p n here

collects_columns : (f₀ : Facts) → IsBounded f₀ → (got : ℕ → Bool) (c : Campaign) (m : ℕ) (size : ℤ) → numbered m ≡ true → Sound f₀ (at m size) got (with_setting f₀ m size) c → (k : ℕ) → present (collected c m (column f₀ c m size)) k ≡ true → (f₀.plant.inverter k ≡ true) × ((n : ℕ) → metered f₀.plant n ≡ true → entry (collected c m (column f₀ c m size)) n k ≡ f₀.plant.response n k)
collects_columns f₀ bounds got c m size number h k there =
    elim (cases_eq k m) [
      | inl same ↦ subst (λ j. (f₀.plant.inverter j ≡ true) × ((n : ℕ) → metered f₀.plant n ≡ true → entry (collected c m (column f₀ c m size)) n j ≡ f₀.plant.response n j)) (sym same)
          ((h.pending m size refl).there, entry_here f₀ bounds c m size h.long number (h.pending m size refl))
      | inr other ↦
          let parts = and_parts (numbered k) (is_some (column_of (collected c m (column f₀ c m size)) k)) there in
          let is = column_there c m k (column f₀ c m size) number parts.0 other in
          let old = h.columns k (and_from _ _ parts.0 (ap (λ col. is_some col) (sym is) ∙ parts.1)) in
          (old.0, λ n here. ap (λ col. entry_in col n) is ∙ old.1 n here)
    ]

collects_present : (f₀ : Facts) (got : ℕ → Bool) (c : Campaign) (m : ℕ) (size : ℤ) → numbered m ≡ true → Sound f₀ (at m size) got (with_setting f₀ m size) c → (k : ℕ) → (eqb m k || got k) ≡ true → present (collected c m (column f₀ c m size)) k ≡ true
collects_present f₀ got c m size number h k have =
    elim (cases_eq k m) [
      | inl same ↦ subst (λ j. present (collected c m (column f₀ c m size)) j ≡ true) (sym same) (present_here f₀ c m size h.long number)
      | inr other ↦
          let before : got k ≡ true = elim (or_cases (eqb m k) (got k) have) [ inl e ↦ absurd (other (sym (eqb-true _ _ e))) | inr e ↦ e ] in
          let parts = and_parts (numbered k) (is_some (column_of c k)) (h.collected k before) in
          and_from _ _ parts.0 (ap (λ col. is_some col) (column_there c m k (column f₀ c m size) number parts.0 other) ∙ parts.1)
    ]

keeps : {f₀ : Facts} {c : Campaign} (m : ℕ) (size : ℤ) (k : ℕ) (responses : List ℤ) → Pending f₀ c m size → Pending f₀ (collected c k responses) m size
keeps m size k responses p = record { there = p.there; still = p.still; some = p.some; before = p.before }

collects_one : (f₀ : Facts) → IsBounded f₀ → (got : ℕ → Bool) (c : Campaign) (m : ℕ) (size : ℤ) → numbered m ≡ true → Sound f₀ (at m size) got (with_setting f₀ m size) c → Sound f₀ (at m size) (λ k. eqb m k || got k) (with_setting f₀ m size) (collected c m (column f₀ c m size))
collects_one f₀ bounds got c m size number h =
    record {
      facts = h.facts;
      remembers = h.remembers;
      buses = h.buses;
      inverters = h.inverters;
      long = length-set c.columns (m - 1) (Some (record { responses = column f₀ c m size })) ∙ h.long;
      pending = λ m' size' e. keeps m' size' m (column f₀ c m size) (h.pending m' size' e);
      columns = collects_columns f₀ bounds got c m size number h;
      collected = collects_present f₀ got c m size number h;
    }

-- One more call.

-- where nothing is outstanding the facts are those of the opening
free_facts : {f₀ : Facts} {o : Option Command} {got : ℕ → Bool} {f : Facts} {c : Campaign} → Sound f₀ o got f c → c.outstanding ≡ None → (o ≡ None) × (f ≡ f₀)
free_facts {f₀} h free = let none = sym h.remembers ∙ free in (none, h.facts ∙ ap (λ p. with_settings f₀ (settings_with f₀.state.setting p)) none)

-- where a step is outstanding they are those with its setting
step_facts : {f₀ : Facts} {o : Option Command} {got : ℕ → Bool} {f : Facts} {c : Campaign} (m : ℕ) (size : ℤ) → Sound f₀ o got f c → is_outstanding c (command m size) ≡ true → (o ≡ at m size) × (f ≡ with_setting f₀ m size)
step_facts {f₀} {o} {got} {f} {c} m size h step =
    let is = sym h.remembers ∙ outstanding_is c (command m size) step in
    (is, h.facts ∙ ap (λ p. with_settings f₀ (settings_with f₀.state.setting p)) is)

after_commencing : (f₀ : Facts) (o : Option Command) (got : ℕ → Bool) (f f' : Facts) (c c' : Campaign) (m : ℕ) (size : ℤ) (x : Step Fresh) → Commences f c m size (Ok x) f' c' → Sound f₀ o got f c → Sound f₀ (at m size) got f' c'
after_commencing f₀ o got f f' c c' m size x r h =
    let ok = commence_accepted f c m size x r.answers in
    let free = free_facts h ok.free in
    let h₀ : Sound f₀ None got f₀ c = subst (λ p. Sound f₀ p got f₀ c) free.0 (subst (λ g. Sound f₀ o got g c) free.1 h) in
    let ok₀ : Commencing f₀ c m size = subst (λ g. Commencing g c m size) free.1 ok in
    stay (commences f₀ got c m size ok₀ h₀) (r.source ∙ ap (λ g. with_setting g m size) free.1) (r.campaign ∙ ap (λ g. commenced g c m size) free.1)

after_collecting : (f₀ : Facts) → IsBounded f₀ → (o : Option Command) (got : ℕ → Bool) (f f' : Facts) (c c' : Campaign) (step : Step Fresh) (x : Step Collected) → Collects f c step (Ok x) f' c' → Sound f₀ o got f c → Sound f₀ o (λ k. eqb step.command.inverter k || got k) f' c'
after_collecting f₀ bounds o got f f' c c' step x r h =
    let m = step.command.inverter in
    let size = step.command.size in
    let ok = collect_accepted f c step x r.answers in
    let number = (and_parts (numbered m) (get_or c.inverters (m - 1) false) (outstanding_has c step.command ok.step)).0 in
    let is = step_facts m size h ok.step in
    let h₁ : Sound f₀ (at m size) got (with_setting f₀ m size) c = subst (λ p. Sound f₀ p got (with_setting f₀ m size) c) is.0 (subst (λ g. Sound f₀ o got g c) is.1 h) in
    subst (λ p. Sound f₀ p (λ k. eqb m k || got k) f' c') (sym is.0)
    (stay (collects_one f₀ bounds got c m size number h₁) (r.source ∙ is.1) (r.campaign ∙ ap (λ (g : Facts). collected c m (quotients g.plant.buses (change_of g c) size)) is.1))

after_withdrawing : (f₀ : Facts) (o : Option Command) (got : ℕ → Bool) (f f' : Facts) (c c' : Campaign) (step : Command) (x : Unit {0}) → Withdraws f c step (Ok x) f' c' → Sound f₀ o got f c → Sound f₀ None got f' c'
after_withdrawing f₀ o got f f' c c' step x r h =
    let m = step.inverter in
    let size = step.size in
    let ok = withdraw_accepted f.plant c step x r.answers in
    let is = step_facts m size h ok.step in
    let h₁ : Sound f₀ (at m size) got (with_setting f₀ m size) c = subst (λ p. Sound f₀ p got (with_setting f₀ m size) c) is.0 (subst (λ g. Sound f₀ o got g c) is.1 h) in
    stay (withdraws f₀ got c m size h₁) (r.source ∙ ap (λ g. with_setting g m (pos 0)) is.1) r.campaign

one_more : (f₀ : Facts) → IsBounded f₀ → (calls : Calls) (f f' : Facts) (c c' : Campaign) (crew : Crew) (call : Call) → Happens call f c f' c' → Sound f₀ (outstanding calls) (λ k. collected_for k calls) f c → Sound f₀ (outstanding ((crew, call) ∷ calls)) (λ k. collected_for k ((crew, call) ∷ calls)) f' c'
one_more f₀ bounds calls f f' c c' crew (commencing m size (Ok x)) r h = after_commencing f₀ _ _ f f' c c' m size x r h
one_more f₀ bounds calls f f' c c' crew (commencing m size (Err e)) r h = stay h r.source r.campaign
one_more f₀ bounds calls f f' c c' crew (collecting step (Ok x)) r h = after_collecting f₀ bounds _ _ f f' c c' step x r h
one_more f₀ bounds calls f f' c c' crew (collecting step (Err e)) r h = stay h r.source r.campaign
one_more f₀ bounds calls f f' c c' crew (withdrawing step (Ok x)) r h = after_withdrawing f₀ _ _ f f' c c' step x r h
one_more f₀ bounds calls f f' c c' crew (withdrawing step (Err e)) r h = stay h r.source r.campaign
one_more f₀ bounds calls f f' c c' crew (drawing d) r h = stay h r.1 r.2

pub sound : (f₀ : Facts) → IsBounded f₀ → (calls : Calls) (f : Facts) (c : Campaign) → History f₀ (opening_of f₀.plant) calls f c → Sound f₀ (outstanding calls) (λ k. collected_for k calls) f c
sound f₀ bounds calls f c opened = start f₀
sound f₀ bounds calls f c (called {calls = earlier} {f = g} {c = d} crew call before r) = one_more f₀ bounds earlier g f d c crew call r (sound f₀ bounds earlier g d before)
