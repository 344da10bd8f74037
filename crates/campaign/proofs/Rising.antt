-- Probing every inverter in rising order, as a history.
use Rattle.std.proofs.Common.{◌≡◌, ℕ, suc, ◌+◌, ◌<◌, ◌≤◌, true, false, cond, eqb, leb, List, [], ◌∷◌, ℤ, is_err, None, Ok, Err, Result, sym, refl, ap, ◌∙◌, subst, inl, inr, arith}
use Rattle.std.proofs.lemmas.Bool.{cases_eq, and_left, and_right, and_from, and_parts, or_left, or_right, eq-eqb, leb-true, both_ways, cond-true, cond-false}
use Rattle.probing.specs.declared.fault.SourceFault.{SourceFault}
use Rattle.probing.specs.declared.fault.SourceFault.TheVariants.{NoInverter}
use Rattle.probing.specs.Facts.{Plant, Facts, IsBounded, with_settings}
use Rattle.refusals.specs.Checks.{need, lacking, after}
use Rattle.refusals.proofs.Checks.{need_ok}
use Rattle.probing.specs.Answers.{lowest, read_all_of, command_of}
use Rattle.probing.proofs.Readings.{lowest_none, lowest_more, lowest_here, lowest_stays}
use Rattle.campaign.specs.declared.fault.CampaignFault.TheVariants.{NotThisCampaign, StepOutstanding}
use Rattle.campaign.specs.declared.fault.CampaignRefusal.{CampaignRefusal}
use Rattle.campaign.specs.declared.state.Campaign.{Campaign}
use Rattle.campaign.specs.declared.steps.Step.{Step}
use Rattle.campaign.specs.declared.steps.Fresh.{Fresh}
use Rattle.campaign.specs.Columns.{same}
use Rattle.campaign.specs.declared.steps.Command.{Command}
use Rattle.campaign.specs.Relations.{command, step_of, opening_of, from_source, naming, commence_of, Commences}
use Rattle.campaign.specs.History.{first, commencing, collecting, withdrawing, Calls, outstanding, collected_for, History, opened, called}
use Rattle.campaign.specs.Law.{settings_with, LawHolds}
use Rattle.campaign.specs.Probes.{Probed, stepping_of, failing, steps_of, one_each, InRisingOrder, AllProbed}
use Rattle.campaign.proofs.Sound.{Commencing, commence_accepted, commence_gives, sound}
use Rattle.campaign.proofs.Law.{campaign_law}

-- every inverter of 1 to i was probed
pub record Surveying (f₀ : Facts) (size : ℤ) (i : ℕ) (f : Facts) (c : Campaign) : Type 0 where
  pub calls : Calls
  pub history : History f₀ (opening_of f₀.plant) calls f c
  pub rising : steps_of calls ≡ one_each f₀.plant size i
  pub free : outstanding calls ≡ None
  pub each : (m : ℕ) → 1 ≤ m → m ≤ i → f₀.plant.inverter m ≡ true → collected_for m calls ≡ true
  pub none : lowest i (failing f₀ size) ≡ None

next_each : (f : Facts) (size : ℤ) (i : ℕ) → one_each f.plant size (i + 1) ≡ cond (f.plant.inverter (i + 1)) (command (i + 1) size ∷ one_each f.plant size i) (one_each f.plant size i)
next_each f size i = let e : i + 1 ≡ suc i = omega arith in rw e refl

survey_starts : (f₀ : Facts) (size : ℤ) (c : Campaign) → c ≡ opening_of f₀.plant → Surveying f₀ size 0 f₀ c
survey_starts f₀ size c is =
    subst (λ d. Surveying f₀ size 0 f₀ d) (sym is)
    (record { calls = []; history = opened; rising = refl; free = refl; each = λ m some le there. absurd (omega arith); none = lowest_none _ })

survey_at : {f₀ : Facts} {size : ℤ} {i : ℕ} {f f' : Facts} {c c' : Campaign} → f' ≡ f → c' ≡ c → Surveying f₀ size i f c → Surveying f₀ size i f' c'
survey_at {f₀} {size} {i} {f} {f'} {c} {c'} ef ec h = subst (λ g. Surveying f₀ size i g c') (sym ef) (subst (λ d. Surveying f₀ size i f d) (sym ec) h)

-- nothing is outstanding, so the facts are those of the opening
survey_facts : (f₀ : Facts) → IsBounded f₀ → (size : ℤ) (i : ℕ) (f : Facts) (c : Campaign) → Surveying f₀ size i f c → f ≡ f₀
survey_facts f₀ bounds size i f c h =
    (sound f₀ bounds h.calls f c h.history).facts ∙ ap (λ o. with_settings f₀ (settings_with f₀.state.setting o)) h.free

survey_kept : (f₀ : Facts) → IsBounded f₀ → (size : ℤ) (i : ℕ) (f : Facts) (c : Campaign) → (h : Surveying f₀ size i f c) → LawHolds f₀ h.calls f c
survey_kept f₀ bounds size i f c h = campaign_law f₀ bounds h.calls f c h.history

-- a bus without an inverter
survey_passes : (f₀ : Facts) → IsBounded f₀ → (size : ℤ) (i : ℕ) (f : Facts) (c : Campaign) → f.plant.inverter (i + 1) ≡ false → Surveying f₀ size i f c → Surveying f₀ size (i + 1) f c
survey_passes f₀ bounds size i f c none h =
    let none₀ : f₀.plant.inverter (i + 1) ≡ false = ap (λ (g : Facts). g.plant.inverter (i + 1)) (sym (survey_facts f₀ bounds size i f c h)) ∙ none in
    record {
      calls = h.calls;
      history = h.history;
      rising = h.rising ∙ sym (next_each f₀ size i ∙ cond-false (f₀.plant.inverter (i + 1)) _ _ none₀);
      free = h.free;
      each = λ m some le there. elim (cases_eq m (i + 1)) [ inl at ↦ absurd (both_ways _ (ap f₀.plant.inverter at ∙ none₀) there) | inr other ↦ h.each m some (omega arith) there ];
      none = lowest_more i (failing f₀ size) h.none (and_left _ _ none₀);
    }

-- an inverter that was probed

stepping_ok : (f : Facts) (c : Campaign) (m : ℕ) (size : ℤ) → Commencing f c m size → is_err (stepping_of f m size) ≡ false
stepping_ok f c m size ok =
    ap (λ r. is_err (after r (λ _. command_of f m size))) (sym ok.read) ∙ ap (λ r. is_err r) (sym ok.command)

-- a command that is taken names an inverter
inverter_there : (f : Facts) (m : ℕ) (size : ℤ) → Ok tt ≡ command_of f m size → f.plant.inverter m ≡ true
inverter_there f m size h = (need_ok (f.plant.inverter m) (NoInverter m) _ tt (sym h)).0

survey_steps : (f₀ : Facts) → IsBounded f₀ → (size : ℤ) (i : ℕ) (f : Facts) (c : Campaign) (f' : Facts) (c' : Campaign) → Probed f c (i + 1) size f' c' → Surveying f₀ size i f c → Surveying f₀ size (i + 1) f' c'
survey_steps f₀ bounds size i f c f' c' p h =
    let gives = commence_gives f c (i + 1) size p.fresh p.commences.answers in
    let ok = commence_accepted f c (i + 1) size p.fresh p.commences.answers in
    let there : f₀.plant.inverter (i + 1) ≡ true = ap (λ (g : Facts). g.plant.inverter (i + 1)) (sym (survey_facts f₀ bounds size i f c h)) ∙ inverter_there f (i + 1) size ok.command in
    let good : is_err (stepping_of f₀ (i + 1) size) ≡ false = ap (λ g. is_err (stepping_of g (i + 1) size)) (sym (survey_facts f₀ bounds size i f c h)) ∙ stepping_ok f c (i + 1) size ok in
    record {
      calls = (first, withdrawing p.step.command (Ok tt)) ∷ (first, collecting p.fresh (Ok p.step)) ∷ (first, commencing (i + 1) size (Ok p.fresh)) ∷ h.calls;
      history = called first (withdrawing p.step.command (Ok tt)) (called first (collecting p.fresh (Ok p.step)) (called first (commencing (i + 1) size (Ok p.fresh)) h.history p.commences) p.collects) p.withdraws;
      rising = ap (λ steps. command (i + 1) size ∷ steps) h.rising ∙ sym (next_each f₀ size i ∙ cond-true (f₀.plant.inverter (i + 1)) _ _ there);
      free = refl;
      each = λ m some le there. elim (cases_eq m (i + 1)) [
        | inl at ↦ or_left _ _ (eq-eqb _ _ (ap (λ (x : Step Fresh). x.command.inverter) gives ∙ sym at))
        | inr other ↦ or_right (eqb p.fresh.command.inverter m) _ (h.each m some (omega arith) there)
      ];
      none = lowest_more i (failing f₀ size) h.none (and_right _ _ good);
    }

-- an inverter that the source refuses to step

stepping_err : (a : Result (List ℤ) SourceFault) (b : Result (Unit {0}) SourceFault) (x : Step Fresh) (m : ℕ) (refusal : CampaignRefusal) → Err refusal ≡ naming m (from_source (after a (λ _. after b (λ _. Ok x)))) → (Err refusal ≡ naming m (from_source (after a (λ _. b)))) × (is_err (after a (λ _. b)) ≡ true)
stepping_err (Ok y) (Ok u) x m refusal h = absurd (let z : ◌≡◌ {A = ℕ} 0 1 = cc in omega arith)
stepping_err (Ok y) (Err e) x m refusal h = (ap Err (let is : refusal ≡ _ = cc in is), refl)
stepping_err (Err e) b x m refusal h = (ap Err (let is : refusal ≡ _ = cc in is), refl)

past_campaign : (f : Facts) (c : Campaign) (m : ℕ) (size : ℤ) → same f.plant c ≡ true → c.outstanding ≡ None →
    commence_of f c m size ≡ from_source (after (read_all_of f) (λ _. after (command_of f m size) (λ _. Ok (step_of (command m size)))))
past_campaign f c m size match free =
    let taken = from_source (after (read_all_of f) (λ _. after (command_of f m size) (λ _. Ok (step_of (command m size))))) in
    ap (λ t. need t (NotThisCampaign m) (lacking c.outstanding (λ (step : Command). StepOutstanding step.inverter) taken)) match ∙
    ap (λ o. lacking o (λ (step : Command). StepOutstanding step.inverter) taken) free

survey_stops : (f₀ : Facts) → IsBounded f₀ → (size : ℤ) (i : ℕ) (f : Facts) (c : Campaign) (refusal : CampaignRefusal) (f' : Facts) (c' : Campaign) → i < f₀.plant.buses → f.plant.inverter (i + 1) ≡ true → Commences f c (i + 1) size (Err refusal) f' c' → Surveying f₀ size i f c → (f' ≡ f₀) × AllProbed f₀ size (Err refusal)
survey_stops f₀ bounds size i f c refusal f' c' lt there r h =
    let is = survey_facts f₀ bounds size i f c h in
    let all = survey_kept f₀ bounds size i f c h in
    let told = stepping_err (read_all_of f) (command_of f (i + 1) size) (step_of (command (i + 1) size)) (i + 1) refusal
    (r.answers ∙ ap (naming (i + 1)) (past_campaign f c (i + 1) size (ap (λ (p : Plant). same p c) all.plant ∙ all.same_source) (all.remembers ∙ h.free))) in
    let fails : failing f₀ size (i + 1) ≡ true = ap (λ g. failing g size (i + 1)) (sym is) ∙ and_from _ _ there told.1 in (
      r.source ∙ is,
      (
        i + 1,
        lowest_stays (i + 1) f₀.plant.buses (i + 1) (failing f₀ size) (omega arith) (lowest_here i (failing f₀ size) h.none fails),
        told.0 ∙ ap (λ g. naming (i + 1) (from_source (stepping_of g (i + 1) size))) is,
      ),
    )

-- every inverter below a bus was probed
pub record Below (f₀ : Facts) (size : ℤ) (bus : ℕ) (f : Facts) (c : Campaign) : Type 0 where
  pub last : ℕ
  pub next : bus ≡ last + 1
  pub surveying : Surveying f₀ size last f c

pub below_starts : (f₀ : Facts) (size : ℤ) (c : Campaign) → c ≡ opening_of f₀.plant → Below f₀ size 1 f₀ c
below_starts f₀ size c is = record { last = 0; next = refl; surveying = survey_starts f₀ size c is }

pub below_passes : (f₀ : Facts) → IsBounded f₀ → (size : ℤ) (bus : ℕ) (f f' : Facts) (c c' : Campaign) → f' ≡ f → c' ≡ c → f.plant.inverter bus ≡ false → Below f₀ size bus f c → Below f₀ size (bus + 1) f' c'
below_passes f₀ bounds size bus f f' c c' ef ec none h =
    record { last = h.last + 1; next = omega (arith, h.next); surveying = survey_at ef ec (survey_passes f₀ bounds size h.last f c (ap f.plant.inverter (sym h.next) ∙ none) h.surveying) }

pub below_steps : (f₀ : Facts) → IsBounded f₀ → (size : ℤ) (bus : ℕ) (f f' f'' : Facts) (c c' c'' : Campaign) → f'' ≡ f' → c'' ≡ c' → Probed f c bus size f' c' → Below f₀ size bus f c → Below f₀ size (bus + 1) f'' c''
below_steps f₀ bounds size bus f f' f'' c c' c'' ef ec p h =
    record { last = h.last + 1; next = omega (arith, h.next); surveying = survey_at ef ec (survey_steps f₀ bounds size h.last f c f' c' (subst (λ k. Probed f c k size f' c') h.next p) h.surveying) }

pub below_stops : (f₀ : Facts) → IsBounded f₀ → (size : ℤ) (bus : ℕ) (f : Facts) (c : Campaign) (refusal : CampaignRefusal) (f' : Facts) (c' : Campaign) → bus ≤ f₀.plant.buses → f.plant.inverter bus ≡ true → Commences f c bus size (Err refusal) f' c' → Below f₀ size bus f c → (f' ≡ f₀) × AllProbed f₀ size (Err refusal)
below_stops f₀ bounds size bus f c refusal f' c' le there r h =
    survey_stops f₀ bounds size h.last f c refusal f' c' (omega (arith, h.next)) (ap f.plant.inverter (sym h.next) ∙ there) (subst (λ k. Commences f c k size (Err refusal) f' c') h.next r) h.surveying

-- all of them

survey_whole : {f₀ : Facts} {size : ℤ} {i : ℕ} {f : Facts} {c : Campaign} (h : Surveying f₀ size i f c) → IsBounded f₀ → History f₀ (opening_of f₀.plant) h.calls f₀ c
survey_whole {f₀} {size} {i} {f} {c} h bounds = subst (λ g. History f₀ (opening_of f₀.plant) h.calls g c) (survey_facts f₀ bounds size i f c h) h.history

survey_rises : (f₀ : Facts) → IsBounded f₀ → (size : ℤ) (i : ℕ) (f : Facts) (c : Campaign) → i ≡ f₀.plant.buses → Surveying f₀ size i f c → InRisingOrder f₀ size c
survey_rises f₀ bounds size i f c last h =
    record { calls = h.calls; history = survey_whole h bounds; rising = h.rising ∙ ap (one_each f₀.plant size) last }

survey_ends : (f₀ : Facts) → IsBounded f₀ → (size : ℤ) (i : ℕ) (f : Facts) (c : Campaign) → i ≡ f₀.plant.buses → Surveying f₀ size i f c → (f ≡ f₀) × AllProbed f₀ size (Ok c)
survey_ends f₀ bounds size i f c last h =
    let is = survey_facts f₀ bounds size i f c h in
    let all = survey_kept f₀ bounds size i f c h in (
      is,
      (
        ap (λ k. lowest k (failing f₀ size)) (sym last) ∙ h.none,
        record {
          calls = h.calls;
          history = survey_whole h bounds;
          withdrawn = h.free;
          each = λ m there. reached h last bounds m there;
          columns = λ m there.
              let present' = all.collected m (reached h last bounds m there) in
              (present', (all.columns m present').1);
        },
      ),
    )
  where
    reached : {f₀ : Facts} {size : ℤ} {i : ℕ} {f : Facts} {c : Campaign} (h : Surveying f₀ size i f c) → i ≡ f₀.plant.buses → IsBounded f₀ → (m : ℕ) → f₀.plant.inverter m ≡ true → collected_for m h.calls ≡ true
    reached {f₀} h last bounds m there =
        let placed = and_parts (leb 1 m) (leb m f₀.plant.buses) (bounds.plant.placed m there) in
        let high = leb-true _ _ placed.1 in
        h.each m (leb-true _ _ placed.0) (omega (arith, high, last)) there

pub below_ends : (f₀ : Facts) → IsBounded f₀ → (size : ℤ) (bus : ℕ) (f : Facts) (c : Campaign) → bus ≡ f₀.plant.buses → Below f₀ size (bus + 1) f c → (f ≡ f₀) × AllProbed f₀ size (Ok c) × InRisingOrder f₀ size c
below_ends f₀ bounds size bus f c last h =
    let is : h.last ≡ f₀.plant.buses = omega (arith, h.next) in
    let ends = survey_ends f₀ bounds size h.last f c is h.surveying in
    (ends.0, ends.1, survey_rises f₀ bounds size h.last f c is h.surveying)
