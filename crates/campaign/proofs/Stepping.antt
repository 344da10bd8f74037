-- After an accepted commencing the collection and the withdrawing on the same source are accepted.
use Rattle.std.proofs.Common.{◌≡◌, ℕ, true, not, List, ℤ, ◌-ℤ◌, nat_abs, is_some, Some, None, Ok, Err, sym, refl, ap, ◌∙◌, subst, arith}
use Rattle.std.proofs.lemmas.Int.{ints}
use Rattle.std.proofs.lemmas.Bool.{and_from, le-leb, eq-eqb}
use Rattle.units.specs.Quotients.{response_of}
use Rattle.refusals.specs.Checks.{need, lacking, after}
use Rattle.refusals.proofs.Checks.{clash}
use Rattle.probing.specs.declared.fault.SourceFault.TheVariants.{Unreadable}
use Rattle.probing.specs.Facts.{Facts, IsBounded, voltage, with_setting}
use Rattle.probing.specs.Answers.{lowest, per_bus, read_all_of}
use Rattle.probing.proofs.Readings.{read_heard, lowest_empty}
use Rattle.probing.proofs.Probes.{command_accepted}
use Rattle.campaign.specs.declared.fault.CampaignFault.TheVariants.{NotThisCampaign, NotMultiple}
use Rattle.campaign.specs.declared.fault.CampaignRefusal.{CampaignRefusal}
use Rattle.campaign.specs.declared.state.Campaign.{Campaign}
use Rattle.campaign.specs.declared.steps.Step.{Step}
use Rattle.campaign.specs.declared.steps.Fresh.{Fresh}
use Rattle.campaign.specs.declared.steps.Collected.{Collected}
use Rattle.campaign.specs.Columns.{same, is_step, is_outstanding}
use Rattle.campaign.specs.Relations.{command, step_of, from_source, naming, handing_back, commenced, Commences, quotients, is_uneven, divided_of, change_of, collect_of, Collects}
use Rattle.campaign.proofs.Lists.{same_has}
use Rattle.campaign.proofs.Quotients.{divided_back}
use Rattle.campaign.proofs.Sound.{Commencing, commence_accepted, commence_gives, Pending, change_is, nonzero}

-- what an accepted commencing leaves
pub record Follows (x : Step Fresh) (f' : Facts) (c' : Campaign) : Type 0 where
  pub match : same f'.plant c' ≡ true
  pub out : is_outstanding c' x.command ≡ true
  pub responses : List ℤ
  pub divides : collect_of f' c' x.command ≡ Ok responses

self_step : (m : ℕ) (size : ℤ) → is_step (Some (command m size)) (command m size) ≡ true
self_step m size = and_from _ _ (eq-eqb m m refl) (eq-eqb _ _ (let z : nat_abs (size -ℤ size) ≡ 0 = omega (arith, ints) in z))

even_all : (f : Facts) → IsBounded f → (c : Campaign) (m : ℕ) (size : ℤ) → Pending f c m size → lowest f.plant.buses (is_uneven (change_of (with_setting f m size) c) size) ≡ None
even_all f bounds c m size p =
    lowest_empty f.plant.buses _ (λ n some le.
    ap (λ o. not (is_some o)) (ap (λ z. response_of z size) (change_is f bounds c m size p n (and_from _ _ (le-leb 1 n some) (le-leb n f.plant.buses le))) ∙ divided_back (f.plant.response n m) size p.some (bounds.plant.responses n m)))

divides_all : (f : Facts) → IsBounded f → (c : Campaign) (m : ℕ) (size : ℤ) → Pending f c m size → same f.plant c ≡ true → is_outstanding c (command m size) ≡ true → (readings : List ℤ) → Ok readings ≡ read_all_of f →
    collect_of (with_setting f m size) c (command m size) ≡ Ok (quotients f.plant.buses (change_of (with_setting f m size) c) size)
divides_all f bounds c m size p match out readings h =
    let f' = with_setting f m size in
    let divided = divided_of f.plant.buses (change_of f' c) size in
    ap (λ t. need t (NotThisCampaign m) (need (is_outstanding c (command m size)) (NotThisCampaign m) (after (from_source (read_all_of f')) (λ _. divided)))) match ∙
    ap (λ t. need t (NotThisCampaign m) (after (from_source (read_all_of f')) (λ _. divided))) out ∙
    ap (λ o. after (from_source (lacking o Unreadable (Ok (per_bus f.plant.buses (voltage f'))))) (λ _. divided)) (read_heard f readings h).0 ∙
    ap (λ o. lacking o NotMultiple (Ok (quotients f.plant.buses (change_of f' c) size))) (even_all f bounds c m size p)

follows₀ : (f : Facts) → IsBounded f → (c : Campaign) (m : ℕ) (size : ℤ) → Commencing f c m size → Follows (step_of (command m size)) (with_setting f m size) (commenced f c m size)
follows₀ f bounds c m size ok =
    let allowed = command_accepted f m size ok.command in
    let p : Pending f (commenced f c m size) m size = record { there = allowed.there; still = allowed.still; some = nonzero size allowed.small; before = refl } in
    let out : is_outstanding (commenced f c m size) (command m size) ≡ true = and_from _ _ (self_step m size) (same_has f.plant bounds.plant c ok.match m allowed.there) in
    record { match = ok.match; out = out; responses = _; divides = divides_all f bounds (commenced f c m size) m size p ok.match out ok.readings ok.read }

pub follows : (f : Facts) → IsBounded f → (c : Campaign) (m : ℕ) (size : ℤ) (x : Step Fresh) (f' : Facts) (c' : Campaign) → Commences f c m size (Ok x) f' c' → Follows x f' c'
follows f bounds c m size x f' c' r =
    let ok = commence_accepted f c m size x r.answers in
    let h = follows₀ f bounds c m size ok in
    let step : Step Fresh = step_of (command m size) in
    subst (λ y. Follows y f' c') (sym (commence_gives f c m size x r.answers))
    (subst (λ g. Follows step g c') (sym r.source) (subst (λ d. Follows step (with_setting f m size) d) (sym r.campaign) h))

-- so no collection is refused there
pub never_refused : (x : Step Fresh) (f : Facts) (c : Campaign) (e : Step Fresh × CampaignRefusal) (f' : Facts) (c' : Campaign) → Follows x f c → Collects f c x (Err e) f' c' → ⊥
never_refused x f c e f' c' h r =
    let differ = r.answers ∙ ap (λ d. handing_back x (naming x.command.inverter (after d (λ _. Ok (step_of x.command))))) h.divides in
    clash cc

-- and the step is still outstanding behind one
pub still_outstanding : (x : Step Fresh) (f : Facts) (c : Campaign) (y : Step Collected) (f' : Facts) (c' : Campaign) → Follows x f c → Collects f c x (Ok y) f' c' → (same f.plant c' ≡ true) × (is_outstanding c' y.command ≡ true)
still_outstanding x f c y f' c' h r =
    let told = r.answers ∙ ap (λ d. handing_back x (naming x.command.inverter (after d (λ _. Ok (step_of x.command))))) h.divides in
    let is : y ≡ step_of x.command = cc in (
      ap (same f.plant) r.campaign ∙ h.match,
      ap (λ (z : Step Collected). is_outstanding c' z.command) is ∙ ap (λ d. is_outstanding d x.command) r.campaign ∙ h.out,
    )
