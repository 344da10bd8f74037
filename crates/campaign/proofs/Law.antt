-- The law of the campaign.
use Rattle.std.proofs.Common.{◌≡◌, ℕ, zero, suc, ◌≤◌, ◌+◌, ◌-◌, Bool, true, false, not, get_or, ◌&&◌, leb, nat_abs, is_err, Some, None, Ok, Err, Option, Result, sym, refl, ap, ◌∙◌, subst, ⊎_elim, add-one, arith}
use Rattle.std.proofs.lemmas.Bool.{cases_Bool, both_ways, and_from, and_right, le-leb, eq-eqb, not-true}
use Rattle.feeder.specs.declared.kind.Kind.{Kind}
use Rattle.feeder.specs.declared.kind.Kind.TheVariants.{Complete, Reduced}
use Rattle.feeder.specs.declared.map.Map.{Map}
use Rattle.feeder.specs.Table.{OfKind, NoFeeder}
use Rattle.feeder.proofs.Alone.{complete_alone}
use Rattle.refusals.proofs.Checks.{clash}
use Rattle.feeder.specs.View.{lines_of, DrawnMap}
use Rattle.feeder.proofs.Agreeing.{Agree, nowhere_to, drawn_map_to}
use Rattle.probing.specs.Facts.{Facts, IsBounded}
use Rattle.probing.specs.Answers.{lowest}
use Rattle.probing.proofs.Readings.{lowest_none, lowest_more, lowest_here, lowest_stays, lowest_fails, lowest_empty}
use Rattle.campaign.specs.declared.drawing_fault.DrawingFault.{DrawingFault}
use Rattle.campaign.specs.declared.state.Campaign.{Campaign}
use Rattle.campaign.specs.Columns.{has_inverter, alike, same, present, entry}
use Rattle.campaign.specs.Relations.{opening_of}
use Rattle.campaign.specs.declared.steps.Command.{Command}
use Rattle.campaign.specs.Drawings.{columns_of, missing, bare, Moderate, Draws, incomplete, unequipped, nowhere, drawn, responses_of}
use Rattle.campaign.specs.Law.{CampaignLaw, FeederComesBack}
use Rattle.campaign.proofs.Lists.{inverters_at, all_empty, alike_self, same_buses, same_inverter, same_has}
use Rattle.campaign.proofs.Sound.{Sound, sound}

-- the lowest that passes passes, and is within
abbrev pub Passes : (ℕ → Bool) → ℕ → ℕ → Type 0
Passes test k n = (1 ≤ n) × (n ≤ k) × (test n ≡ true)

passes_more : (k : ℕ) (test : ℕ → Bool) (n : ℕ) → lowest (suc k) test ≡ Some n → (o : Option ℕ) → lowest k test ≡ o → ((p : ℕ) → o ≡ Some p → Passes test k p) → Passes test (suc k) n
passes_more k test n e (Some p) before ih =
    let found = lowest_stays k (suc k) p test (omega arith) before in
    let same : n ≡ p = cc in
    let at = ih p refl in
    (omega arith, omega arith, ap test same ∙ at.2)
passes_more k test n e None before ih =
    ⊎_elim
    (λ t. let found = rw (add-one k) at (lowest_here k test before (rw (add-one k) t)) in
    let same : n ≡ suc k = cc in
    (omega arith, omega arith, ap test same ∙ t))
    (λ f. let none = rw (add-one k) at (lowest_more k test before (rw (add-one k) f)) in
    absurd (let z : ◌≡◌ {A = ℕ} 0 1 = cc in omega arith))
    (cases_Bool (test (suc k)))

pub lowest_passes : (k : ℕ) (test : ℕ → Bool) (n : ℕ) → lowest k test ≡ Some n → Passes test k n
lowest_passes zero test n e = absurd (let none = lowest_none test in let z : ◌≡◌ {A = ℕ} 0 1 = cc in omega arith)
lowest_passes (suc k) test n e = passes_more k test n e (lowest k test) refl (λ p h. lowest_passes k test p h)

same_here : {f₀ : Facts} {o : Option Command} {got : ℕ → Bool} {f : Facts} {c : Campaign} → Sound f₀ o got f c → (m : ℕ) → 1 ≤ m → m ≤ 64 → f₀.plant.inverter m ≡ has_inverter c m
same_here {f₀} {o} {got} {f} {c} h m some le =
    ap f₀.plant.inverter (let is : m ≡ m - 1 + 1 = omega arith in is) ∙
    sym (inverters_at f₀.plant (m - 1) false (omega arith)) ∙
    ap (λ xs. get_or xs (m - 1) false) (sym h.inverters) ∙
    ap (λ t. t && get_or c.inverters (m - 1) false) (sym (and_from _ _ (le-leb 1 m some) (le-leb m 64 le)))

same_sound : {f₀ : Facts} {o : Option Command} {got : ℕ → Bool} {f : Facts} {c : Campaign} → Sound f₀ o got f c → same f₀.plant c ≡ true
same_sound {f₀} {o} {got} {f} {c} h =
    and_from _ _ (eq-eqb _ _ (sym h.buses)) (all_empty 64 (λ m. alike (f₀.plant.inverter m) (has_inverter c m)) (λ m some le. alike_self _ _ (same_here h m some le)))

module _ (f₀ : Facts) (bounds : IsBounded f₀) {o : Option Command} {got : ℕ → Bool} {f : Facts} {c : Campaign} (h : Sound f₀ o got f c) where
  pub same_source : same f₀.plant c ≡ true
  same_source = same_sound h

  pub buses : f₀.plant.buses ≡ c.buses
  buses = same_buses f₀.plant c same_source

  pub has : (m : ℕ) → f₀.plant.inverter m ≡ has_inverter c m
  has m =
      ⊎_elim
      (λ t. t ∙ sym (same_has f₀.plant bounds.plant c same_source m t))
      (λ n. n ∙ sym (⊎_elim (λ t. absurd (both_ways _ n (same_inverter f₀.plant c same_source m t))) (λ e. e) (cases_Bool (has_inverter c m))))
      (cases_Bool (f₀.plant.inverter m))

  -- a present column is the source's responses
  column : (n m : ℕ) → present c m ≡ true → 1 ≤ n → n ≤ c.buses → entry c n m ≡ f₀.plant.response n m
  column n m p l e = (h.columns m p).1 n (and_from (leb 1 n) (leb n f₀.plant.buses) (le-leb 1 n l) (le-leb n f₀.plant.buses (omega (arith, buses))))

  -- no column is missing: each inverter's is present
  all_present : missing c ≡ None → (m : ℕ) → 1 ≤ m → m ≤ c.buses → has_inverter c m ≡ true → present c m ≡ true
  all_present e m l last t =
      ⊎_elim (λ p. p) (λ n. absurd (both_ways _ (lowest_fails c.buses m (λ m. has_inverter c m && not (present c m)) e l last) (and_from (has_inverter c m) (not (present c m)) t (ap not n)))) (cases_Bool (present c m))

  moderate : Moderate c
  moderate =
      record {
        few = omega (arith, buses, bounds.plant.few);
        entries = λ n m l e p. subst (λ z. nat_abs z ≤ 1000000) (sym (column n m p l e)) (bounds.plant.responses n m);
      }

  -- the columns, all present, and the source's responses are one table to a drawing
  agree : missing c ≡ None → Agree (columns_of c) (responses_of f₀.plant)
  agree e =
      record {
        metered = sym buses;
        has = λ m p. sym (has m);
        entries = λ n m p q. column n m (all_present e m q.0.0 q.0.1 q.1) p.0 p.1;
      }

  -- a metered bus without an inverter is in no reduced feeder
  bare_nowhere : (kind : Kind) (n : ℕ) → bare kind c ≡ Some n → NoFeeder kind (responses_of f₀.plant)
  bare_nowhere Complete n e F k y = clash cc
  bare_nowhere Reduced n e F k y =
      let low = lowest_passes c.buses (λ n. not (has_inverter c n)) n e in
      both_ways (has_inverter c n) (not-true (has_inverter c n) low.2) (sym (has n) ∙ (k.1 n (low.0, omega (arith, buses, low.1))).1)

  refused_source : (kind : Kind) (before after : Map) (answer : Result (Unit {0}) DrawingFault) → missing c ≡ None → Draws c kind before answer after →
      (is_err answer ≡ true → NoFeeder kind (responses_of f₀.plant)) × (NoFeeder kind (responses_of f₀.plant) → is_err answer ≡ true)
  refused_source kind before after answer all (incomplete m e) = clash cc
  refused_source kind before after answer all (unequipped n e b) = (λ _. bare_nowhere kind n b, λ _. refl)
  refused_source kind before after answer all (nowhere e b none) = (λ _. nowhere_to kind (agree e) (none moderate), λ _. refl)
  refused_source kind before after answer all (drawn new e b d) =
      (λ h. clash cc, λ none. absurd (let g = (drawn_map_to kind (agree e) new d).1 in none (lines_of new) g.kind g.yields))

  accepted_source : (kind : Kind) (before after : Map) (answer : Result (Unit {0}) DrawingFault) → Draws c kind before answer after → answer ≡ Ok tt → DrawnMap kind (responses_of f₀.plant) after
  accepted_source kind before after answer (incomplete m e) h = clash cc
  accepted_source kind before after answer (unequipped n e b) h = clash cc
  accepted_source kind before after answer (nowhere e b none) h = clash cc
  accepted_source kind before after answer (drawn new e b d) h = drawn_map_to kind (agree e) new d

  -- after a collection for each inverter no column is missing
  pub all_collected : ((m : ℕ) → f₀.plant.inverter m ≡ true → got m ≡ true) → missing c ≡ None
  all_collected every =
      lowest_empty c.buses (λ m. has_inverter c m && not (present c m))
      (λ m l last. ⊎_elim (λ t. and_right (has_inverter c m) (not (present c m)) (ap not (h.collected m (every m (has m ∙ t))))) (λ n. ap (λ (b : Bool). b && not (present c m)) n) (cases_Bool (has_inverter c m)))

pub campaign_law : (f₀ : Facts) → IsBounded f₀ → CampaignLaw f₀ (opening_of f₀.plant)
campaign_law f₀ bounds calls f c history =
    let h = sound f₀ bounds calls f c history in
    record {
      plant = ap (λ (g : Facts). g.plant) h.facts;
      settings = λ m. ap (λ (g : Facts). g.state.setting m) h.facts;
      remembers = h.remembers;
      same_source = same_sound h;
      columns = h.columns;
      collected = h.collected;
      moderate = moderate f₀ bounds h;
      refused = λ every d l. refused_source f₀ bounds h d.kind d.before d.after d.answer (all_collected f₀ bounds h every) l;
      drawn = λ d l e. accepted_source f₀ bounds h d.kind d.before d.after d.answer l e;
    }

-- a drawing that is not refused is accepted
not_refused : (answer : Result (Unit {0}) DrawingFault) → (is_err answer ≡ true → ⊥) → answer ≡ Ok tt
not_refused (Ok u) h = refl
not_refused (Err e) h = absurd (h refl)

pub feeder_comes_back : (f₀ : Facts) → IsBounded f₀ → FeederComesBack f₀ (opening_of f₀.plant)
feeder_comes_back f₀ bounds F kind yields calls f c history every d drawing complete =
    let law = campaign_law f₀ bounds calls f c history in
    let there : OfKind d.kind (responses_of f₀.plant) F = subst (λ k. OfKind k (responses_of f₀.plant) F) (sym complete) kind in
    let accepted = not_refused d.answer (λ e. (law.refused every d drawing).0 e F there yields) in
    let map : DrawnMap Complete (responses_of f₀.plant) d.after = subst (λ k. DrawnMap k (responses_of f₀.plant) d.after) complete (law.drawn d drawing accepted) in
    (accepted, complete_alone (responses_of f₀.plant) (lines_of d.after) F map.1 kind yields)
