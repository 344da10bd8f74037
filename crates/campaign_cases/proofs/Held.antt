-- A step that is outstanding stays so behind the calls that do not withdraw it.
use Rattle.std.proofs.Common.{◌≡◌, ℕ, true, List, ℤ, Ok, Err, Result, MatchResult, sym, ap, subst, ◌∙◌}
use Rattle.refusals.specs.Checks.{after}
use Rattle.refusals.proofs.Checks.{clash}
use Rattle.probing.specs.Facts.{Plant, Facts}
use Rattle.campaign.specs.declared.fault.CampaignFault.{CampaignFault}
use Rattle.campaign.specs.declared.fault.CampaignRefusal.{CampaignRefusal}
use Rattle.campaign.specs.declared.state.Campaign.{Campaign}
use Rattle.campaign.specs.declared.steps.Command.{Command}
use Rattle.campaign.specs.declared.steps.Step.{Step}
use Rattle.campaign.specs.declared.steps.Fresh.{Fresh}
use Rattle.campaign.specs.declared.steps.Collected.{Collected}
use Rattle.campaign.specs.Columns.{same, is_outstanding}
use Rattle.campaign.specs.Relations.{step_of, naming, handing_back, collect_of, Commences, Collects}
use Rattle.campaign.proofs.Sound.{commence_accepted, outstanding_is}
use Rattle.campaign.proofs.Stepping.{Follows}

-- the step that is known so is the campaign's on the source
pub record Held (p : Plant) (c : Campaign) (known : Command) : Type 0 where
  pub own : same p c ≡ true
  pub outstanding : is_outstanding c known ≡ true

-- no second step is handed out
no_second : (f : Facts) (c : Campaign) (known : Command) (k : ℕ) (size : ℤ) (y : Step Fresh) (f' : Facts) (c' : Campaign) → Held f.plant c known → Commences f c k size (Ok y) f' c' → ⊥
no_second f c known k size y f' c' h r =
    let ok = commence_accepted f c k size y r.answers in
    let some = outstanding_is c known h.outstanding in
    let none = ok.free in
    clash cc

-- and a refused commencing leaves the first
pub still_held : (f : Facts) (c : Campaign) (known : Command) (k : ℕ) (size : ℤ) (d : Result (Step Fresh) CampaignRefusal) (f' : Facts) (c' : Campaign) → Held f.plant c known → Commences f c k size d f' c' → Held f'.plant c' known
still_held f c known k size (Ok y) f' c' h r = absurd (no_second f c known k size y f' c' h r)
still_held f c known k size (Err e) f' c' h r =
    subst (λ (g : Facts). Held g.plant c' known) (sym r.source) (subst (λ d. Held f.plant d known) (sym r.campaign) h)

-- the step, as one that was collected
abbrev collected_of : Step Fresh → Result (Step Collected) CampaignFault
collected_of x = Ok (step_of x.command)

-- the collected step is the fresh one's
collected_as : (x : Step Fresh) (d : Result (List ℤ) CampaignFault) (y : Step Collected) → Ok y ≡ handing_back x (naming x.command.inverter (after d (λ _. collected_of x))) → y ≡ step_of x.command
collected_as x (Ok _) y h = cc
collected_as x (Err e) y h = clash (let z = h in cc)

-- a refused collection hands the same step back
handed_back : (x : Step Fresh) (d : Result (List ℤ) CampaignFault) (e : Step Fresh × CampaignRefusal) → Err e ≡ handing_back x (naming x.command.inverter (after d (λ _. collected_of x))) → e.0 ≡ x
handed_back x (Ok _) e h = clash (let z = h in cc)
handed_back x (Err fault) e h =
    let is : e ≡ (x, record { fault = fault; inverter = x.command.inverter }) = cc in ap (λ p. p.0) is

-- whichever campaign collects it on whichever source, the step that it hands back stays the outstanding one of its own
pub record HeldBack (p : Plant) (c : Campaign) (d : Result (Step Collected) (Step Fresh × CampaignRefusal)) : Type 0 where
  pub own : same p c ≡ true
  pub outstanding : MatchResult d (λ y. is_outstanding c y.command ≡ true) (λ e. is_outstanding c e.0.command ≡ true)

held_back : (p : Plant) (g : Facts) (c o : Campaign) (x : Step Fresh) (d : Result (Step Collected) (Step Fresh × CampaignRefusal)) (g' : Facts) (o' : Campaign) → Held p c x.command → Collects g o x d g' o' → HeldBack p c d
held_back p g c o x (Ok y) g' o' h r =
    record { own = h.own; outstanding = subst (λ (z : Step Collected). is_outstanding c z.command ≡ true) (sym (collected_as x (collect_of g o x.command) y r.answers)) h.outstanding }
held_back p g c o x (Err e) g' o' h r =
    record { own = h.own; outstanding = subst (λ (z : Step Fresh). is_outstanding c z.command ≡ true) (sym (handed_back x (collect_of g o x.command) e r.answers)) h.outstanding }

-- and so where its own campaign collects it
pub own_held_back : (p : Plant) (g : Facts) (c : Campaign) (x : Step Fresh) (d : Result (Step Collected) (Step Fresh × CampaignRefusal)) (g' : Facts) (c' : Campaign) → Held p c x.command → Collects g c x d g' c' → HeldBack p c' d
own_held_back p g c x (Ok y) g' c' h r =
    let back = held_back p g c c x (Ok y) g' c' h r in
    record { own = ap (same p) r.campaign ∙ back.own; outstanding = ap (λ d. is_outstanding d y.command) r.campaign ∙ back.outstanding }
own_held_back p g c x (Err e) g' c' h r = subst (λ d. HeldBack p d (Err e)) (sym r.campaign) (held_back p g c c x (Err e) g' c' h r)

-- and so behind an accepted commencing, where another campaign collects it
pub elsewhere : (f : Facts) (c o : Campaign) (x : Step Fresh) (d : Result (Step Collected) (Step Fresh × CampaignRefusal)) (f' : Facts) (o' : Campaign) → Follows x f c → Collects f o x d f' o' → HeldBack f.plant c d
elsewhere f c o x d f' o' h r = held_back f.plant f c o x d f' o' (record { own = h.match; outstanding = h.out }) r

-- and so behind an accepted commencing, where its own campaign collects it on another source
pub swapped : (f g : Facts) (c : Campaign) (x : Step Fresh) (d : Result (Step Collected) (Step Fresh × CampaignRefusal)) (g' : Facts) (c' : Campaign) → Follows x f c → Collects g c x d g' c' → HeldBack f.plant c' d
swapped f g c x d g' c' h r = own_held_back f.plant g c x d g' c' (record { own = h.match; outstanding = h.out }) r
