-- Reading a bus that is heard.
use Rattle.std.proofs.Common.{◌≡◌, ℕ, Bool, true, false, cond, not, ◌&&◌, Some, None, Ok, ℤ, refl, sym, ap, ◌∙◌}
use Rattle.refusals.specs.Checks.{need}
use Rattle.refusals.proofs.Checks.{clash}
use Rattle.probing.specs.declared.fault.SourceFault.TheVariants.{Unreadable}
use Rattle.probing.specs.Facts.{Plant, Facts, metered, voltage}
use Rattle.probing.specs.Answers.{read_of}
use Rattle.sources.specs.GridFacts.{standing_heard}

heard_cond : {T : Type 0} (b : Bool) (x v : T) → cond b (Some x) None ≡ Some v → (b ≡ true) × (v ≡ x)
heard_cond true x v e = (refl, cc)
heard_cond false x v e = clash cc

pub heard : (p : Plant) (n : ℕ) (v : ℤ) → standing_heard p n ≡ Some v → (metered p n && not (p.mute n) ≡ true) × (v ≡ p.standing n)
heard p n v e = heard_cond (metered p n && not (p.mute n)) (p.standing n) v e

pub read_heard : (f : Facts) (n : ℕ) (v volts : ℤ) → standing_heard f.plant n ≡ Some v → volts ≡ voltage f n → Ok volts ≡ read_of f n
read_heard f n v volts told e =
    ap Ok e ∙ ap (λ t. need t (Unreadable n) (Ok (voltage f n))) (sym (heard f.plant n v told).0)
