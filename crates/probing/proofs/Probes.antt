-- What accepted commands and withdrawals tell of a source, and what they leave.
use Rattle.std.proofs.Common.{◌≡◌, ℕ, true, ℤ, pos, Ok, Result, sym, ap}
use Rattle.refusals.specs.Checks.{need, left}
use Rattle.refusals.proofs.Checks.{need_ok}
use Rattle.probing.specs.declared.fault.SourceFault.{SourceFault}
use Rattle.probing.specs.declared.fault.SourceFault.TheVariants.{NoInverter, BadStep, OffSchedule}
use Rattle.probing.specs.Facts.{Facts, with_setting}
use Rattle.probing.specs.Answers.{admissible, on_schedule, command_of, commanded, withdraw_of, withdrawn}
use Rattle.probing.proofs.Voltages.{scheduled}

pub accepted : {E : Type 0} (u : Unit {0}) (r : Result (Unit {0}) E) → Ok u ≡ r → Ok tt ≡ r
accepted u r h = h

-- what an accepted command tells
pub record Accepted (f : Facts) (m : ℕ) (step : ℤ) : Type 0 where
  pub there : f.plant.inverter m ≡ true
  pub small : admissible step ≡ true
  pub still : f.state.setting m ≡ pos 0

pub command_accepted : (f : Facts) (m : ℕ) (step : ℤ) → Ok tt ≡ command_of f m step → Accepted f m step
command_accepted f m step h =
    let first = need_ok (f.plant.inverter m) (NoInverter m) _ tt (sym h) in
    let second = need_ok (admissible step) (BadStep m) _ tt first.1 in
    let third = need_ok (on_schedule f m) (OffSchedule m) _ tt second.1 in
    record { there = first.0; small = second.0; still = scheduled f m third.0 }

pub command_leaves : (f : Facts) (m : ℕ) (step : ℤ) → Ok tt ≡ command_of f m step → commanded f m step ≡ with_setting f m step
command_leaves f m step h = ap (λ r. left r (with_setting f m step) f) (sym h)

pub withdraw_accepted : (f : Facts) (m : ℕ) → f.plant.inverter m ≡ true → (Ok tt ≡ withdraw_of f m) × (withdrawn f m ≡ with_setting f m (pos 0))
withdraw_accepted f m there = (
  ap (λ t. need t (NoInverter m) (Ok tt)) (sym there),
  ap (λ t. left {T = Unit {0}} {E = SourceFault} (need t (NoInverter m) (Ok tt)) (with_setting f m (pos 0)) f) there,
)
