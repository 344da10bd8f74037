-- A bus that is found to have no child is an end.
use Rattle.std.proofs.Common.{◌≡◌, ℕ, ◌+◌, ◌-◌, ◌↔◌, IsTrue, Bool, not, List, Some, sym, ap, ◌∙◌, ⊎_elim, arith}
use Rattle.std.proofs.lemmas.Bool.{cases_Bool, not-true, not_from_false, both_ways}
use Rattle.std.specs.List.{Any}
use Rattle.feeder.specs.declared.line.Line.{Line}
use Rattle.feeder.specs.Feeder.{Bus, parent_of, line_of}
use Rattle.feeder.specs.View.{TellsEnd}
use Rattle.feeder.proofs.Reach.{line_next, read_line}

pub tells_end : (F : List Line) (b : ℕ) (r : Bool) → Bus F b → IsTrue r ↔ Any (λ (l : Line). l.parent ≡ b) F → TellsEnd F b (Some (not r))
tells_end F b r h found = (h, λ e. (h, λ c k u. absurd (both_ways r (not-true r e) (found.1 (child c k u)))), λ x. ⊎_elim (λ t. absurd (let u = found.0 t in x.1 (u.0 + 1) (omega arith, omega (arith, u.2)) (ap (λ (l : Line). l.parent) (sym (line_next F u.0 u.2 u.1) ∙ u.3) ∙ u.4))) (not_from_false r) (cases_Bool r))
  where
    child : (c : ℕ) → Bus F c → parent_of F c ≡ b → Any (λ (l : Line). l.parent ≡ b) F
    child c k u = (c - 1, line_of F c, omega (arith, k.0, k.1), read_line F c k (line_of F c), u)
