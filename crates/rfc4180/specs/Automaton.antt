-- The automaton that the check runs. No public contract cites it: proofs show that it decides the grammar.
use Rattle.std.specs.Prelude.{ℕ, ◌+◌, Bool, true, false, cond, List, [], ◌∷◌, Some, None, Ok, Err, Option, Result, ◌==◌}
use Rattle.rfc4180.specs.declared.fault.Fault.{Fault}
use Rattle.rfc4180.specs.declared.fault.Fault.TheVariants.{Syntax}
use Rattle.rfc4180.specs.declared.automaton.State.{State}
use Rattle.rfc4180.specs.declared.automaton.State.TheVariants.{Start, Plain, Inside, Closed, Return}
use Rattle.rfc4180.specs.Grammar.{text_data, quotable}

-- the state after a byte that ends a field
abbrev pub after_of : ℕ → Option State
after_of b = cond (b == 0x2C) (Some Start) (cond (b == 0x0D) (Some Return) None)

-- the state after a byte, if a file may have it there
abbrev pub step_of : State → ℕ → Option State
step_of Start b = cond (b == 0x22) (Some Inside) (cond (text_data b) (Some Plain) (after_of b))
step_of Plain b = cond (text_data b) (Some Plain) (after_of b)
step_of Inside b = cond (b == 0x22) (Some Closed) (cond (quotable b) (Some Inside) None)
step_of Closed b = cond (b == 0x22) (Some Inside) (after_of b)
step_of Return b = cond (b == 0x0A) (Some Start) None

-- whether a file may end there
abbrev pub final : State → Bool
final Start = true
final Plain = true
final Inside = false
final Closed = true
final Return = false

-- how many records open after a byte that follows a state, by the bytes behind it: one after the LF
-- of a line end, unless it closes the file
abbrev pub opened : State → List ℕ → ℕ
opened Start bs = 0
opened Plain bs = 0
opened Inside bs = 0
opened Closed bs = 0
opened Return [] = 0
opened Return (b ∷ bs) = 1

-- the rest of a file, from a state at the place i, with n records opened: how many the file has
abbrev pub scan_of : State → ℕ → ℕ → List ℕ → Result ℕ Fault
scan_of s i n [] = cond (final s) (Ok n) (Err (Syntax i))
scan_of s i n (b ∷ bs) =
    elim (step_of s b) [ None ↦ Err (Syntax i) | Some t ↦ scan_of t (i + 1) (n + opened s bs) bs ]
