-- The bounds of what a table answers: no response is beyond 1,000,000 either way, and a table that was read has 1 to 64 buses.
use Rattle.std.proofs.Common.{◌≡◌, ℕ, zero, suc, ◌≤◌, Bool, true, false, cond, ◌&&◌, eqb, leb, List, get_or, replicate, ℤ, pos, nat_abs, Some, None, Ok, Option, refl, ap, subst, arith}
use Rattle.std.specs.Option.{unwrap_or, option_and_then}
use Rattle.std.specs.Prelude.{int_div, int_rem}
use Rattle.std.proofs.lemmas.Option.{cond_some}
use Rattle.std.proofs.lemmas.Bool.{and_parts, and_from, leb-true, le-leb}
use Rattle.refusals.proofs.Checks.{clash}
use Rattle.units.specs.Quotients.{Moderate, response_of}
use Rattle.files.specs.declared.table.Probe.{Probe}
use Rattle.files.specs.declared.table.Table.{Table}
use Rattle.files.specs.Tables.{probe_of, change_at, response_in, response_to}
use Rattle.files.specs.Responses.{Reading}
use Rattle.files.proofs.Outcomes.{accepted}

-- a list of one value has it everywhere
pub everywhere : {A : Type 0} (n i : ℕ) (a : A) → get_or (replicate n a) i a ≡ a
everywhere zero i a = refl
everywhere (suc n) zero a = refl
everywhere (suc n) (suc i) a = everywhere n i a

zero_moderate : Moderate (pos 0)
zero_moderate = omega arith

quotient_moderate : (v s q : ℤ) → response_of v s ≡ Some q → Moderate q
quotient_moderate v s q e = go (eqb (nat_abs s) 0) e
  where
    whole : Bool
    whole = eqb (nat_abs (int_rem v s)) 0 && leb (nat_abs (int_div v s)) 1000000

    go : (none : Bool) → cond none None (cond whole (Some (int_div v s)) None) ≡ Some q → Moderate q
    go true e = clash cc
    go false e =
        let found = cond_some whole (int_div v s) q e in
        let small = leb-true (nat_abs (int_div v s)) 1000000 (and_parts (eqb (nat_abs (int_rem v s)) 0) (leb (nat_abs (int_div v s)) 1000000) found.0).1 in
        subst Moderate found.1 small

pub response_moderate : (o : Option Probe) (n : ℕ) → nat_abs (response_in o n) ≤ 1000000
response_moderate None n = zero_moderate
response_moderate (Some p) n = go (change_at p n)
  where
    answered : (v : ℤ) (o : Option ℤ) → response_of v p.step ≡ o → Moderate (unwrap_or o (pos 0))
    answered v None e = zero_moderate
    answered v (Some q) e = quotient_moderate v p.step q e

    go : (v : Option ℤ) → Moderate (unwrap_or (option_and_then (λ w. response_of w p.step) v) (pos 0))
    go None = zero_moderate
    go (Some v) = answered v (response_of v p.step) refl

-- the response of a bus and an inverter that are both counted from 1
pub response_there : (t : Table) (n m : ℕ) → 1 ≤ n → 1 ≤ m → response_to t n m ≡ response_in (probe_of t m) n
response_there t n m a b =
    ap (λ c. cond c (response_in (probe_of t m) n) (pos 0)) (and_from (leb 1 n) (leb 1 m) (le-leb 1 n a) (le-leb 1 m b))

pub accepted_few : (bytes : List ℕ) (t : Table) → Reading bytes (Ok t) → (1 ≤ t.buses) × (t.buses ≤ 64)
accepted_few bytes t reading = let header = (accepted bytes t reading).2.header in (header.some, header.most)
