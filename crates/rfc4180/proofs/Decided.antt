-- The scan's answer, in the words of the grammar and of its records.
use Rattle.std.proofs.Common.{◌≡◌, ℕ, suc, ◌≤◌, false, List, ◌++◌, length, take, Ok, Err, Result, IfOk, sym, ap, ◌∙◌, subst, add-one, arith}
use Rattle.std.proofs.lemmas.Bool.{both_ways}
use Rattle.rfc4180.specs.declared.fault.Fault.{Fault}
use Rattle.rfc4180.specs.declared.fault.Fault.TheVariants.{TooLong, Syntax}
use Rattle.rfc4180.specs.declared.automaton.State.TheVariants.{Start}
use Rattle.rfc4180.specs.Automaton.{scan_of}
use Rattle.rfc4180.specs.Grammar.{Csv, Impossible}
use Rattle.rfc4180.specs.Reading.{records_at}
use Rattle.rfc4180.specs.Check.{Verdict}
use Rattle.rfc4180.proofs.Accepts.{accepts, Wrong, Found, found}
use Rattle.rfc4180.proofs.Complete.{complete}
use Rattle.rfc4180.proofs.Sound.{sound}
use Rattle.rfc4180.proofs.Openings.{opened_records}
use Rattle.rfc4180.proofs.Parses.{parses}

refused : (bytes : List ℕ) → accepts Start bytes ≡ false → Csv bytes → ⊥
refused bytes h (f, g, e) = both_ways (accepts Start bytes) h (ap (accepts Start) (sym e) ∙ complete f g)

impossible : (bytes : List ℕ) (i : ℕ) → Wrong Start bytes i → Impossible bytes i
impossible bytes i w =
    record {
      within = w.within;
      before = (w.before.0, sound (take i bytes ++ w.before.0) w.before.1);
      byte = λ l (more, c). refused (take (suc i) bytes ++ more) (w.byte l more) (rw add-one at c);
      end = λ l. refused bytes (w.end l);
    }

decided : (bytes : List ℕ) → length bytes ≤ 65536 → (r : Result ℕ Fault) → Found Start 0 1 bytes r → Verdict bytes r
decided bytes l (Ok m) (h, k) = (l, sound bytes h)
decided bytes l (Err TooLong) h = absurd h
decided bytes l (Err (Syntax i)) (j, e, w) =
    let same : j ≡ i = omega arith in
    (l, impossible bytes i (subst (λ (k : ℕ). Wrong Start bytes k) same w))

pub verdict : (bytes : List ℕ) → length bytes ≤ 65536 → Verdict bytes (scan_of Start 0 1 bytes)
verdict bytes l = decided bytes l (scan_of Start 0 1 bytes) (found Start 0 1 bytes)

count : (bytes : List ℕ) (r : Result ℕ Fault) → Found Start 0 1 bytes r → IfOk r (λ n. n ≡ length (records_at bytes 0))
count bytes (Ok n) (h, k) = let p = parses bytes (sound bytes h) in k ∙ opened_records p.0 bytes p.1
count bytes (Err TooLong) h = tt
count bytes (Err (Syntax i)) h = tt

pub counted : (bytes : List ℕ) → IfOk (scan_of Start 0 1 bytes) (λ n. n ≡ length (records_at bytes 0))
counted bytes = count bytes (scan_of Start 0 1 bytes) (found Start 0 1 bytes)
