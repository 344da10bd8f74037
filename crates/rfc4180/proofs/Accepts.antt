-- What the automaton accepts, how many records open on the way, and what its scan then answers.
use Rattle.std.proofs.Common.{◌≡◌, ℕ, suc, ◌+◌, ◌<◌, ◌≤◌, Bool, true, false, cond, List, [], ◌∷◌, ◌++◌, length, take, Some, None, Ok, Err, Option, Result, refl, ap, ◌∙◌, arith}
use Rattle.rfc4180.specs.declared.fault.Fault.{Fault}
use Rattle.rfc4180.specs.declared.fault.Fault.TheVariants.{TooLong, Syntax}
use Rattle.rfc4180.specs.declared.automaton.State.{State}
use Rattle.rfc4180.specs.declared.automaton.State.TheVariants.{Start, Plain, Inside, Closed, Return}
use Rattle.rfc4180.specs.Automaton.{step_of, final, opened, scan_of}

abbrev pub accepts : State → List ℕ → Bool
accepts s [] = final s
accepts s (b ∷ bs) = elim (step_of s b) [ None ↦ false | Some t ↦ accepts t bs ]

-- the same from the state after a step, if there is one
abbrev pub goes_on : Option State → List ℕ → Bool
goes_on None bs = false
goes_on (Some t) bs = accepts t bs

went : (o : Option State) (bs : List ℕ) → elim o as (λ _. Bool) [ None ↦ false | Some t ↦ accepts t bs ] ≡ goes_on o bs
went None bs = refl
went (Some t) bs = refl

pub accepts_step : (s : State) (b : ℕ) (bs : List ℕ) (o : Option State) → step_of s b ≡ o → accepts s (b ∷ bs) ≡ goes_on o bs
accepts_step s b bs o e = went (step_of s b) bs ∙ ap (λ (o : Option State). goes_on o bs) e

-- how many records open in the bytes after a state
abbrev pub openings : State → List ℕ → ℕ
openings s [] = 0
openings s (b ∷ bs) = opened s bs + elim (step_of s b) [ None ↦ 0 | Some t ↦ openings t bs ]

abbrev pub opening_on : Option State → List ℕ → ℕ
opening_on None bs = 0
opening_on (Some t) bs = openings t bs

opening : (o : Option State) (bs : List ℕ) → elim o as (λ _. ℕ) [ None ↦ 0 | Some t ↦ openings t bs ] ≡ opening_on o bs
opening None bs = refl
opening (Some t) bs = refl

pub openings_step : (s : State) (b : ℕ) (bs : List ℕ) (o : Option State) → step_of s b ≡ o → openings s (b ∷ bs) ≡ opened s bs + opening_on o bs
openings_step s b bs o e = ap (λ n. opened s bs + n) (opening (step_of s b) bs ∙ ap (λ (o : Option State). opening_on o bs) e)

-- from every state a file can be ended
abbrev ending : State → List ℕ
ending Start = []
ending Plain = []
ending Inside = 0x22 ∷ []
ending Closed = []
ending Return = 0x0A ∷ []

live : (s : State) → accepts s (ending s) ≡ true
live Start = refl
live Plain = refl
live Inside = refl
live Closed = refl
live Return = refl

-- what is wrong at the place j of bytes that follow the state s
pub record Wrong (s : State) (bytes : List ℕ) (j : ℕ) : Type 0 where
  pub within : j ≤ length bytes
  pub before : (more : List ℕ) × (accepts s (take j bytes ++ more) ≡ true)
  pub byte : j < length bytes → (more : List ℕ) → accepts s (take (suc j) bytes ++ more) ≡ false
  pub end : j ≡ length bytes → accepts s bytes ≡ false

-- what the scan of bytes from the place i answers, with n records opened before
abbrev pub Found : State → ℕ → ℕ → List ℕ → Result ℕ Fault → Type 0
Found s i n bytes (Ok m) = (accepts s bytes ≡ true) × (m ≡ n + openings s bytes)
Found s i n bytes (Err TooLong) = ⊥
Found s i n bytes (Err (Syntax at)) = (j : ℕ) × (at ≡ i + j) × Wrong s bytes j

wrong_end : (s : State) → final s ≡ false → Wrong s [] 0
wrong_end s h =
    record { within = omega arith; before = (ending s, live s); byte = λ l. absurd (omega arith); end = λ _. h }

found_end : (s : State) (i n : ℕ) (b : Bool) → final s ≡ b → Found s i n [] (cond b (Ok n) (Err (Syntax i)))
found_end s i n true h = (h, omega arith)
found_end s i n false h = (0, omega arith, wrong_end s h)

lift : (s t : State) (b i n : ℕ) (bs : List ℕ) → step_of s b ≡ Some t → (r : Result ℕ Fault) → Found t (i + 1) (n + opened s bs) bs r → Found s i n (b ∷ bs) r
lift s t b i n bs e (Ok m) (h, k) = (accepts_step s b bs (Some t) e ∙ h, omega (arith, k, openings_step s b bs (Some t) e))
lift s t b i n bs e (Err TooLong) h = h
lift s t b i n bs e (Err (Syntax at)) (j, p, w) = (
  suc j,
  omega arith,
  record {
    within = omega (arith, w.within);
    before = (w.before.0, accepts_step s b (take j bs ++ w.before.0) (Some t) e ∙ w.before.1);
    byte = λ l more. accepts_step s b (take (suc j) bs ++ more) (Some t) e ∙ w.byte (omega arith) more;
    end = λ l. accepts_step s b bs (Some t) e ∙ w.end (omega arith);
  },
)

found_step : (s : State) (i n b : ℕ) (bs : List ℕ) (o : Option State) → step_of s b ≡ o → ((t : State) → Found t (i + 1) (n + opened s bs) bs (scan_of t (i + 1) (n + opened s bs) bs)) → Found s i n (b ∷ bs) (elim o as (λ _. Result ℕ Fault) [ None ↦ Err (Syntax i) | Some t ↦ scan_of t (i + 1) (n + opened s bs) bs ])
found_step s i n b bs None e ih = (
  0,
  omega arith,
  record {
    within = omega arith;
    before = (ending s, live s);
    byte = λ l more. accepts_step s b more None e;
    end = λ l. absurd (omega arith);
  },
)
found_step s i n b bs (Some t) e ih = lift s t b i n bs e (scan_of t (i + 1) (n + opened s bs) bs) (ih t)

pub found : (s : State) (i n : ℕ) (bytes : List ℕ) → Found s i n bytes (scan_of s i n bytes)
found s i n [] = found_end s i n (final s) refl
found s i n (b ∷ bs) = found_step s i n b bs (step_of s b) refl (λ t. found t (i + 1) (n + opened s bs) bs)
