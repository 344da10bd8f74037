-- The numbers of a record's fields: what each is where it was taken, and which rule it breaks where it was not.
use Rattle.std.proofs.Common.{◌≡◌, ℕ, Bool, true, false, cond, not, ◌&&◌, leb, ◌≢◌, ◌⊎◌, List, [], ◌∷◌, ◌++◌, length, ℤ, pos, nat_abs, is_some, Some, None, Ok, Err, Option, sym, refl, ap, ◌∙◌, subst, inl, inr, ⊎_elim, arith}
use Rattle.std.proofs.lemmas.Option.{same_Some}
use Rattle.std.proofs.lemmas.List.{length-append}
use Rattle.std.proofs.lemmas.Bool.{and_parts, and_from, leb-true, le-leb, cases_Bool, both_ways}
use Rattle.refusals.specs.Checks.{need, after}
use Rattle.refusals.proofs.Checks.{clash, need_ok, need_err, having_ok, having_err, after_ok, after_err}
use Rattle.rfc4180.specs.Places.{Content, plainly, quotedly, nothing, held, Piece}
use Rattle.units.specs.Decimals.{decimal_of, pointed, Reads}
use Rattle.units.specs.Quotients.{Divides, response_of}
use Rattle.units.proofs.Forms.{reads, reads_value}
use Rattle.units.proofs.Division.{divides}
use Rattle.files.specs.declared.fault.FileFault.{FileFault}
use Rattle.files.specs.declared.fault.FileFault.TheVariants.{Form, Change}
use Rattle.files.specs.declared.table.Probe.{Probe}
use Rattle.files.specs.declared.table.Table.{Table}
use Rattle.files.specs.Tables.{probe_of}
use Rattle.files.specs.Numbers.{number_in, is_free, is_step, responds, given_in, change_in, change_of}
use Rattle.files.specs.Responses.{IsNamed, IsFree, IsStep, HasResponse, IsTableOf}

-- A number in a field.

module _ {T : Type 0} (number : Option T) (passes : T → Bool) (malformed refused : FileFault) where
  pub number_ok : (x : T) → number_in number passes malformed refused ≡ Ok x → (number ≡ Some x) × (passes x ≡ true)
  number_ok x e =
      let found = having_ok number malformed (λ y. need (passes y) refused (Ok y)) x e in
      let passed = need_ok (passes found.0) refused (Ok found.0) x found.2 in
      let same : found.0 ≡ x = (let h = passed.1 in cc) in
      (found.1 ∙ ap Some same, subst (λ y. passes y ≡ true) same passed.0)

  pub number_err : (e : FileFault) → number_in number passes malformed refused ≡ Err e →
      ((number ≡ None) × (malformed ≡ e)) ⊎ ((x : T) × (number ≡ Some x) × (passes x ≡ false) × (refused ≡ e))
  number_err e h =
      ⊎_elim
      (λ none. inl none)
      (λ some. ⊎_elim
      (λ bad. inr (some.0, some.1, bad.0, bad.1))
      (λ good. let g = good.1 in clash cc)
      (need_err (passes some.0) refused (Ok some.0) e some.2))
      (having_err number malformed (λ y. need (passes y) refused (Ok y)) e h)

  pub number_taken : (x : T) → number ≡ Some x → passes x ≡ true → number_in number passes malformed refused ≡ Ok x
  number_taken x e t = rw e (rw t refl)

  pub number_malformed : number ≡ None → number_in number passes malformed refused ≡ Err malformed
  number_malformed e = rw e refl

  pub number_refused : (x : T) → number ≡ Some x → passes x ≡ false → number_in number passes malformed refused ≡ Err refused
  number_refused x e f = rw e (rw f refl)

-- What a decimal reads as.

pub decimal_none : (places : ℕ) (text : List ℕ) → decimal_of places text ≡ None → (v : ℤ) → Reads places text (Some v) → ⊥
decimal_none places text e v r =
    let none = subst (Reads places text) e (reads places text) in
    none r.0 r.1 r.2

pub decimal_some : (places : ℕ) (text : List ℕ) (v : ℤ) → decimal_of places text ≡ Some v → Reads places text (Some v)
decimal_some places text v e = subst (Reads places text) e (reads places text)

pub some_decimal : (places : ℕ) (text : List ℕ) (v : ℤ) → Reads places text (Some v) → decimal_of places text ≡ Some v
some_decimal places text v r = sym (ap (decimal_of places) r.2) ∙ reads_value places r.0 r.1 ∙ ap Some (sym r.3)

pub none_decimal : (places : ℕ) (text : List ℕ) → ((v : ℤ) → Reads places text (Some v) → ⊥) → decimal_of places text ≡ None
none_decimal places text never = go (decimal_of places text) refl
  where
    go : (r : Option ℤ) → decimal_of places text ≡ r → r ≡ None
    go None e = refl
    go (Some v) e = absurd (never v (decimal_some places text v e))

pub reads_same : (places : ℕ) (text : List ℕ) (v w : ℤ) → Reads places text (Some v) → Reads places text (Some w) → v ≡ w
reads_same places text v w a b = same_Some v w (sym (some_decimal places text v a) ∙ some_decimal places text w b)

-- nothing is read in no byte
pub nothing_read : (places : ℕ) (v : ℤ) → Reads places [] (Some v) → ⊥
nothing_read places v r = omega (arith, ap length r.2, length-append (cond r.0.minus (0x2D ∷ []) []) (r.0.whole ++ pointed r.0.fraction), length-append r.0.whole (pointed r.0.fraction), r.1.some)

-- The tests of steps and changes.

pub step_is : (s : ℤ) → is_step s ≡ true → IsStep s
step_is s e = let parts = and_parts (leb 1 (nat_abs s)) (leb (nat_abs s) 1000) e in (leb-true 1 (nat_abs s) parts.0, leb-true (nat_abs s) 1000 parts.1)

pub is_a_step : (s : ℤ) → IsStep s → is_step s ≡ true
is_a_step s h = and_from _ _ (le-leb 1 (nat_abs s) h.0) (le-leb (nat_abs s) 1000 h.1)

pub no_step : (s : ℤ) → is_step s ≡ false → IsStep s → ⊥
no_step s e h = both_ways _ e (is_a_step s h)

pub not_a_step : (s : ℤ) → (IsStep s → ⊥) → is_step s ≡ false
not_a_step s h = ⊎_elim (λ t. absurd (h (step_is s t))) (λ f. f) (cases_Bool (is_step s))

pub step_some : (s : ℤ) → IsStep s → s ≡ pos 0 → ⊥
step_some s h e = omega (arith, h.0, ap nat_abs e)

module _ (s v : ℤ) (step : IsStep s) where
  divided : Divides v s (response_of v s)
  divided = divides v s (step_some s step)

  pub response_is : responds s v ≡ true → HasResponse s v
  response_is e = go (response_of v s) e divided
    where
      go : (o : Option ℤ) → is_some o ≡ true → Divides v s o → HasResponse s v
      go None e h = clash cc
      go (Some q) e h = (q, h)

  pub no_response : responds s v ≡ false → HasResponse s v → ⊥
  no_response e (q, h) = go (response_of v s) e divided
    where
      go : (o : Option ℤ) → is_some o ≡ false → Divides v s o → ⊥
      go None e never = never q h.1 h.0
      go (Some r) e d = clash cc

  pub is_response : HasResponse s v → responds s v ≡ true
  is_response h = ⊎_elim (λ t. t) (λ f. absurd (no_response f h)) (cases_Bool (responds s v))

  pub not_response : (HasResponse s v → ⊥) → responds s v ≡ false
  not_response h = ⊎_elim (λ t. absurd (h (response_is t))) (λ f. f) (cases_Bool (responds s v))

-- The inverter, in a table of the records before.

module _ (t : Table) (before : List (List Piece)) (table : IsTableOf before t) where
  -- an inverter that was named before has its place in the table
  pub named_stands : (m : ℕ) → IsNamed before m → (p : Probe) × (probe_of t m ≡ Some p)
  named_stands m (row, has, names) =
      let held = table.each row has in
      let same : held.inverter ≡ m = same_Some _ _ (sym held.names ∙ names) in
      (held.probe, subst (λ k. probe_of t k ≡ Some held.probe) same held.stands)

  pub free_is : (m : ℕ) → is_free t m ≡ true → IsFree t.buses before m
  free_is m e =
      let parts = and_parts (leb 1 m && leb m t.buses) (not (is_some (probe_of t m))) e in
      let range = and_parts (leb 1 m) (leb m t.buses) parts.0 in
      (leb-true 1 m range.0, leb-true m t.buses range.1, λ named. let stands = named_stands m named in taken stands.0 (probe_of t m) stands.1 parts.1)
    where
      taken : (p : Probe) (o : Option Probe) → o ≡ Some p → not (is_some o) ≡ true → ⊥
      taken p None e n = clash cc
      taken p (Some q) e n = clash cc

  pub is_free_so : (m : ℕ) → IsFree t.buses before m → is_free t m ≡ true
  is_free_so m h =
      and_from _ _ (and_from _ _ (le-leb 1 m h.0) (le-leb m t.buses h.1))
      (vacant (probe_of t m) (λ p e. h.2 (table.only m p h.0 e)))
    where
      vacant : (o : Option Probe) → ((p : Probe) → o ≡ Some p → ⊥) → not (is_some o) ≡ true
      vacant None h = refl
      vacant (Some p) h = absurd (h p refl)

  pub not_free : (m : ℕ) → is_free t m ≡ false → IsFree t.buses before m → ⊥
  not_free m e h = both_ways _ e (is_free_so m h)

  pub no_free : (m : ℕ) → (IsFree t.buses before m → ⊥) → is_free t m ≡ false
  no_free m h = ⊎_elim (λ e. absurd (h (free_is m e))) (λ f. f) (cases_Bool (is_free t m))

-- The change of a bus.

-- what a field gives: a change, or none where it is blank
abbrev pub GivesIn : Piece → Option ℤ → Type 0
GivesIn p None = p.content ≡ nothing
GivesIn p (Some v) = Reads 9 (held p.content) (Some v)

-- what a change that was taken has: a response
abbrev pub Taken : ℤ → Option ℤ → Type 0
Taken s None = Unit {0}
Taken s (Some v) = HasResponse s v

module _ (s : ℤ) (step : IsStep s) (p : Piece) where
  abbrev number : Option ℤ
  number = decimal_of 9 (held p.content)

  given_ok : (v : Option ℤ) → given_in s p ≡ Ok v → GivesIn p v × Taken s v
  given_ok v e =
      let cut = after_ok (number_in number (responds s) (Form p.start) (Change p.start)) (λ x. Ok (Some x)) v e in
      let taken = number_ok number (responds s) (Form p.start) (Change p.start) cut.0 cut.1 in
      let same : Some cut.0 ≡ v = (let h = cut.2 in cc) in
      subst (λ o. GivesIn p o × Taken s o) same (decimal_some 9 (held p.content) cut.0 taken.0, response_is s cut.0 step taken.1)

  -- why a field was not taken
  pub data NotTaken : FileFault → Type 0 where
    malformed : ((v : Option ℤ) → GivesIn p v → ⊥) → NotTaken (Form p.start)
    unanswered : (v : ℤ) → GivesIn p (Some v) → (HasResponse s v → ⊥) → NotTaken (Change p.start)

  given_err : (e : FileFault) → p.content ≢ nothing → given_in s p ≡ Err e → NotTaken e
  given_err e full h =
      ⊎_elim
      (λ bad. ⊎_elim
      (λ none. subst NotTaken none.1 (malformed (λ v. never v none.0)))
      (λ some. subst NotTaken some.3 (unanswered some.0 (decimal_some 9 (held p.content) some.0 some.1) (no_response s some.0 step some.2)))
      (number_err number (responds s) (Form p.start) (Change p.start) e bad))
      (λ good. let g = good.2 in clash cc)
      (after_err (number_in number (responds s) (Form p.start) (Change p.start)) (λ x. Ok (Some x)) e h)
    where
      never : (v : Option ℤ) → number ≡ None → GivesIn p v → ⊥
      never None none blank = full blank
      never (Some v) none r = decimal_none 9 (held p.content) none v r

  pub change_ok : (v : Option ℤ) → change_of s p ≡ Ok v → GivesIn p v × Taken s v
  change_ok v e = go p.content refl e
    where
      go : (content : Content) → p.content ≡ content → change_in s p content ≡ Ok v → GivesIn p v × Taken s v
      go (plainly xs) is e = given_ok v e
      go (quotedly xs) is e = given_ok v e
      go nothing is e = let same : None ≡ v = cc in subst (λ o. GivesIn p o × Taken s o) same (is, tt)

  pub change_err : (e : FileFault) → change_of s p ≡ Err e → NotTaken e
  change_err e h = go p.content refl h
    where
      go : (content : Content) → p.content ≡ content → change_in s p content ≡ Err e → NotTaken e
      go (plainly xs) is h = given_err e (λ n. clash cc) h
      go (quotedly xs) is h = given_err e (λ n. clash cc) h
      go nothing is h = clash cc

  -- a field that gives no blank
  filled : (v : ℤ) → GivesIn p (Some v) → p.content ≢ nothing
  filled v r blank = nothing_read 9 v (subst (λ c. Reads 9 (held c) (Some v)) blank r)

  given : p.content ≢ nothing → change_of s p ≡ given_in s p
  given full = go p.content refl
    where
      go : (content : Content) → p.content ≡ content → change_in s p content ≡ given_in s p
      go (plainly xs) is = refl
      go (quotedly xs) is = refl
      go nothing is = absurd (full is)

  pub change_taken : (v : Option ℤ) → GivesIn p v → Taken s v → change_of s p ≡ Ok v
  change_taken None blank h = ap (change_in s p) blank
  change_taken (Some v) r h =
      given (filled v r) ∙ ap (λ o. after o (λ x. Ok (Some x))) (number_taken number (responds s) (Form p.start) (Change p.start) v (some_decimal 9 (held p.content) v r) (is_response s v step h))

  pub change_refused : (e : FileFault) → NotTaken e → change_of s p ≡ Err e
  change_refused e (malformed never) =
      given (never None)
      ∙ ap (λ o. after o (λ x. Ok (Some x))) (number_malformed number (responds s) (Form p.start) (Change p.start) (none_decimal 9 (held p.content) (λ v r. never (Some v) r)))
  change_refused e (unanswered v r h) =
      given (filled v r)
      ∙ ap (λ o. after o (λ x. Ok (Some x))) (number_refused number (responds s) (Form p.start) (Change p.start) v (some_decimal 9 (held p.content) v r) (not_response s v step h))
