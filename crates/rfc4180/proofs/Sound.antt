-- What the automaton accepts is a file of the grammar.
use Rattle.std.proofs.Common.{◌≡◌, ℕ, Bool, true, false, cond, eqb, ◌⊎◌, List, [], ◌∷◌, ◌++◌, Some, None, Option, sym, refl, ap, ◌∙◌, subst, inl, inr, append_assoc, append-nil, arith}
use Rattle.std.proofs.lemmas.Bool.{and_from, cond_both, eqb-true, both_ways}
use Rattle.rfc4180.specs.declared.automaton.State.{State}
use Rattle.rfc4180.specs.declared.automaton.State.TheVariants.{Start, Plain, Inside, Closed, Return}
use Rattle.rfc4180.specs.Automaton.{step_of, after_of, final}
use Rattle.rfc4180.specs.Grammar.{text_data, quotable, Field, plain, quoted, lone, beside, Records, last, above, every, good_field, good_record, good_records, doubled, field_text, record_text, records_text, Csv}
use Rattle.rfc4180.proofs.Accepts.{accepts, goes_on, accepts_step}

-- records with no closing CR LF
abbrev Rows : List ℕ → Type 0
Rows xs = (rs : Records) × (good_records rs ≡ true) × (records_text rs ≡ xs)

-- a field and a comma before the first record
abbrev widen : Field → Records → Records
widen f (last r) = last (beside f r)
widen f (above r rs) = above (beside f r) rs

widen_good : (f : Field) (rs : Records) → good_field f ≡ true → good_records rs ≡ true → good_records (widen f rs) ≡ true
widen_good f (last r) h k = and_from (good_field f) (good_record r) h k
widen_good f (above r rs) h k = grind arith

widen_text : (f : Field) (rs : Records) → records_text (widen f rs) ≡ field_text f ++ 0x2C ∷ records_text rs
widen_text f (last r) = refl
widen_text f (above r rs) = append_assoc (field_text f) (0x2C ∷ record_text r) (0x0D ∷ 0x0A ∷ records_text rs)

-- what follows a field: the end, a comma or CR LF
data Gap : Type 0 where
  comma : Gap
  line : Gap

abbrev gap : Gap → List ℕ
gap comma = 0x2C ∷ []
gap line = 0x0D ∷ 0x0A ∷ []

abbrev Tail : List ℕ → Type 0
Tail zs = (zs ≡ []) ⊎ ((g : Gap) × (ys : List ℕ) × Rows ys × (zs ≡ gap g ++ ys))

begin : (f : Field) (zs : List ℕ) → good_field f ≡ true → Tail zs → Rows (field_text f ++ zs)
begin f zs h (inl e) = (last (lone f), h, sym (append-nil (field_text f)) ∙ ap (λ l. field_text f ++ l) (sym e))
begin f zs h (inr (comma, ys, (rs, k, t), e)) =
    (widen f rs, widen_good f rs h k, widen_text f rs ∙ (cc))
begin f zs h (inr (line, ys, (rs, k, t), e)) = (above (lone f) rs, and_from (good_field f) (good_records rs) h k, cc)

-- the rest of a quoted field, and what follows it
abbrev Held : List ℕ → Type 0
Held xs = (ps : List ℕ) × (zs : List ℕ) × (every quotable ps ≡ true) × Tail zs × (xs ≡ doubled ps ++ 0x22 ∷ zs)

-- what the bytes after a state are
abbrev Rest : State → List ℕ → Type 0
Rest Start xs = Rows xs
Rest Plain xs = (ps : List ℕ) × (zs : List ℕ) × (every text_data ps ≡ true) × Tail zs × (xs ≡ ps ++ zs)
Rest Inside xs = Held xs
Rest Closed xs = Tail xs ⊎ ((ys : List ℕ) × Held ys × (xs ≡ 0x22 ∷ ys))
Rest Return xs = (ys : List ℕ) × Rows ys × (xs ≡ 0x0A ∷ ys)

abbrev RestOn : Option State → List ℕ → Type 0
RestOn None xs = ⊥
RestOn (Some t) xs = Rest t xs

-- where a file may end, a field may end
ended : (s : State) (xs : List ℕ) → final s ≡ true → Tail xs → Rest s xs
ended Start xs h t = begin (plain []) xs refl t
ended Plain xs h t = ([], xs, refl, t, refl)
ended Inside xs h t = absurd (both_ways false refl h)
ended Closed xs h t = inl t
ended Return xs h t = absurd (both_ways false refl h)

after : (b : ℕ) (bs : List ℕ) → RestOn (after_of b) bs → Tail (b ∷ bs)
after b bs =
    let P : Option State → Type 0 = λ o. RestOn o bs → Tail (b ∷ bs) in
    cond_both (eqb b 0x2C) (Some Start) (cond (eqb b 0x0D) (Some Return) None) P
    (λ h r. let e = eqb-true b 0x2C h in inr (comma, bs, r, cc))
    (λ _. cond_both (eqb b 0x0D) (Some Return) None P
    (λ h r. let e = eqb-true b 0x0D h in inr (line, r.0, r.1, cc))
    (λ _ r. absurd r))

text : (b : ℕ) (bs : List ℕ) → text_data b ≡ true → Rest Plain bs → Rest Plain (b ∷ bs)
text b bs h (ps, zs, a, t, e) = (b ∷ ps, zs, and_from (text_data b) (every text_data ps) h a, t, cc)

opened : (bs : List ℕ) → Rest Plain bs → Rows bs
opened bs (ps, zs, a, t, e) = subst Rows (sym e) (begin (plain ps) zs a t)

quote : (bs : List ℕ) → Held bs → Rows (0x22 ∷ bs)
quote bs (ps, zs, a, t, e) =
    subst Rows (ap (λ l. 0x22 ∷ l) (append_assoc (doubled ps) (0x22 ∷ []) zs ∙ sym e)) (begin (quoted ps) zs a t)

held : (b : ℕ) (bs : List ℕ) → quotable b ≡ true → eqb b 0x22 ≡ false → Held bs → Held (b ∷ bs)
held b bs h n (ps, zs, a, t, e) =
    (b ∷ ps, zs, and_from (quotable b) (every quotable ps) h a, t, ap (λ l. b ∷ l) e ∙ ap (λ (v : Bool). cond v (0x22 ∷ 0x22 ∷ doubled ps) (b ∷ doubled ps) ++ 0x22 ∷ zs) (sym n))

closes : (bs : List ℕ) → Rest Closed bs → Held (0x22 ∷ bs)
closes bs (inl t) = ([], bs, refl, t, refl)
closes bs (inr (ys, (ps, zs, a, t, e), q)) = (0x22 ∷ ps, zs, a, t, cc)

at_byte : (s : State) (b c : ℕ) (bs : List ℕ) → eqb b c ≡ true → Rest s (c ∷ bs) → Rest s (b ∷ bs)
at_byte s b c bs h r = subst (λ (x : ℕ). Rest s (x ∷ bs)) (sym (eqb-true b c h)) r

turn : (s : State) (b : ℕ) (bs : List ℕ) → RestOn (step_of s b) bs → Rest s (b ∷ bs)
turn Start b bs =
    let P : Option State → Type 0 = λ o. RestOn o bs → Rest Start (b ∷ bs) in
    cond_both (eqb b 0x22) (Some Inside) (cond (text_data b) (Some Plain) (after_of b)) P
    (λ h r. at_byte Start b 0x22 bs h (quote bs r))
    (λ _. cond_both (text_data b) (Some Plain) (after_of b) P
    (λ h r. opened (b ∷ bs) (text b bs h r))
    (λ _ r. ended Start (b ∷ bs) refl (after b bs r)))
turn Plain b bs =
    let P : Option State → Type 0 = λ o. RestOn o bs → Rest Plain (b ∷ bs) in
    cond_both (text_data b) (Some Plain) (after_of b) P (text b bs) (λ _ r. ended Plain (b ∷ bs) refl (after b bs r))
turn Inside b bs =
    let P : Option State → Type 0 = λ o. RestOn o bs → Rest Inside (b ∷ bs) in
    cond_both (eqb b 0x22) (Some Closed) (cond (quotable b) (Some Inside) None) P
    (λ h r. at_byte Inside b 0x22 bs h (closes bs r))
    (λ n. cond_both (quotable b) (Some Inside) None P (λ h r. held b bs h n r) (λ _ r. absurd r))
turn Closed b bs =
    let P : Option State → Type 0 = λ o. RestOn o bs → Rest Closed (b ∷ bs) in
    cond_both (eqb b 0x22) (Some Inside) (after_of b) P
    (λ h r. at_byte Closed b 0x22 bs h (inr (bs, r, refl)))
    (λ _ r. ended Closed (b ∷ bs) refl (after b bs r))
turn Return b bs =
    let P : Option State → Type 0 = λ o. RestOn o bs → Rest Return (b ∷ bs) in
    cond_both (eqb b 0x0A) (Some Start) None P (λ h r. at_byte Return b 0x0A bs h (bs, r, refl)) (λ _ r. absurd r)

went_on : (o : Option State) (bs : List ℕ) → ((t : State) → accepts t bs ≡ true → Rest t bs) → goes_on o bs ≡ true → RestOn o bs
went_on None bs ih h = both_ways false refl h
went_on (Some t) bs ih h = ih t h

rest : (s : State) (xs : List ℕ) → accepts s xs ≡ true → Rest s xs
rest s [] h = ended s [] h (inl refl)
rest s (b ∷ bs) h = turn s b bs (went_on (step_of s b) bs (λ t. rest t bs) (sym (accepts_step s b bs (step_of s b) refl) ∙ h))

pub sound : (xs : List ℕ) → accepts Start xs ≡ true → Csv xs
sound xs h =
    let r = rest Start xs h in
    (record { records = r.0; closed = false }, r.1, append-nil (records_text r.0) ∙ r.2)
