-- One record: where it breaks no rule the table takes what it gives, and else its fault is the first rule that it breaks.
use Rattle.std.proofs.Common.{◌≡◌, ℕ, zero, suc, ◌+◌, ◌-◌, ◌<◌, ◌≤◌, true, eqb, ◌≢◌, ◌⊎◌, List, [], ◌∷◌, ◌++◌, length, get_or, drop, replicate, ℤ, set, Some, None, Ok, Err, Option, Result, sym, refl, ap, ◌∙◌, subst, inl, inr, ⊎_elim, arith}
use Rattle.std.specs.List.{Contains}
use Rattle.std.proofs.lemmas.Option.{same_Some}
use Rattle.std.proofs.lemmas.List.{length-set, length-drop, length-replicate, length_push, get_or-drop, get_or-set_same, get_or-set_other, get_or_append_left, get_or_push}
use Rattle.std.proofs.lemmas.Bool.{eqb-true, eq-eqb, ne_eqb, cases_lt, cases_eq, both_ways}
use Rattle.refusals.specs.Checks.{need, after}
use Rattle.refusals.proofs.Checks.{clash, need_ok, need_err, after_ok, after_err}
use Rattle.rfc4180.specs.Places.{held, Piece, start_of}
use Rattle.units.specs.Decimals.{bus_of, decimal_of, Reads}
use Rattle.files.specs.declared.fault.FileFault.{FileFault}
use Rattle.files.specs.declared.fault.FileFault.TheVariants.{FieldCount, Form, Inverter, Step, Change}
use Rattle.files.specs.declared.table.Probe.{Probe}
use Rattle.files.specs.declared.table.Table.{Table}
use Rattle.files.specs.Fields.{field_of, text_at, start_at}
use Rattle.files.specs.Tables.{probe_of, change_at}
use Rattle.files.specs.Numbers.{is_free, inverter_of, is_step, step_of, change_of}
use Rattle.files.specs.Rows.{changes_from, no_changes, joined, row_of}
use Rattle.files.specs.Responses.{Names, HasStep, GivesIfAny, IsNamed, IsFree, IsStep, HasResponse, IsRightAt, IsRight, IsRightUpTo, RecordFault, count, form, inverter, step, change, Holds, IsProbe, IsTableOf}
use Rattle.files.proofs.Entries.{number_ok, number_err, number_taken, number_malformed, number_refused, decimal_none, decimal_some, some_decimal, none_decimal, reads_same, step_is, is_a_step, no_step, not_a_step, free_is, is_free_so, not_free, no_free, GivesIn, NotTaken, malformed, unanswered, change_ok, change_err, change_taken, change_refused}

same_ok : {T : Type 0} {x y : T} → ◌≡◌ {A = Result T FileFault} (Ok x) (Ok y) → x ≡ y
same_ok e = cc

-- The changes, field by field.

-- each of these fields gives a change that has a response, or is blank
abbrev AllTaken : ℤ → List Piece → ℕ → Type 0
AllTaken s ps n = (i : ℕ) → i < n → (v : Option ℤ) × (change_of s (field_of ps i) ≡ Ok v)

-- changes with those of the fields from place k on, and at the other places as they were
record Changed (s : ℤ) (k : ℕ) (ps : List Piece) (old new : List (Option ℤ)) : Type 0 where
  places : length new ≡ 64
  within : (i : ℕ) → i < length ps → change_of s (field_of ps i) ≡ Ok (get_or new (k + i) None)
  beside : (i : ℕ) → (i < k) ⊎ (k + length ps ≤ i) → get_or new i None ≡ get_or old i None

module _ (s : ℤ) where
  changes_ok : (k : ℕ) (old : List (Option ℤ)) (ps : List Piece) (new : List (Option ℤ)) → length old ≡ 64 → k + length ps ≤ 64 → changes_from s k old ps ≡ Ok new → Changed s k ps old new
  changes_ok k old [] new w l e =
      let same : old ≡ new = cc in
      subst (Changed s k [] old) same (record { places = w; within = λ i h. absurd (omega arith); beside = λ i h. refl })
  changes_ok k old (p ∷ ps) new w l e =
      let cut = after_ok (change_of s p) (λ v. changes_from s (k + 1) (set old k v) ps) new e in
      let next = set old k cut.0 in
      let rest = changes_ok (k + 1) next ps new (length-set old k cut.0 ∙ w) (omega arith) cut.2 in
      let here : get_or new k None ≡ cut.0 = rest.beside k (inl (omega arith)) ∙ get_or-set_same old k cut.0 None (omega arith) in
      record {
        places = rest.places;
        within = λ i. at i cut.0 cut.1 here rest;
        beside = λ i h. rest.beside i (⊎_elim (λ m. inl (omega arith)) (λ m. inr (omega arith)) h) ∙ get_or-set_other old k i cut.0 None (λ f. ⊎_elim (λ m. omega arith) (λ m. omega arith) h);
      }
    where
      at : (i : ℕ) (v : Option ℤ) → change_of s p ≡ Ok v → get_or new k None ≡ v → Changed s (k + 1) ps (set old k v) new → i < length (p ∷ ps) → change_of s (field_of (p ∷ ps) i) ≡ Ok (get_or new (k + i) None)
      at zero v e here rest h = e ∙ ap Ok (sym here) ∙ ap (λ j. Ok (get_or new j None)) (omega arith)
      at (suc i) v e here rest h = rest.within i (omega arith) ∙ ap (λ j. Ok (get_or new j None)) (omega arith)

  changes_err : (k : ℕ) (old : List (Option ℤ)) (ps : List Piece) (e : FileFault) → changes_from s k old ps ≡ Err e →
      (i : ℕ) × (i < length ps) × AllTaken s ps i × (change_of s (field_of ps i) ≡ Err e)
  changes_err k old [] e h = clash cc
  changes_err k old (p ∷ ps) e h =
      ⊎_elim
      (λ bad. (0, omega arith, (λ i l. absurd (omega arith)), bad))
      (λ good. let rest = changes_err (k + 1) (set old k good.0) ps e good.2 in (suc rest.0, omega (arith, rest.1), (λ i. left i rest.0 good.0 good.1 rest.2), rest.3))
      (after_err (change_of s p) (λ v. changes_from s (k + 1) (set old k v) ps) e h)
    where
      left : (i n : ℕ) (v : Option ℤ) → change_of s p ≡ Ok v → AllTaken s ps n → i < suc n → (w : Option ℤ) × (change_of s (field_of (p ∷ ps) i) ≡ Ok w)
      left zero n v e rest l = (v, e)
      left (suc i) n v e rest l = rest i (omega arith)

  behind : (p : Piece) (ps : List Piece) (n : ℕ) → AllTaken s (p ∷ ps) (suc n) → AllTaken s ps n
  behind p ps n all i l = all (suc i) (omega arith)

  changes_taken : (k : ℕ) (old : List (Option ℤ)) (ps : List Piece) → AllTaken s ps (length ps) → (new : List (Option ℤ)) × (changes_from s k old ps ≡ Ok new)
  changes_taken k old [] all = (old, refl)
  changes_taken k old (p ∷ ps) all =
      let first = all 0 (omega arith) in
      let rest = changes_taken (k + 1) (set old k first.0) ps (behind p ps (length ps) all) in
      (rest.0, ap (λ o. after o (λ v. changes_from s (k + 1) (set old k v) ps)) first.1 ∙ rest.1)

  changes_refused : (k : ℕ) (old : List (Option ℤ)) (ps : List Piece) (i : ℕ) (e : FileFault) → i < length ps → AllTaken s ps i → change_of s (field_of ps i) ≡ Err e → changes_from s k old ps ≡ Err e
  changes_refused k old [] i e l all bad = absurd (omega arith)
  changes_refused k old (p ∷ ps) zero e l all bad = ap (λ o. after o (λ v. changes_from s (k + 1) (set old k v) ps)) bad
  changes_refused k old (p ∷ ps) (suc i) e l all bad =
      let first = all 0 (omega arith) in
      ap (λ o. after o (λ v. changes_from s (k + 1) (set old k v) ps)) first.1
      ∙ changes_refused (k + 1) (set old k first.0) ps i e (omega arith) (behind p ps i all) bad

-- The fields of a record and what stands in them.

behind_two : (row : List Piece) (k : ℕ) → field_of (drop 2 row) k ≡ field_of row (suc (suc k))
behind_two row k = get_or-drop 2 row k _ ∙ ap (field_of row) (omega arith)

at_bus : (row : List Piece) (k : ℕ) → field_of row (k + 1 + 1) ≡ field_of row (suc (suc k))
at_bus row k = ap (field_of row) (omega arith)

gives_if_any : (row : List Piece) (k : ℕ) (v : Option ℤ) → GivesIn (field_of row (suc (suc k))) v → GivesIfAny row (k + 1) v
gives_if_any row k None h = ap (λ p. p.content) (at_bus row k) ∙ h
gives_if_any row k (Some v) h = subst (λ (p : Piece). Reads 9 (held p.content) (Some v)) (sym (at_bus row k)) h

if_any_gives : (row : List Piece) (k : ℕ) (v : Option ℤ) → GivesIfAny row (k + 1) v → GivesIn (field_of row (suc (suc k))) v
if_any_gives row k None h = ap (λ p. p.content) (sym (at_bus row k)) ∙ h
if_any_gives row k (Some v) h = subst (λ (p : Piece). Reads 9 (held p.content) (Some v)) (at_bus row k) h

module _ (t : Table) (few : t.buses ≤ 64) (before : List (List Piece)) (table : IsTableOf before t) (row : List Piece) where
  abbrev n : ℕ
  n = t.buses

  -- the inverter

  inverter_ok : (m : ℕ) → inverter_of t (field_of row 0) ≡ Ok m → Names row m × IsFree n before m
  inverter_ok m e =
      let taken = number_ok (bus_of (text_at row 0)) (is_free t) (Form (start_at row 0)) (Inverter (start_at row 0)) m e in
      (taken.0, free_is t before table m taken.1)

  inverter_right : (m : ℕ) → inverter_of t (field_of row 0) ≡ Ok m → IsRightAt n before row 0
  inverter_right m e = let taken = inverter_ok m e in (m, taken.0, taken.1)

  right_inverter : IsRightAt n before row 0 → (m : ℕ) × (inverter_of t (field_of row 0) ≡ Ok m)
  right_inverter (m, names, free) = (m, number_taken (bus_of (text_at row 0)) (is_free t) _ _ m names (is_free_so t before table m free))

  -- the step

  step_ok : (s : ℤ) → step_of (field_of row 1) ≡ Ok s → HasStep row s × IsStep s
  step_ok s e =
      let taken = number_ok (decimal_of 3 (text_at row 1)) is_step (Form (start_at row 1)) (Step (start_at row 1)) s e in
      (decimal_some 3 (text_at row 1) s taken.0, step_is s taken.1)

  step_right : (s : ℤ) → step_of (field_of row 1) ≡ Ok s → IsRightAt n before row 1
  step_right s e = let taken = step_ok s e in (s, taken.0, taken.1)

  right_step : IsRightAt n before row 1 → (s : ℤ) × (step_of (field_of row 1) ≡ Ok s)
  right_step (s, has, is) = (s, number_taken (decimal_of 3 (text_at row 1)) is_step _ _ s (some_decimal 3 (text_at row 1) s has) (is_a_step s is))

  -- the changes

  module _ (s : ℤ) (has : HasStep row s) (is : IsStep s) where
    change_right : (k : ℕ) (v : Option ℤ) → change_of s (field_of row (suc (suc k))) ≡ Ok v → GivesIfAny row (k + 1) v × IsRightAt n before row (suc (suc k))
    change_right k None e = let taken = change_ok s is (field_of row (suc (suc k))) None e in let gives = gives_if_any row k None taken.0 in (gives, inl gives)
    change_right k (Some v) e = let taken = change_ok s is (field_of row (suc (suc k))) (Some v) e in let gives = gives_if_any row k (Some v) taken.0 in (gives, inr (v, s, gives, has, taken.1))

    right_change : (k : ℕ) → IsRightAt n before row (suc (suc k)) → (v : Option ℤ) × (change_of s (field_of row (suc (suc k))) ≡ Ok v)
    right_change k =
        ⊎_elim
        (λ blank. (None, change_taken s is (field_of row (suc (suc k))) None (if_any_gives row k None blank) tt))
        (λ given. let same = reads_same 3 (text_at row 1) given.1 s given.3 has in
        (Some given.0, change_taken s is (field_of row (suc (suc k))) (Some given.0) (if_any_gives row k (Some given.0) given.2) (subst (λ x. HasResponse x given.0) same given.4)))

    module _ (counted : length row ≡ n + 2) where
      wide : length (drop 2 row) ≡ n
      wide = length-drop 2 row ∙ omega arith

      taken_right : (k : ℕ) → AllTaken s (drop 2 row) k → (i : ℕ) → i < k → IsRightAt n before row (suc (suc i))
      taken_right k all i l =
          let found = all i l in
          (change_right i found.0 (ap (change_of s) (sym (behind_two row i)) ∙ found.1)).1

      right_taken : (k : ℕ) → ((i : ℕ) → i < k → IsRightAt n before row (suc (suc i))) → AllTaken s (drop 2 row) k
      right_taken k all i l =
          let found = right_change i (all i l) in
          (found.0, ap (change_of s) (behind_two row i) ∙ found.1)

      -- all of the first fields and of the changes so far
      up_to : IsRightAt n before row 0 → IsRightAt n before row 1 → (k : ℕ) → ((i : ℕ) → i < k → IsRightAt n before row (suc (suc i))) → (i : ℕ) → i < suc (suc k) → IsRightAt n before row i
      up_to first second k all zero l = first
      up_to first second k all (suc zero) l = second
      up_to first second k all (suc (suc i)) l = all i (omega arith)

      -- a field that was not taken is the first that breaks a rule
      changes_fault : IsRightAt n before row 0 → IsRightAt n before row 1 → (e : FileFault) (i : ℕ) → i < n → AllTaken s (drop 2 row) i → change_of s (field_of (drop 2 row) i) ≡ Err e → RecordFault n before row e
      changes_fault first second e i l all bad =
          go e (change_err s is (field_of row (suc (suc i))) e (ap (change_of s) (sym (behind_two row i)) ∙ bad))
        where
          right : IsRightUpTo n before row (suc (suc i))
          right = record { fields = counted; within = omega arith; left = up_to first second i (taken_right i all) }

          right_there : IsRightUpTo n before row (i + 2)
          right_there = let same : suc (suc i) ≡ i + 2 = omega arith in subst (IsRightUpTo n before row) same right

          go : (e : FileFault) → NotTaken s is (field_of row (suc (suc i))) e → RecordFault n before row e
          go e (malformed never) = form (suc (suc i)) right (λ h. never h.0 (if_any_gives row i h.0 h.1))
          go e (unanswered v gives none) =
              let there : RecordFault n before row (Change (start_at row (i + 2))) = change i right_there v s (gives_if_any row i (Some v) gives) has none in
              subst (λ j. RecordFault n before row (Change (start_at row j))) (omega arith) there

  -- the whole record

  abbrev behind_step : ℕ → ℤ → Result Table FileFault
  behind_step m s = after (changes_from s 0 no_changes (drop 2 row)) (λ c. Ok (joined t m s c))

  abbrev behind_inverter : ℕ → Result Table FileFault
  behind_inverter m = after (step_of (field_of row 1)) (behind_step m)

  abbrev behind_count : Result Table FileFault
  behind_count = after (inverter_of t (field_of row 0)) behind_inverter

  pub row_fault : (e : FileFault) → row_of t row ≡ Err e → RecordFault n before row e
  row_fault e h =
      ⊎_elim
      (λ bad. subst (RecordFault n before row) bad.1 (count (λ same. both_ways _ bad.0 (eq-eqb (length row) (n + 2) same))))
      (λ good. counted (eqb-true (length row) (n + 2) good.0) good.1)
      (need_err (eqb (length row) (n + 2)) (FieldCount (start_of row)) behind_count e h)
    where
      counted : length row ≡ n + 2 → behind_count ≡ Err e → RecordFault n before row e
      counted full h =
          ⊎_elim
          (λ bad. ⊎_elim
          (λ none. subst (RecordFault n before row) none.1 (form 0 first (λ some. let g = some.1 in let k = none.0 in clash cc)))
          (λ some. subst (RecordFault n before row) some.3 (inverter first some.0 some.1 (not_free t before table some.0 some.2)))
          (number_err (bus_of (text_at row 0)) (is_free t) (Form (start_at row 0)) (Inverter (start_at row 0)) e bad))
          (λ good. stepped good.0 good.1 good.2)
          (after_err (inverter_of t (field_of row 0)) behind_inverter e h)
        where
          first : IsRightUpTo n before row 0
          first = record { fields = full; within = omega arith; left = λ i l. absurd (omega arith) }

          stepped : (m : ℕ) → inverter_of t (field_of row 0) ≡ Ok m → behind_inverter m ≡ Err e → RecordFault n before row e
          stepped m taken h =
              ⊎_elim
              (λ bad. ⊎_elim
              (λ none. subst (RecordFault n before row) none.1 (form 1 second (λ some. decimal_none 3 (text_at row 1) none.0 some.0 some.1)))
              (λ some. subst (RecordFault n before row) some.3 (step second some.0 (decimal_some 3 (text_at row 1) some.0 some.1) (no_step some.0 some.2)))
              (number_err (decimal_of 3 (text_at row 1)) is_step (Form (start_at row 1)) (Step (start_at row 1)) e bad))
              (λ good. changed good.0 good.1 good.2)
              (after_err (step_of (field_of row 1)) (behind_step m) e h)
            where
              second : IsRightUpTo n before row 1
              second = record { fields = full; within = omega arith; left = λ i l. let zero : 0 ≡ i = omega arith in subst (IsRightAt n before row) zero (inverter_right m taken) }

              changed : (s : ℤ) → step_of (field_of row 1) ≡ Ok s → behind_step m s ≡ Err e → RecordFault n before row e
              changed s stepped h =
                  ⊎_elim
                  (λ bad. let found = changes_err s 0 no_changes (drop 2 row) e bad in
                  changes_fault s (step_ok s stepped).0 (step_ok s stepped).1 full (inverter_right m taken) (step_right s stepped) e found.0 (omega (arith, found.1, length-drop 2 row, full)) found.2 found.3)
                  (λ good. let g = good.2 in clash cc)
                  (after_err (changes_from s 0 no_changes (drop 2 row)) (λ c. Ok (joined t m s c)) e h)

  -- a table with one record more

  module _ (m : ℕ) (named : Names row m) (free : IsFree n before m) (s : ℤ) (has : HasStep row s) (is : IsStep s) (full : length row ≡ n + 2) (new : List (Option ℤ)) (changes : Changed s 0 (drop 2 row) no_changes new) where
    abbrev next : Table
    next = joined t m s new

    abbrev probe : Probe
    probe = record { step = s; changes = new }

    all_taken : AllTaken s (drop 2 row) n
    all_taken i l = (get_or new (0 + i) None, changes.within i (omega (arith, length-drop 2 row, full)))

    stands : probe_of next m ≡ Some probe
    stands = get_or-set_same t.probes (m - 1) (Some probe) None (omega (arith, free.0, free.1, few, table.places))

    others : (k : ℕ) → 1 ≤ k → k ≢ m → probe_of next k ≡ probe_of t k
    others k l ne = get_or-set_other t.probes (m - 1) (k - 1) (Some probe) None (λ e. ne (omega (arith, free.0)))

    gives : (b : ℕ) → 1 ≤ b → b ≤ n → GivesIfAny row b (change_at probe b)
    gives b l h =
        let i = b - 1 in
        let found = change_right s has is i (get_or new (0 + i) None) (ap (change_of s) (sym (behind_two row i)) ∙ changes.within i (omega (arith, length-drop 2 row, full))) in
        let same : 0 + i ≡ b - 1 = omega arith in
        let there : i + 1 ≡ b = omega arith in
        subst (λ x. GivesIfAny row x (change_at probe b)) there (subst (λ j. GivesIfAny row (i + 1) (get_or new j None)) same found.0)

    past : (b : ℕ) → n < b → change_at probe b ≡ None
    past b l = changes.beside (b - 1) (inr (omega (arith, length-drop 2 row, full))) ∙ everywhere 64 (b - 1)
      where
        everywhere : (k i : ℕ) → get_or {A = Option ℤ} (replicate k None) i None ≡ None
        everywhere zero i = refl
        everywhere (suc k) zero = refl
        everywhere (suc k) (suc i) = everywhere k i

    -- a record that the table holds is not the new one's inverter's
    still_held : (r : List Piece) → Contains before r → Holds t r → Holds next r
    still_held r has h =
        record {
          inverter = h.inverter;
          names = h.names;
          first = h.first;
          last = h.last;
          probe = h.probe;
          stands = others h.inverter h.first (λ e. free.2 (r, has, h.names ∙ ap Some e)) ∙ h.stands;
          step = h.step;
          changes = h.changes;
        }

    own : Holds next row
    own = record { inverter = m; names = named; first = free.0; last = free.1; probe = probe; stands = stands; step = has; changes = gives }

    each : (r : List Piece) → Contains (before ++ row ∷ []) r → Holds next r
    each r (k, l, e) =
        ⊎_elim
        (λ old. still_held r (k, old, sym (get_or_append_left before (row ∷ []) r k old) ∙ e) (table.each r (k, old, sym (get_or_append_left before (row ∷ []) r k old) ∙ e)))
        (λ past. let last : length before ≡ k = omega (arith, l, length_push before row) in
        subst (Holds next) (sym (get_or_push before row r k last) ∙ e) own)
        (cases_lt k (length before))

    named_before : (k : ℕ) → IsNamed before k → IsNamed (before ++ row ∷ []) k
    named_before k (r, (i, l, e), names) =
        (r, (i, omega (arith, l, length_push before row), get_or_append_left before (row ∷ []) r i l ∙ e), names)

    named_here : IsNamed (before ++ row ∷ []) m
    named_here = (row, (length before, omega (arith, length_push before row), get_or_push before row row (length before) refl), named)

    only : (k : ℕ) (p : Probe) → 1 ≤ k → probe_of next k ≡ Some p → IsNamed (before ++ row ∷ []) k
    only k p l e =
        ⊎_elim
        (λ same. subst (IsNamed (before ++ row ∷ [])) (sym same) named_here)
        (λ ne. named_before k (table.only k p l (sym (others k l ne) ∙ e)))
        (cases_eq k m)

    is_probe : (k : ℕ) (p : Probe) → 1 ≤ k → probe_of next k ≡ Some p → IsProbe n p
    is_probe k p l e =
        ⊎_elim
        (λ same. let own : probe ≡ p = same_Some _ _ (sym stands ∙ ap (probe_of next) (sym same) ∙ e) in
        let made : IsProbe n probe = record { places = changes.places; past = past } in subst (IsProbe n) own made)
        (λ ne. table.probes k p l (sym (others k l ne) ∙ e))
        (cases_eq k m)

    joins : IsTableOf (before ++ row ∷ []) next
    joins = record { each = each; only = only; places = length-set t.probes (m - 1) (Some probe) ∙ table.places; probes = is_probe }

    right : IsRight n before row
    right =
        record {
          fields = full;
          each = λ k l. up_to s has is full (m, named, free) (s, has, is) n (taken_right s has is full n all_taken) k (omega arith);
        }

  pub row_ok : (next : Table) → row_of t row ≡ Ok next → IsRight n before row × IsTableOf (before ++ row ∷ []) next × (next.buses ≡ t.buses)
  row_ok next e =
      let counted = need_ok (eqb (length row) (n + 2)) (FieldCount (start_of row)) behind_count next e in
      let full = eqb-true (length row) (n + 2) counted.0 in
      let first = after_ok (inverter_of t (field_of row 0)) behind_inverter next counted.1 in
      let second = after_ok (step_of (field_of row 1)) (behind_step first.0) next first.2 in
      let third = after_ok (changes_from second.0 0 no_changes (drop 2 row)) (λ c. Ok (joined t first.0 second.0 c)) next second.2 in
      let named = inverter_ok first.0 first.1 in
      let step = step_ok second.0 second.1 in
      let filled = changes_ok second.0 0 no_changes (drop 2 row) third.0 (length-replicate {A = Option ℤ} 64 None) (omega (arith, length-drop 2 row, full, few)) third.1 in
      let same : joined t first.0 second.0 third.0 ≡ next = same_ok third.2 in
      subst (λ x. IsRight n before row × IsTableOf (before ++ row ∷ []) x × (x.buses ≡ t.buses)) same
      (right first.0 named.0 named.1 second.0 step.0 step.1 full third.0 filled, joins first.0 named.0 named.1 second.0 step.0 step.1 full third.0 filled, refl)

  -- and the other way: what a record is tells what the check answers

  module _ (full : length row ≡ n + 2) where
    test : eqb (length row) (n + 2) ≡ true
    test = eq-eqb (length row) (n + 2) full

    counted_row : row_of t row ≡ behind_count
    counted_row = ap (λ b. need b (FieldCount (start_of row)) behind_count) test

    -- of the changes behind a right inverter and a right step
    module _ (first : IsRightAt n before row 0) (second : IsRightAt n before row 1) where
      m-is : (m : ℕ) × (inverter_of t (field_of row 0) ≡ Ok m)
      m-is = right_inverter first

      s-is : (s : ℤ) × (step_of (field_of row 1) ≡ Ok s)
      s-is = right_step second

      changes_row : row_of t row ≡ behind_step m-is.0 s-is.0
      changes_row = counted_row ∙ ap (λ o. after o behind_inverter) m-is.1 ∙ ap (λ o. after o (behind_step m-is.0)) s-is.1

      taken_up_to : (k : ℕ) → ((i : ℕ) → i < suc (suc k) → IsRightAt n before row i) → AllTaken s-is.0 (drop 2 row) k
      taken_up_to k all = let step = step_ok s-is.0 s-is.1 in right_taken s-is.0 step.0 step.1 full k (λ i l. all (suc (suc i)) (omega arith))

  pub right_row : IsRight n before row → (next : Table) × (row_of t row ≡ Ok next)
  right_row h =
      let first = h.each 0 (omega arith) in
      let second = h.each 1 (omega arith) in
      let s = s-is h.fields first second in
      let m = m-is h.fields first second in
      let all = taken_up_to h.fields first second n (λ i l. h.each i (omega arith)) in
      let done = changes_taken s.0 0 no_changes (drop 2 row) (λ i l. all i (omega (arith, length-drop 2 row, h.fields))) in
      (joined t m.0 s.0 done.0, changes_row h.fields first second ∙ ap (λ o. after o (λ c. Ok (joined t m.0 s.0 c))) done.1)

  pub fault_row : (e : FileFault) → RecordFault n before row e → row_of t row ≡ Err e
  fault_row e (count ne) = ap (λ b. need b (FieldCount (start_of row)) behind_count) (ne_eqb (length row) (n + 2) ne)
  fault_row e (form zero up bad) =
      counted_row up.fields
      ∙ ap (λ o. after o behind_inverter) (number_malformed (bus_of (text_at row 0)) (is_free t) (Form (start_at row 0)) (Inverter (start_at row 0)) (none (bus_of (text_at row 0)) (λ m h. bad (m, h))))
    where
      none : (o : Option ℕ) → ((m : ℕ) → o ≡ Some m → ⊥) → o ≡ None
      none None h = refl
      none (Some m) h = absurd (h m refl)
  fault_row e (form (suc zero) up bad) =
      counted_row up.fields
      ∙ ap (λ o. after o behind_inverter) (right_inverter (up.left 0 (omega arith))).1
      ∙ ap (λ o. after o (behind_step (right_inverter (up.left 0 (omega arith))).0))
      (number_malformed (decimal_of 3 (text_at row 1)) is_step (Form (start_at row 1)) (Step (start_at row 1)) (none_decimal 3 (text_at row 1) (λ s r. bad (s, r))))
  fault_row e (form (suc (suc i)) up bad) =
      let first = up.left 0 (omega arith) in
      let second = up.left 1 (omega arith) in
      let s = s-is up.fields first second in
      let m = m-is up.fields first second in
      let step = step_ok s.0 s.1 in
      let refused = change_refused s.0 step.1 (field_of row (suc (suc i))) (Form (start_at row (suc (suc i)))) (malformed (λ v h. bad (v, gives_if_any row i v h))) in
      changes_row up.fields first second
      ∙ ap (λ o. after o (λ c. Ok (joined t m.0 s.0 c)))
      (changes_refused s.0 0 no_changes (drop 2 row) i (Form (start_at row (suc (suc i)))) (omega (arith, up.within, length-drop 2 row, up.fields)) (taken_up_to up.fields first second i up.left) (ap (change_of s.0) (behind_two row i) ∙ refused))
  fault_row e (inverter up m named taken) =
      counted_row up.fields
      ∙ ap (λ o. after o behind_inverter) (number_refused (bus_of (text_at row 0)) (is_free t) (Form (start_at row 0)) (Inverter (start_at row 0)) m named (no_free t before table m taken))
  fault_row e (step up s has bad) =
      counted_row up.fields
      ∙ ap (λ o. after o behind_inverter) (right_inverter (up.left 0 (omega arith))).1
      ∙ ap (λ o. after o (behind_step (right_inverter (up.left 0 (omega arith))).0))
      (number_refused (decimal_of 3 (text_at row 1)) is_step (Form (start_at row 1)) (Step (start_at row 1)) s (some_decimal 3 (text_at row 1) s has) (not_a_step s bad))
  fault_row e (change b up v s given has bad) =
      let first = up.left 0 (omega arith) in
      let second = up.left 1 (omega arith) in
      let found = s-is up.fields first second in
      let m = m-is up.fields first second in
      let step = step_ok found.0 found.1 in
      let same : found.0 ≡ s = reads_same 3 (text_at row 1) found.0 s step.0 has in
      let place : suc (suc b) ≡ b + 2 = omega arith in
      let refused = change_refused found.0 step.1 (field_of row (suc (suc b))) (Change (start_at row (suc (suc b)))) (unanswered v (if_any_gives row b (Some v) given) (λ h. bad (subst (λ x. HasResponse x v) same h))) in
      changes_row up.fields first second
      ∙ ap (λ o. after o (λ c. Ok (joined t m.0 found.0 c)))
      (changes_refused found.0 0 no_changes (drop 2 row) b (Change (start_at row (suc (suc b)))) (omega (arith, up.within, length-drop 2 row, up.fields)) (taken_up_to up.fields first second b (λ i l. up.left i (omega arith))) (ap (change_of found.0) (behind_two row b) ∙ refused))
      ∙ ap (λ i. Err (Change (start_at row i))) place
