-- The records of a map file: where they break no rule they say lines, and else there is a first that breaks one.
use Rattle.std.proofs.Common.{◌≡◌, ℕ, zero, suc, ◌<◌, ◌≤◌, true, false, eqb, leb, List, length, ℤ, pos, negsuc, nat_abs, Some, None, Ok, Err, Option, Result, refl, ap, ◌∙◌, subst, ⊎_elim, arith}
use Rattle.std.proofs.lemmas.Int.{ints}
use Rattle.std.proofs.lemmas.Bool.{and_parts, and_from, eqb-true, eq-eqb, ne_eqb, leb-true, leb-false, le-leb, both_ways, cases_Bool}
use Rattle.refusals.specs.Checks.{need, after}
use Rattle.refusals.proofs.Checks.{clash, need_ok, need_err, after_ok, after_err}
use Rattle.rfc4180.specs.Places.{Piece, start_of}
use Rattle.units.specs.Decimals.{bus_of, decimal_of}
use Rattle.feeder.specs.declared.line.Line.{Line}
use Rattle.files.specs.declared.fault.FileFault.{FileFault}
use Rattle.files.specs.declared.fault.FileFault.TheVariants.{FieldCount, Form, MapEntry}
use Rattle.files.specs.Fields.{field_of, text_at, start_at}
use Rattle.files.specs.Numbers.{number_in}
use Rattle.files.proofs.Entries.{number_ok, number_err, number_taken, number_malformed, number_refused, decimal_none, decimal_some, some_decimal, none_decimal}
use Rattle.maps.specs.Lines.{is_next, next_of, upper_of, is_resistance, resistance_in, line_in}
use Rattle.maps.specs.Rules.{HasParent, HasResistance, IsResistance, IsRightAt, IsRight, IsRightUpTo, RecordFault, count, form, bus, parent, resistance, Says}

same_ok : {T : Type 0} {x y : T} → ◌≡◌ {A = Result T FileFault} (Ok x) (Ok y) → x ≡ y
same_ok e = cc

-- The tests of numbers.

next_is : (b c : ℕ) → is_next b c ≡ true → (c ≡ b) × (b ≤ 64)
next_is b c e =
    let parts = and_parts (eqb c b) (leb c 64) e in
    let same = eqb-true c b parts.0 in
    (same, omega (arith, same, leb-true c 64 parts.1))

is_the_next : (b : ℕ) → b ≤ 64 → is_next b b ≡ true
is_the_next b small = and_from (eqb b b) (leb b 64) (eq-eqb b b refl) (le-leb b 64 small)

not_next : (b c : ℕ) → is_next b c ≡ false → c ≡ b → b ≤ 64 → ⊥
not_next b c e same small = both_ways _ e (and_from (eqb c b) (leb c 64) (eq-eqb c b same) (le-leb c 64 (omega (arith, same))))

no_next : (b c : ℕ) → (c ≡ b → b ≤ 64 → ⊥) → is_next b c ≡ false
no_next b c h = ⊎_elim (λ e. absurd (h (next_is b c e).0 (next_is b c e).1)) (λ f. f) (cases_Bool (is_next b c))

resistance_is : (r : ℤ) → is_resistance r ≡ true → IsResistance r
resistance_is (pos n) e = let parts = and_parts (leb 1 n) (leb n 1000000) e in (omega (arith, ints, leb-true 1 n parts.0), omega (arith, ints, leb-true n 1000000 parts.1))
resistance_is (negsuc n) e = clash cc

is_a_resistance : (r : ℤ) → IsResistance r → is_resistance r ≡ true
is_a_resistance (pos n) h = and_from (leb 1 n) (leb n 1000000) (le-leb 1 n (omega (arith, ints, h.0))) (le-leb n 1000000 (omega (arith, ints, h.1)))
is_a_resistance (negsuc n) h = absurd (omega (arith, ints, h.0))

no_resistance : (r : ℤ) → (IsResistance r → ⊥) → is_resistance r ≡ false
no_resistance r h = ⊎_elim (λ e. absurd (h (resistance_is r e))) (λ f. f) (cases_Bool (is_resistance r))

not_resistance : (r : ℤ) → is_resistance r ≡ false → IsResistance r → ⊥
not_resistance r e h = both_ways _ e (is_a_resistance r h)

-- a resistance is the number that it has without its sign
resistance_size : (r : ℤ) → IsResistance r → r ≡ pos (nat_abs r)
resistance_size (pos n) h = refl
resistance_size (negsuc n) h = absurd (omega (arith, ints, h.0))

-- One record.

module _ (n b : ℕ) (row : List Piece) where
  abbrev behind_parent : ℕ → Result Line FileFault
  behind_parent p = after (resistance_in (field_of row 2)) (λ r. Ok (record { parent = p; resistance = r }))

  abbrev behind_bus : Result Line FileFault
  behind_bus = after (upper_of n (field_of row 1)) behind_parent

  abbrev behind_count : Result Line FileFault
  behind_count = after (next_of b (field_of row 0)) (λ _. behind_bus)

  abbrev resistance_number : Result ℤ FileFault
  resistance_number = number_in (decimal_of 6 (text_at row 2)) is_resistance (Form (start_at row 2)) (MapEntry (start_at row 2))

  bus_ok : (c : ℕ) → next_of b (field_of row 0) ≡ Ok c → IsRightAt n b row 0
  bus_ok c e =
      let taken = number_ok (bus_of (text_at row 0)) (is_next b) (Form (start_at row 0)) (MapEntry (start_at row 0)) c e in
      let is = next_is b c taken.1 in
      (taken.0 ∙ ap Some is.0, is.1)

  parent_ok : (p : ℕ) → upper_of n (field_of row 1) ≡ Ok p → HasParent row p × (p ≤ n)
  parent_ok p e =
      let taken = number_ok (bus_of (text_at row 1)) (λ k. leb k n) (Form (start_at row 1)) (MapEntry (start_at row 1)) p e in
      (taken.0, leb-true p n taken.1)

  resistance_ok : (r : ℕ) → resistance_in (field_of row 2) ≡ Ok r → HasResistance row (pos r) × IsResistance (pos r)
  resistance_ok r e =
      let cut = after_ok resistance_number (λ v. Ok (nat_abs v)) r e in
      let taken = number_ok (decimal_of 6 (text_at row 2)) is_resistance (Form (start_at row 2)) (MapEntry (start_at row 2)) cut.0 cut.1 in
      let is = resistance_is cut.0 taken.1 in
      let same : cut.0 ≡ pos r = resistance_size cut.0 is ∙ ap pos (same_ok cut.2) in
      subst (λ v. HasResistance row v × IsResistance v) same (decimal_some 6 (text_at row 2) cut.0 taken.0, is)

  each_right : IsRightAt n b row 0 → IsRightAt n b row 1 → IsRightAt n b row 2 → (k : ℕ) → k < 3 → IsRightAt n b row k
  each_right first second third zero l = first
  each_right first second third (suc zero) l = second
  each_right first second third (suc (suc zero)) l = third
  each_right first second third (suc (suc (suc k))) l = absurd (omega arith)

  pub line_ok : (line : Line) → line_in n b row ≡ Ok line → IsRight n b row × Says row line
  line_ok line e =
      let counted = need_ok (eqb (length row) 3) (FieldCount (start_of row)) behind_count line e in
      let first = after_ok (next_of b (field_of row 0)) (λ _. behind_bus) line counted.1 in
      let second = after_ok (upper_of n (field_of row 1)) behind_parent line first.2 in
      let third = after_ok (resistance_in (field_of row 2)) (λ r. Ok (record { parent = second.0; resistance = r })) line second.2 in
      let upper = parent_ok second.0 second.1 in
      let size = resistance_ok third.0 third.1 in
      let same : record { parent = second.0; resistance = third.0 } ≡ line = same_ok third.2 in
      let made : Says row (record { parent = second.0; resistance = third.0 }) = record { parent = upper.0; resistance = size.0 } in (
        record {
          fields = eqb-true (length row) 3 counted.0;
          each = each_right (bus_ok first.0 first.1) (second.0, upper.0, upper.1) (pos third.0, size.0, size.1);
        },
        subst (Says row) same made,
      )

  pub line_err : (e : FileFault) → line_in n b row ≡ Err e → RecordFault n b row e
  line_err e h =
      ⊎_elim
      (λ bad. subst (RecordFault n b row) bad.1 (count (λ same. both_ways _ bad.0 (eq-eqb (length row) 3 same))))
      (λ good. counted (eqb-true (length row) 3 good.0) good.1)
      (need_err (eqb (length row) 3) (FieldCount (start_of row)) behind_count e h)
    where
      counted : length row ≡ 3 → behind_count ≡ Err e → RecordFault n b row e
      counted full h =
          ⊎_elim
          (λ bad. ⊎_elim
          (λ no. subst (RecordFault n b row) no.1 (form 0 first (λ some. let g = some.1 in let k = no.0 in clash cc)))
          (λ some. subst (RecordFault n b row) some.3 (bus first some.0 some.1 (not_next b some.0 some.2)))
          (number_err (bus_of (text_at row 0)) (is_next b) (Form (start_at row 0)) (MapEntry (start_at row 0)) e bad))
          (λ good. upper good.0 good.1 good.2)
          (after_err (next_of b (field_of row 0)) (λ _. behind_bus) e h)
        where
          first : IsRightUpTo n b row 0
          first = record { fields = full; within = omega arith; left = λ i l. absurd (omega arith) }

          upper : (c : ℕ) → next_of b (field_of row 0) ≡ Ok c → behind_bus ≡ Err e → RecordFault n b row e
          upper c taken h =
              ⊎_elim
              (λ bad. ⊎_elim
              (λ no. subst (RecordFault n b row) no.1 (form 1 second (λ some. let g = some.1 in let k = no.0 in clash cc)))
              (λ some. subst (RecordFault n b row) some.3 (parent second some.0 some.1 (leb-false some.0 n some.2)))
              (number_err (bus_of (text_at row 1)) (λ k. leb k n) (Form (start_at row 1)) (MapEntry (start_at row 1)) e bad))
              (λ good. size good.0 good.1 good.2)
              (after_err (upper_of n (field_of row 1)) behind_parent e h)
            where
              second : IsRightUpTo n b row 1
              second = record { fields = full; within = omega arith; left = λ i l. let zero_is : 0 ≡ i = omega arith in subst (IsRightAt n b row) zero_is (bus_ok c taken) }

              size : (p : ℕ) → upper_of n (field_of row 1) ≡ Ok p → behind_parent p ≡ Err e → RecordFault n b row e
              size p above h =
                  ⊎_elim
                  (λ bad. ⊎_elim
                  (λ bad. ⊎_elim
                  (λ no. subst (RecordFault n b row) no.1 (form 2 third (λ some. decimal_none 6 (text_at row 2) no.0 some.0 some.1)))
                  (λ some. subst (RecordFault n b row) some.3 (resistance third some.0 (decimal_some 6 (text_at row 2) some.0 some.1) (not_resistance some.0 some.2)))
                  (number_err (decimal_of 6 (text_at row 2)) is_resistance (Form (start_at row 2)) (MapEntry (start_at row 2)) e bad))
                  (λ good. let g = good.2 in clash cc)
                  (after_err resistance_number (λ v. Ok (nat_abs v)) e bad))
                  (λ good. let g = good.2 in clash cc)
                  (after_err (resistance_in (field_of row 2)) (λ r. Ok (record { parent = p; resistance = r })) e h)
                where
                  right_of : (i : ℕ) → i < 2 → IsRightAt n b row i
                  right_of zero l = bus_ok c taken
                  right_of (suc zero) l = let up = parent_ok p above in (p, up.0, up.1)
                  right_of (suc (suc i)) l = absurd (omega arith)

                  third : IsRightUpTo n b row 2
                  third = record { fields = full; within = omega arith; left = right_of }

  -- and the other way

  module _ (full : length row ≡ 3) where
    counted_line : line_in n b row ≡ behind_count
    counted_line = ap (λ t. need t (FieldCount (start_of row)) behind_count) (eq-eqb (length row) 3 full)

    bus_line : IsRightAt n b row 0 → line_in n b row ≡ behind_bus
    bus_line first =
        counted_line ∙ ap (λ o. after o (λ _. behind_bus)) (number_taken (bus_of (text_at row 0)) (is_next b) (Form (start_at row 0)) (MapEntry (start_at row 0)) b first.0 (is_the_next b first.1))

    parent_line : IsRightAt n b row 0 → (second : IsRightAt n b row 1) → line_in n b row ≡ behind_parent second.0
    parent_line first second =
        bus_line first ∙ ap (λ o. after o behind_parent) (number_taken (bus_of (text_at row 1)) (λ k. leb k n) (Form (start_at row 1)) (MapEntry (start_at row 1)) second.0 second.1 (le-leb second.0 n second.2))

  pub right_line : IsRight n b row → (line : Line) × (line_in n b row ≡ Ok line)
  right_line h =
      let second = h.each 1 (omega arith) in
      let third = h.each 2 (omega arith) in
      let taken = number_taken (decimal_of 6 (text_at row 2)) is_resistance (Form (start_at row 2)) (MapEntry (start_at row 2)) third.0 (some_decimal 6 (text_at row 2) third.0 third.1) (is_a_resistance third.0 third.2) in (
        record { parent = second.0; resistance = nat_abs third.0 },
        parent_line h.fields (h.each 0 (omega arith)) second
            ∙ ap (λ o. after (after o (λ v. Ok (nat_abs v))) (λ r. Ok (record { parent = second.0; resistance = r }))) taken,
      )

  pub fault_line : (e : FileFault) → RecordFault n b row e → line_in n b row ≡ Err e
  fault_line e (count ne) = ap (λ t. need t (FieldCount (start_of row)) behind_count) (ne_eqb (length row) 3 ne)
  fault_line e (form zero up bad) =
      counted_line up.fields
      ∙ ap (λ o. after o (λ _. behind_bus)) (number_malformed (bus_of (text_at row 0)) (is_next b) (Form (start_at row 0)) (MapEntry (start_at row 0)) (no_number (bus_of (text_at row 0)) (λ c h. bad (c, h))))
    where
      no_number : (o : Option ℕ) → ((c : ℕ) → o ≡ Some c → ⊥) → o ≡ None
      no_number None h = refl
      no_number (Some c) h = absurd (h c refl)
  fault_line e (form (suc zero) up bad) =
      bus_line up.fields (up.left 0 (omega arith))
      ∙ ap (λ o. after o behind_parent) (number_malformed (bus_of (text_at row 1)) (λ k. leb k n) (Form (start_at row 1)) (MapEntry (start_at row 1)) (no_number (bus_of (text_at row 1)) (λ c h. bad (c, h))))
    where
      no_number : (o : Option ℕ) → ((c : ℕ) → o ≡ Some c → ⊥) → o ≡ None
      no_number None h = refl
      no_number (Some c) h = absurd (h c refl)
  fault_line e (form (suc (suc zero)) up bad) =
      let second = up.left 1 (omega arith) in
      parent_line up.fields (up.left 0 (omega arith)) second
      ∙ ap (λ o. after (after o (λ v. Ok (nat_abs v))) (λ r. Ok (record { parent = second.0; resistance = r })))
      (number_malformed (decimal_of 6 (text_at row 2)) is_resistance (Form (start_at row 2)) (MapEntry (start_at row 2)) (none_decimal 6 (text_at row 2) (λ r h. bad (r, h))))
  fault_line e (form (suc (suc (suc k))) up bad) = absurd (omega (arith, up.within))
  fault_line e (bus up c named other) =
      counted_line up.fields
      ∙ ap (λ o. after o (λ _. behind_bus)) (number_refused (bus_of (text_at row 0)) (is_next b) (Form (start_at row 0)) (MapEntry (start_at row 0)) c named (no_next b c other))
  fault_line e (parent up p has far) =
      bus_line up.fields (up.left 0 (omega arith))
      ∙ ap (λ o. after o behind_parent) (number_refused (bus_of (text_at row 1)) (λ k. leb k n) (Form (start_at row 1)) (MapEntry (start_at row 1)) p has (not_below p far))
    where
      not_below : (p : ℕ) → n < p → leb p n ≡ false
      not_below p far = ⊎_elim (λ t. absurd (omega (arith, far, leb-true p n t))) (λ f. f) (cases_Bool (leb p n))
  fault_line e (resistance up r has bad) =
      let second = up.left 1 (omega arith) in
      parent_line up.fields (up.left 0 (omega arith)) second
      ∙ ap (λ o. after (after o (λ v. Ok (nat_abs v))) (λ r. Ok (record { parent = second.0; resistance = r })))
      (number_refused (decimal_of 6 (text_at row 2)) is_resistance (Form (start_at row 2)) (MapEntry (start_at row 2)) r (some_decimal 6 (text_at row 2) r has) (no_resistance r bad))
