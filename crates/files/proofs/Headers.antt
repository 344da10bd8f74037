-- A header that is checked field by field is right where each field is the name of its column, and else has the fault of the first that is not.
use Rattle.std.proofs.Common.{◌≡◌, ℕ, zero, suc, ◌+◌, ◌-◌, ◌<◌, ◌≤◌, Bool, true, false, ltb, ◌⊎◌, List, [], ◌∷◌, map, length, take, get_or, decimal, Some, Ok, Err, sym, refl, ap, ◌∙◌, subst, inl, inr, ⊎_elim, arith}
use Rattle.std.specs.List.{slice_get, range_with_len}
use Rattle.std.specs.Str.{bytes_eq}
use Rattle.std.proofs.lemmas.Slice.Eq.{bytes_eq-Decides}
use Rattle.std.proofs.lemmas.List.{same_lists, length-map, get_or-map, get_or_default}
use Rattle.std.proofs.lemmas.List.FromFn.{get_or-map-range_with_len}
use Rattle.std.proofs.lemmas.Option.{slice_get_within, slice_get-get_or, same_Some}
use Rattle.std.proofs.lemmas.Bool.{and_parts, and_from, and_left, ltb-true, ltb-false, lt-ltb, le-ltb, cases_lt, cases_Bool, both_ways}
use Rattle.refusals.specs.Checks.{need}
use Rattle.refusals.proofs.Checks.{clash, need_ok, need_err, after_ok, after_err}
use Rattle.rfc4180.specs.Places.{Content, held, Piece, end_of}
use Rattle.files.specs.declared.fault.FileFault.{FileFault}
use Rattle.files.specs.declared.fault.FileFault.TheVariants.{Header}
use Rattle.files.specs.Fields.{field_of, text_at, start_at, NamesColumn, HeaderFault, wrong, short}
use Rattle.files.specs.Columns.{column_names, IsHeader, column_name, right_column, columns_from, columns_of, header_of}
use Rattle.files.proofs.Names.{name_decimal}

-- a test of a field passes exactly where the field is the name of its column
pub record Tests (names : List (List ℕ)) (right : ℕ → Content → Bool) : Type 0 where
  pub yes : (k : ℕ) (c : Content) → right k c ≡ true → slice_get names k ≡ Some (held c)
  pub no : (k : ℕ) (c : Content) → right k c ≡ false → slice_get names k ≡ Some (held c) → ⊥

module _ (names : List (List ℕ)) (right : ℕ → Content → Bool) (tests : Tests names right) where
  -- field i of these is the name of column k + i
  abbrev Names : ℕ → List Piece → ℕ → Type 0
  Names k ps i = slice_get names (k + i) ≡ Some (text_at ps i)

  passes : (k : ℕ) (c : Content) → slice_get names k ≡ Some (held c) → right k c ≡ true
  passes k c e = ⊎_elim (λ t. t) (λ f. absurd (tests.no k c f e)) (cases_Bool (right k c))

  -- of the fields behind the first
  shifted : (k : ℕ) (p : Piece) (ps : List Piece) (i : ℕ) → Names (k + 1) ps i → Names k (p ∷ ps) (suc i)
  shifted k p ps i h = subst (λ j. slice_get names j ≡ Some (text_at ps i)) (omega arith) h

  unshifted : (k : ℕ) (p : Piece) (ps : List Piece) (i : ℕ) → Names k (p ∷ ps) (suc i) → Names (k + 1) ps i
  unshifted k p ps i h = subst (λ j. slice_get names j ≡ Some (text_at ps i)) (omega arith) h

  first_named : (k : ℕ) (p : Piece) (ps : List Piece) → right k p.content ≡ true → Names k (p ∷ ps) 0
  first_named k p ps t = subst (λ j. slice_get names j ≡ Some (held p.content)) (omega arith) (tests.yes k p.content t)

  named_first : (k : ℕ) (p : Piece) (ps : List Piece) → Names k (p ∷ ps) 0 → right k p.content ≡ true
  named_first k p ps h = passes k p.content (subst (λ j. slice_get names j ≡ Some (held p.content)) (omega arith) h)

  columns_ok : (k n : ℕ) (ps : List Piece) → columns_from right k ps ≡ Ok n → (n ≡ k + length ps) × ((i : ℕ) → i < length ps → Names k ps i)
  columns_ok k n [] e = let same : k ≡ n = cc in (omega (arith, same), λ i l. absurd (omega arith))
  columns_ok k n (p ∷ ps) e =
      let passed = need_ok (right k p.content) (Header p.start) (columns_from right (k + 1) ps) n e in
      let rest = columns_ok (k + 1) n ps passed.1 in
      (omega (arith, rest.0), λ i. go i passed.0 rest.1)
    where
      go : (i : ℕ) → right k p.content ≡ true → ((j : ℕ) → j < length ps → Names (k + 1) ps j) → i < length (p ∷ ps) → Names k (p ∷ ps) i
      go zero t rest l = first_named k p ps t
      go (suc i) t rest l = shifted k p ps i (rest i (omega arith))

  columns_err : (k : ℕ) (ps : List Piece) (e : FileFault) → columns_from right k ps ≡ Err e →
      (i : ℕ) × (i < length ps) × ((j : ℕ) → j < i → Names k ps j) × (Names k ps i → ⊥) × (Header (start_at ps i) ≡ e)
  columns_err k [] e h = clash cc
  columns_err k (p ∷ ps) e h =
      ⊎_elim
      (λ here. (0, omega arith, (λ j l. absurd (omega arith)), (λ named. both_ways _ here.0 (named_first k p ps named)), here.1))
      (λ later. let rest = columns_err (k + 1) ps e later.1 in (suc rest.0, omega (arith, rest.1), (λ j. go j later.0 rest.0 rest.2), (λ named. rest.3 (unshifted k p ps rest.0 named)), rest.4))
      (need_err (right k p.content) (Header p.start) (columns_from right (k + 1) ps) e h)
    where
      go : (j : ℕ) → right k p.content ≡ true → (i : ℕ) → ((m : ℕ) → m < i → Names (k + 1) ps m) → j < suc i → Names k (p ∷ ps) j
      go zero t i rest l = first_named k p ps t
      go (suc j) t i rest l = shifted k p ps j (rest j (omega arith))

  columns_right : (k : ℕ) (ps : List Piece) → ((i : ℕ) → i < length ps → Names k ps i) → columns_from right k ps ≡ Ok (k + length ps)
  columns_right k [] all = ap Ok (omega arith)
  columns_right k (p ∷ ps) all =
      ap (λ b. need b (Header p.start) (columns_from right (k + 1) ps)) (named_first k p ps (all 0 (omega arith)))
      ∙ columns_right (k + 1) ps (λ i l. unshifted k p ps i (all (suc i) (omega arith)))
      ∙ ap Ok (omega arith)

  columns_wrong : (k : ℕ) (ps : List Piece) (i : ℕ) → i < length ps → ((j : ℕ) → j < i → Names k ps j) → (Names k ps i → ⊥) → columns_from right k ps ≡ Err (Header (start_at ps i))
  columns_wrong k [] i l left bad = absurd (omega arith)
  columns_wrong k (p ∷ ps) zero l left bad =
      ap (λ b. need b (Header p.start) (columns_from right (k + 1) ps)) (⊎_elim (λ t. absurd (bad (first_named k p ps t))) (λ f. f) (cases_Bool (right k p.content)))
  columns_wrong k (p ∷ ps) (suc i) l left bad =
      ap (λ b. need b (Header p.start) (columns_from right (k + 1) ps)) (named_first k p ps (left 0 (omega arith)))
      ∙ columns_wrong (k + 1) ps i (omega arith) (λ j h. unshifted k p ps j (left (suc j) (omega arith))) (λ named. bad (shifted k p ps i named))

  -- the whole header

  at_zero : (ps : List Piece) (i : ℕ) → Names 0 ps i → NamesColumn names ps i
  at_zero ps i h = subst (λ j. slice_get names j ≡ Some (text_at ps i)) (omega arith) h

  from_zero : (ps : List Piece) (i : ℕ) → NamesColumn names ps i → Names 0 ps i
  from_zero ps i h = subst (λ j. slice_get names j ≡ Some (text_at ps i)) (omega arith) h

  pub all_named : (ps : List Piece) (n : ℕ) → columns_of right ps ≡ Ok n → (n ≡ length ps) × ((i : ℕ) → i < length ps → NamesColumn names ps i)
  all_named ps n e = let found = columns_ok 0 n ps e in (omega (arith, found.0), λ i l. at_zero ps i (found.1 i l))

  pub named_all : (ps : List Piece) → ((i : ℕ) → i < length ps → NamesColumn names ps i) → columns_of right ps ≡ Ok (length ps)
  named_all ps all = columns_right 0 ps (λ i l. from_zero ps i (all i l)) ∙ ap Ok (omega arith)

  pub wrong_named : (needed : ℕ) (ps : List Piece) (e : FileFault) → columns_of right ps ≡ Err e → HeaderFault names needed ps e
  wrong_named needed ps e h =
      let found = columns_err 0 ps e h in
      subst (HeaderFault names needed ps) found.4
      (wrong found.0 found.1 (λ j l. at_zero ps j (found.2 j l)) (λ named. found.3 (from_zero ps found.0 named)))

  -- what a fault says of the check: a field is wrong, or all are right and too few
  pub fault_checked : (needed : ℕ) (ps : List Piece) (e : FileFault) → HeaderFault names needed ps e →
      (columns_of right ps ≡ Err e) ⊎ ((columns_of right ps ≡ Ok (length ps)) × (length ps < needed) × (Header (end_of ps) ≡ e))
  fault_checked needed ps e (wrong k l left bad) = inl (columns_wrong 0 ps k l (λ j h. from_zero ps j (left j h)) (λ named. bad (at_zero ps k named)))
  fault_checked needed ps e (short all few) = inr (named_all ps all, few, refl)

-- Where no field past the most columns is right, the fields up to there and one more tell the same as all.
pub columns_kept : (right : ℕ → Content → Bool) (most : ℕ) → ((k : ℕ) (c : Content) → most ≤ k → right k c ≡ false) →
    (k n : ℕ) (ps : List Piece) → k ≤ most → most < k + n → columns_from right k (take n ps) ≡ columns_from right k ps
columns_kept right most past k zero ps l h = absurd (omega arith)
columns_kept right most past k (suc n) [] l h = refl
columns_kept right most past k (suc n) (p ∷ ps) l h = go (right k p.content) refl (λ m. columns_kept right most past (k + 1) n ps m (omega arith))
  where
    go : (b : Bool) → right k p.content ≡ b → (k + 1 ≤ most → columns_from right (k + 1) (take n ps) ≡ columns_from right (k + 1) ps) →
        need (right k p.content) (Header p.start) (columns_from right (k + 1) (take n ps)) ≡ need (right k p.content) (Header p.start) (columns_from right (k + 1) ps)
    go true e rest =
        ap (need (right k p.content) (Header p.start)) (rest (⊎_elim (λ m. omega arith) (λ m. absurd (both_ways _ (past k p.content m) e)) (cases_lt k most)))
    go false e rest =
        ap (λ b. need b (Header p.start) (columns_from right (k + 1) (take n ps))) e ∙ sym (ap (λ b. need b (Header p.start) (columns_from right (k + 1) ps)) e)

-- The columns of a response file.

column_past : (k : ℕ) (c : Content) → 66 ≤ k → right_column k c ≡ false
column_past k c l = and_left (ltb k 66) (bytes_eq (held c) (column_name k)) (le-ltb k 66 l)

pub columns_of_kept : (ps : List Piece) → columns_of right_column (take 67 ps) ≡ columns_of right_column ps
columns_of_kept ps = columns_kept right_column 66 column_past 0 67 ps (omega arith) (omega arith)

names_length : (n : ℕ) → length (column_names n) ≡ n + 2
names_length n = omega (arith, length-map (range_with_len 1 n) decimal, range_length 1 n)
  where
    range_length : (a k : ℕ) → length (range_with_len a k) ≡ k
    range_length a zero = refl
    range_length a (suc k) = ap suc (range_length (a + 1) k)

-- column k of a file of n buses
name_at : (n k : ℕ) → n < 99 → k < n + 2 → get_or (column_names n) k [] ≡ column_name k
name_at n zero few l = refl
name_at n (suc zero) few l = refl
name_at n (suc (suc k)) few l =
    get_or-map-range_with_len decimal 1 n k (k + 1) [] (omega arith) (omega arith) ∙ sym (name_decimal (k + 1) (omega arith))

name_got : (k : ℕ) → k < 66 → slice_get (column_names 64) k ≡ Some (column_name k)
name_got k l = slice_get-get_or (column_names 64) k [] (omega (arith, names_length 64)) ∙ ap Some (name_at 64 k (omega arith) (omega arith))

pub response_tests : Tests (column_names 64) right_column
response_tests = record { yes = yes; no = no }
  where
    yes : (k : ℕ) (c : Content) → right_column k c ≡ true → slice_get (column_names 64) k ≡ Some (held c)
    yes k c e =
        let parts = and_parts (ltb k 66) (bytes_eq (held c) (column_name k)) e in
        name_got k (ltb-true k 66 parts.0) ∙ ap Some (sym ((bytes_eq-Decides (held c) (column_name k)).0 parts.1))

    no : (k : ℕ) (c : Content) → right_column k c ≡ false → slice_get (column_names 64) k ≡ Some (held c) → ⊥
    no k c e h =
        let few : k < 66 = omega (arith, slice_get_within (column_names 64) k (held c) h, names_length 64) in
        let same : column_name k ≡ held c = same_Some _ _ (sym (name_got k few) ∙ h) in
        both_ways _ e (and_from (ltb k 66) (bytes_eq (held c) (column_name k)) (lt-ltb k 66 few) ((bytes_eq-Decides (held c) (column_name k)).1 (sym same)))

abbrev texts : List Piece → List (List ℕ)
texts ps = map (λ p. held p.content) ps

blank_piece : Piece
blank_piece = field_of [] 0

text_got : (ps : List Piece) (k : ℕ) → k < length ps → get_or (texts ps) k [] ≡ text_at ps k
text_got ps k l = get_or-map (λ p. held p.content) ps k _ [] l

pub header_named : (ps : List Piece) (n : ℕ) → n ≤ 64 → length ps ≡ n + 2 → ((i : ℕ) → i < length ps → NamesColumn (column_names 64) ps i) → texts ps ≡ column_names n
header_named ps n few count all =
    same_lists (texts ps) (column_names n) (omega (arith, length-map ps (λ p. held p.content), names_length n, count)) (λ k d l. at k d (omega (arith, length-map ps (λ p. held p.content))))
  where
    at : (k : ℕ) (d : List ℕ) → k < length ps → get_or (texts ps) k d ≡ get_or (column_names n) k d
    at k d l =
        get_or_default (texts ps) k d [] (omega (arith, length-map ps (λ p. held p.content)))
        ∙ text_got ps k l
        ∙ same_Some _ _ (sym (all k l) ∙ name_got k (omega arith))
        ∙ sym (name_at n k (omega arith) (omega arith))
        ∙ get_or_default (column_names n) k [] d (omega (arith, names_length n))

pub named_header : (ps : List Piece) (n : ℕ) → n ≤ 64 → texts ps ≡ column_names n → (length ps ≡ n + 2) × ((i : ℕ) → i < length ps → NamesColumn (column_names 64) ps i)
named_header ps n few e =
    let count : length ps ≡ n + 2 = omega (arith, length-map ps (λ p. held p.content), names_length n, ap length e) in
    (count, λ i l. name_got i (omega arith) ∙ ap Some (sym (name_at n i (omega arith) (omega arith)) ∙ ap (λ xs. get_or xs i []) (sym e) ∙ text_got ps i l))

pub columns_few : (ps : List Piece) (k : ℕ) → columns_of right_column ps ≡ Ok k → k ≤ 66
columns_few ps zero e = omega arith
columns_few ps (suc k) e =
    let found = all_named (column_names 64) right_column response_tests ps (suc k) e in
    omega (arith, slice_get_within (column_names 64) k _ (found.1 k (omega (arith, found.0))), names_length 64)

pub header_ok : (ps : List Piece) (n : ℕ) → header_of ps ≡ Ok n → IsHeader n ps
header_ok ps n e =
    let columns = after_ok (columns_of right_column ps) (λ k. need (ltb 2 k) (Header (end_of ps)) (Ok (k - 2))) n e in
    let passed = need_ok (ltb 2 columns.0) (Header (end_of ps)) (Ok (columns.0 - 2)) n columns.2 in
    let same : columns.0 - 2 ≡ n = (let h = passed.1 in cc) in
    let more = ltb-true 2 columns.0 passed.0 in
    let found = all_named (column_names 64) right_column response_tests ps columns.0 columns.1 in
    let few : n ≤ 64 = omega (arith, columns_few ps columns.0 columns.1) in
    record { some = omega arith; most = few; names = header_named ps n few (omega (arith, found.0)) found.1 }

pub header_err : (ps : List Piece) (e : FileFault) → header_of ps ≡ Err e → HeaderFault (column_names 64) 3 ps e
header_err ps e h =
    ⊎_elim
    (λ bad. wrong_named (column_names 64) right_column response_tests 3 ps e bad)
    (λ columns. few columns.0 columns.1 columns.2)
    (after_err (columns_of right_column ps) (λ k. need (ltb 2 k) (Header (end_of ps)) (Ok (k - 2))) e h)
  where
    few : (k : ℕ) → columns_of right_column ps ≡ Ok k → need (ltb 2 k) (Header (end_of ps)) (Ok (k - 2)) ≡ Err e → HeaderFault (column_names 64) 3 ps e
    few k all h =
        let found = all_named (column_names 64) right_column response_tests ps k all in
        ⊎_elim
        (λ bad. subst (HeaderFault (column_names 64) 3 ps) bad.1 (short found.1 (omega (arith, found.0, ltb-false 2 k bad.0))))
        (λ good. let g = good.1 in clash cc)
        (need_err (ltb 2 k) (Header (end_of ps)) (Ok (k - 2)) e h)

pub ok_header : (ps : List Piece) (n : ℕ) → IsHeader n ps → header_of ps ≡ Ok n
ok_header ps n head =
    let found = named_header ps n head.most head.names in
    let counted = found.0 in
    let checked = named_all (column_names 64) right_column response_tests ps found.1 in
    let more : ltb 2 (length ps) ≡ true = lt-ltb 2 (length ps) (omega (arith, head.some, counted)) in
    let some = head.some in
    let P : Bool → ℕ → Type 0 = λ b k. need b (Header (end_of ps)) (Ok k) ≡ Ok n in
    rw checked (rw more (ap Ok (omega arith)))

pub err_header : (ps : List Piece) (e : FileFault) → HeaderFault (column_names 64) 3 ps e → header_of ps ≡ Err e
err_header ps e h =
    ⊎_elim
    (λ bad. rw bad refl)
    (λ good. let less : ltb 2 (length ps) ≡ false = le-ltb 2 (length ps) (omega (arith, good.1)) in rw good.0 (rw less (ap Err good.2)))
    (fault_checked (column_names 64) right_column response_tests 3 ps e h)
