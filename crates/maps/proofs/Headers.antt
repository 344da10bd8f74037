-- The header of a map file is right where its fields are the names of the columns, and else has a first fault.
use Rattle.std.proofs.Common.{◌≡◌, ℕ, zero, suc, ◌<◌, ◌≤◌, true, false, eqb, ltb, List, [], ◌∷◌, length, take, Some, Ok, Err, Result, sym, refl, ap, ◌∙◌, subst, ⊎_elim, arith}
use Rattle.std.specs.List.{slice_get}
use Rattle.std.specs.Str.{bytes_eq}
use Rattle.std.proofs.lemmas.Slice.Eq.{bytes_eq-Decides}
use Rattle.std.proofs.lemmas.Option.{slice_get_within, same_Some}
use Rattle.std.proofs.lemmas.Bool.{and_parts, and_from, and_left, ltb-true, lt-ltb, le-ltb, eqb-true, eq-eqb, ne_eqb, both_ways}
use Rattle.refusals.specs.Checks.{need}
use Rattle.refusals.proofs.Checks.{clash, need_ok, need_err, after_ok, after_err}
use Rattle.rfc4180.specs.Places.{Content, held, Piece, end_of}
use Rattle.files.specs.declared.fault.FileFault.{FileFault}
use Rattle.files.specs.declared.fault.FileFault.TheVariants.{Header}
use Rattle.files.specs.Fields.{NamesColumn, HeaderFault, short}
use Rattle.files.specs.Columns.{columns_of}
use Rattle.files.proofs.Headers.{Tests, columns_kept, all_named, named_all, wrong_named, fault_checked}
use Rattle.maps.specs.Columns.{map_columns, IsMapHeader, map_column, right_map_column, map_header_of}

name_got : (k : ℕ) → k < 3 → slice_get map_columns k ≡ Some (map_column k)
name_got zero l = refl
name_got (suc zero) l = refl
name_got (suc (suc zero)) l = refl
name_got (suc (suc (suc k))) l = absurd (omega arith)

map_tests : Tests map_columns right_map_column
map_tests = record { yes = yes; no = no }
  where
    yes : (k : ℕ) (c : Content) → right_map_column k c ≡ true → slice_get map_columns k ≡ Some (held c)
    yes k c e =
        let parts = and_parts (ltb k 3) (bytes_eq (held c) (map_column k)) e in
        name_got k (ltb-true k 3 parts.0) ∙ ap Some (sym ((bytes_eq-Decides (held c) (map_column k)).0 parts.1))

    no : (k : ℕ) (c : Content) → right_map_column k c ≡ false → slice_get map_columns k ≡ Some (held c) → ⊥
    no k c e h =
        let few : k < 3 = slice_get_within map_columns k (held c) h in
        let same : map_column k ≡ held c = same_Some _ _ (sym (name_got k few) ∙ h) in
        both_ways _ e (and_from (ltb k 3) (bytes_eq (held c) (map_column k)) (lt-ltb k 3 few) ((bytes_eq-Decides (held c) (map_column k)).1 (sym same)))

column_past : (k : ℕ) (c : Content) → 3 ≤ k → right_map_column k c ≡ false
column_past k c l = and_left (ltb k 3) (bytes_eq (held c) (map_column k)) (le-ltb k 3 l)

pub columns_of_kept : (ps : List Piece) → columns_of right_map_column (take 4 ps) ≡ columns_of right_map_column ps
columns_of_kept ps = columns_kept right_map_column 3 column_past 0 4 ps (omega arith) (omega arith)

columns_few : (ps : List Piece) (k : ℕ) → columns_of right_map_column ps ≡ Ok k → k ≤ 3
columns_few ps zero e = omega arith
columns_few ps (suc k) e =
    let found = all_named map_columns right_map_column map_tests ps (suc k) e in
    omega (arith, slice_get_within map_columns k _ (found.1 k (omega (arith, found.0))))

three_named : (ps : List Piece) → length ps ≡ 3 → ((i : ℕ) → i < length ps → NamesColumn map_columns ps i) → IsMapHeader ps
three_named [] e all = absurd (omega arith)
three_named (a ∷ []) e all = absurd (omega arith)
three_named (a ∷ b ∷ []) e all = absurd (omega arith)
three_named (a ∷ b ∷ c ∷ []) e all =
    let first = all 0 (omega arith) in
    let second = all 1 (omega arith) in
    let third = all 2 (omega arith) in
    cc
three_named (a ∷ b ∷ c ∷ d ∷ ps) e all = absurd (omega arith)

named_three : (ps : List Piece) → IsMapHeader ps → (length ps ≡ 3) × ((i : ℕ) → i < length ps → NamesColumn map_columns ps i)
named_three [] e = clash cc
named_three (a ∷ []) e = clash cc
named_three (a ∷ b ∷ []) e = clash cc
named_three (a ∷ b ∷ c ∷ []) e = (omega arith, each)
  where
    each : (i : ℕ) → i < 3 → NamesColumn map_columns (a ∷ b ∷ c ∷ []) i
    each zero l = cc
    each (suc zero) l = cc
    each (suc (suc zero)) l = cc
    each (suc (suc (suc i))) l = absurd (omega arith)
named_three (a ∷ b ∷ c ∷ d ∷ ps) e = clash cc

abbrev counted : List Piece → ℕ → Result (Unit {0}) FileFault
counted ps k = need (eqb k 3) (Header (end_of ps)) (Ok tt)

pub header_ok : (ps : List Piece) → map_header_of ps ≡ Ok tt → IsMapHeader ps
header_ok ps e =
    let columns = after_ok (columns_of right_map_column ps) (counted ps) tt e in
    let three = eqb-true columns.0 3 (need_ok (eqb columns.0 3) (Header (end_of ps)) (Ok tt) tt columns.2).0 in
    let found = all_named map_columns right_map_column map_tests ps columns.0 columns.1 in
    three_named ps (omega (arith, found.0, three)) found.1

pub header_err : (ps : List Piece) (e : FileFault) → map_header_of ps ≡ Err e → HeaderFault map_columns 3 ps e
header_err ps e h =
    ⊎_elim
    (λ bad. wrong_named map_columns right_map_column map_tests 3 ps e bad)
    (λ columns. few columns.0 columns.1 columns.2)
    (after_err (columns_of right_map_column ps) (counted ps) e h)
  where
    few : (k : ℕ) → columns_of right_map_column ps ≡ Ok k → counted ps k ≡ Err e → HeaderFault map_columns 3 ps e
    few k all h =
        let found = all_named map_columns right_map_column map_tests ps k all in
        ⊎_elim
        (λ bad. let other : k ≡ 3 → ⊥ = λ same. both_ways _ bad.0 (eq-eqb k 3 same) in
        subst (HeaderFault map_columns 3 ps) bad.1 (short found.1 (omega (arith, found.0, other, columns_few ps k all))))
        (λ good. let g = good.1 in clash cc)
        (need_err (eqb k 3) (Header (end_of ps)) (Ok tt) e h)

pub ok_header : (ps : List Piece) → IsMapHeader ps → map_header_of ps ≡ Ok tt
ok_header ps head =
    let found = named_three ps head in
    let three : eqb (length ps) 3 ≡ true = eq-eqb (length ps) 3 found.0 in
    rw (named_all map_columns right_map_column map_tests ps found.1) (rw three refl)

pub err_header : (ps : List Piece) (e : FileFault) → HeaderFault map_columns 3 ps e → map_header_of ps ≡ Err e
err_header ps e h =
    ⊎_elim
    (λ bad. rw bad refl)
    (λ good. let less : eqb (length ps) 3 ≡ false = ne_eqb (length ps) 3 (λ same. omega (arith, same, good.1)) in rw good.0 (rw less (ap Err good.2)))
    (fault_checked map_columns right_map_column map_tests 3 ps e h)
