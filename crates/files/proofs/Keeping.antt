-- The fields of a record that has no more than are kept.
use Rattle.std.proofs.Common.{◌≡◌, ℕ, ◌+◌, ◌-◌, ◌<◌, ◌≤◌, List, map, length, take, drop, get_or, ℤ, Option, Ok, Err, sym, ap, ◌∙◌}
use Rattle.std.proofs.lemmas.List.{take_all, take_rest, drop-map}
use Rattle.std.proofs.lemmas.Bool.{eq-eqb}
use Rattle.refusals.specs.Checks.{need, after}
use Rattle.rfc4180.specs.declared.field.Field.{Field}
use Rattle.rfc4180.specs.Places.{Piece, start_of}
use Rattle.rfc4180.specs.Views.{piece}
use Rattle.rfc4180.proofs.Kept.{kept_at}
use Rattle.files.specs.declared.fault.FileFault.{FileFault}
use Rattle.files.specs.declared.fault.FileFault.TheVariants.{FieldCount}
use Rattle.files.specs.declared.table.Table.{Table}
use Rattle.files.specs.Fields.{field_of}
use Rattle.files.specs.Numbers.{inverter_of, step_of}
use Rattle.files.specs.Rows.{changes_from, no_changes, joined, row_of}

-- those behind the first k
pub kept_rest : (k most : ℕ) (xs : List Field) (ps : List Piece) → length ps ≤ most → map piece xs ≡ take most ps → map piece (take (length xs - k) (drop k xs)) ≡ drop k ps
kept_rest k most xs ps few e =
    ap (map piece) (take_rest xs k) ∙ sym (drop-map piece k xs) ∙ ap (drop k) (e ∙ take_all most ps few)

-- field k of a record, where it is kept
pub kept_field : (k most : ℕ) (xs : List Field) (ps : List Piece) (f : Field) → map piece xs ≡ take most ps → k < length xs → piece (get_or xs k f) ≡ field_of ps k
kept_field k most xs ps f e l = kept_at xs ps most e k f _ l

-- what a record adds to a table, from what its fields give
module _ (t : Table) (row : List Piece) (full : length row ≡ t.buses + 2) (m : ℕ) (inverter : inverter_of t (field_of row 0) ≡ Ok m) (s : ℤ) (step : step_of (field_of row 1) ≡ Ok s) where
  row_changes : row_of t row ≡ after (changes_from s 0 no_changes (drop 2 row)) (λ c. Ok (joined t m s c))
  row_changes =
      ap (λ b. need b (FieldCount (start_of row)) (after (inverter_of t (field_of row 0)) (λ k. after (step_of (field_of row 1)) (λ z. after (changes_from z 0 no_changes (drop 2 row)) (λ c. Ok (joined t k z c)))))) (eq-eqb (length row) (t.buses + 2) full)
      ∙ ap (λ o. after o (λ k. after (step_of (field_of row 1)) (λ z. after (changes_from z 0 no_changes (drop 2 row)) (λ c. Ok (joined t k z c))))) inverter
      ∙ ap (λ o. after o (λ z. after (changes_from z 0 no_changes (drop 2 row)) (λ c. Ok (joined t m z c)))) step

  pub row_taken : (c : List (Option ℤ)) → changes_from s 0 no_changes (drop 2 row) ≡ Ok c → row_of t row ≡ Ok (joined t m s c)
  row_taken c e = row_changes ∙ ap (λ o. after o (λ x. Ok (joined t m s x))) e

  pub row_refused : (e : FileFault) → changes_from s 0 no_changes (drop 2 row) ≡ Err e → row_of t row ≡ Err e
  row_refused e h = row_changes ∙ ap (λ o. after o (λ x. Ok (joined t m s x))) h
