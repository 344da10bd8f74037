-- What follows from a file's table, in the words of its records.
use Rattle.std.proofs.Common.{◌≡◌, ℕ, suc, ◌+◌, ◌-◌, ◌<◌, ◌≤◌, true, ◌&&◌, leb, List, get_or, take, drop, ℤ, pos, ◌*ℤ◌, is_none, Some, None, Option, sym, refl, ap, ◌∙◌, subst, ⊎_elim, arith}
use Rattle.std.specs.Option.{unwrap_or, option_and_then}
use Rattle.std.specs.List.{Contains, list_any}
use Rattle.std.proofs.lemmas.Option.{same_Some}
use Rattle.std.proofs.lemmas.List.{get_or_default}
use Rattle.std.proofs.lemmas.List.Folds.{list_any_at, Any-from_list_any}
use Rattle.std.proofs.lemmas.Bool.{and_parts, and_from, leb-true, le-leb}
use Rattle.refusals.proofs.Checks.{clash}
use Rattle.rfc4180.specs.Places.{Piece}
use Rattle.units.specs.Quotients.{Moderate, Divides, response_of}
use Rattle.units.proofs.Division.{divides}
use Rattle.files.specs.declared.table.Probe.{Probe}
use Rattle.files.specs.declared.table.Table.{Table}
use Rattle.files.specs.Fields.{text_at}
use Rattle.files.specs.Tables.{probe_of, change_at, response_at, blank_at, mute_of}
use Rattle.files.specs.Responses.{Names, HasStep, IsBlankAt, Gives, GivesIfAny, IsStep, HasResponse, IsRightAt, IsRight, AreRight, Holds, IsTableOf, IsFileOf, Tells}
use Rattle.files.proofs.Entries.{reads_same, step_some}
use Rattle.files.proofs.Files.{changes_same}

-- a quotient that some response is, is that response
quotient_taken : (v s : ℤ) → (s ≡ pos 0 → ⊥) → HasResponse s v → (q : ℤ) × (response_of v s ≡ Some q) × Divides v s (Some q)
quotient_taken v s some has = go (response_of v s) refl (divides v s some)
  where
    go : (o : Option ℤ) → response_of v s ≡ o → Divides v s o → (q : ℤ) × (response_of v s ≡ Some q) × Divides v s (Some q)
    go None e never = absurd (never has.0 has.1.1 has.1.0)
    go (Some q) e d = (q, e, d)

module _ (rows : List (List Piece)) (t : Table) (few : t.buses ≤ 64) (right : AreRight t.buses rows) (table : IsTableOf rows t) where
  -- what the table has for a record's inverter
  module _ (row : List Piece) (has : Contains rows row) (m : ℕ) (p : Probe) (named : Names row m) (stands : probe_of t m ≡ Some p) where
    here : Holds t row
    here = table.each row has

    own : here.probe ≡ p
    own = let same : here.inverter ≡ m = same_Some _ _ (sym here.names ∙ named) in same_Some _ _ (sym here.stands ∙ ap (probe_of t) same ∙ stands)

    gives : (n : ℕ) → 1 ≤ n → n ≤ t.buses → GivesIfAny row n (change_at p n)
    gives n l h = subst (λ q. GivesIfAny row n (change_at q n)) own (here.changes n l h)

    stepped : HasStep row p.step
    stepped = subst (λ q. HasStep row q.step) own here.step

    record_right : (k : ℕ) → k < t.buses + 2 → IsRightAt t.buses (take has.0 rows) row k
    record_right k l =
        let there = right has.0 has.1 in
        let same = get_or_default rows has.0 _ row has.1 ∙ has.2 in
        (subst (IsRight t.buses (take has.0 rows)) same there).each k l

    is_step : IsStep p.step
    is_step =
        let second = record_right 1 (omega arith) in
        subst IsStep (reads_same 3 (text_at row 1) second.0 p.step second.1 stepped) second.2

    answered : (n : ℕ) → 1 ≤ n → n ≤ t.buses → (v : ℤ) → Gives row n v → HasResponse p.step v
    answered n l h v given =
        let k = n - 1 in
        let bus : k + 1 ≡ n = omega arith in
        ⊎_elim
        (λ blank. let none : None ≡ Some v = changes_same row n None (Some v) (subst (IsBlankAt row) bus blank) given in clash cc)
        (λ g.
        let change : Some g.0 ≡ Some v = changes_same row n (Some g.0) (Some v) (subst (λ b. Gives row b g.0) bus g.2) given in
        let step = reads_same 3 (text_at row 1) g.1 p.step g.3 stepped in
        subst (λ s. HasResponse s v) step (subst (HasResponse g.1) (same_Some _ _ change) g.4))
        (record_right (suc (suc k)) (omega arith))

    responds : (n : ℕ) (v s : ℤ) → 1 ≤ n → n ≤ t.buses → Gives row n v → HasStep row s → (response_at p n *ℤ s ≡ v) × Moderate (response_at p n)
    responds n v s l h given step =
        let change : change_at p n ≡ Some v = changes_same row n (change_at p n) (Some v) (gives n l h) given in
        let found = quotient_taken v p.step (step_some p.step is_step) (answered n l h v given) in
        let same : response_at p n ≡ found.0 = ap (λ o. unwrap_or (option_and_then (λ w. response_of w p.step) o) (pos 0)) change ∙ ap (λ o. unwrap_or o (pos 0)) found.1 in
        let step_same = reads_same 3 (text_at row 1) p.step s stepped step in
        (ap (λ q. q *ℤ s) same ∙ ap (λ x. found.0 *ℤ x) (sym step_same) ∙ found.2.0, subst Moderate (sym same) found.2.1)

    zero_blank : (n : ℕ) → 1 ≤ n → n ≤ t.buses → IsBlankAt row n → response_at p n ≡ pos 0
    zero_blank n l h blank =
        ap (λ o. unwrap_or (option_and_then (λ w. response_of w p.step) o) (pos 0)) (changes_same row n (change_at p n) None (gives n l h) blank)

  -- the meters

  blank_mute : (row : List Piece) (n : ℕ) → Contains rows row → 1 ≤ n → n ≤ t.buses → IsBlankAt row n → mute_of t n ≡ true
  blank_mute row n has l h blank =
      let here = table.each row has in
      let none = changes_same row n (change_at here.probe n) None (here.changes n l h) blank in
      let marked : blank_at n (probe_of t here.inverter) ≡ true = ap (blank_at n) here.stands ∙ ap is_none none in
      and_from _ _ (and_from _ _ (le-leb 1 n l) (le-leb n t.buses h))
      (list_any_at (blank_at n) t.probes (here.inverter - 1) None (omega (arith, here.first, here.last, few, table.places)) marked)

  mute_blank : (n : ℕ) → mute_of t n ≡ true → (1 ≤ n) × (n ≤ t.buses) × ((row : List Piece) × Contains rows row × IsBlankAt row n)
  mute_blank n e =
      let parts = and_parts (leb 1 n && leb n t.buses) (list_any (blank_at n) t.probes) e in
      let range = and_parts (leb 1 n) (leb n t.buses) parts.0 in
      let l = leb-true 1 n range.0 in
      let h = leb-true n t.buses range.1 in
      let found = Any-from_list_any (blank_at n) t.probes parts.1 in
      (l, h, probed l h found.0 found.1 (get_or_default t.probes found.0 None found.1 found.2 ∙ found.3) found.4)
    where
      blank_there : (row : List Piece) (v : Option ℤ) → is_none v ≡ true → GivesIfAny row n v → IsBlankAt row n
      blank_there row None e blank = blank
      blank_there row (Some v) e given = clash cc

      probed : 1 ≤ n → n ≤ t.buses → (i : ℕ) (o : Option Probe) → get_or t.probes i None ≡ o → blank_at n o ≡ true → (row : List Piece) × Contains rows row × IsBlankAt row n
      probed l h i None e marked = clash cc
      probed l h i (Some p) e marked =
          let place : i ≡ i + 1 - 1 = omega arith in
          let stands : probe_of t (i + 1) ≡ Some p = ap (λ j. get_or t.probes j None) (sym place) ∙ e in
          let named = table.only (i + 1) p (omega arith) stands in
          (named.0, named.1, blank_there named.0 (change_at p n) marked (gives named.0 named.1 (i + 1) p named.2 stands n l h))

  pub tells : Tells rows t
  tells =
      record {
        responds = λ row m p has named stands n v s l h given step. responds row has m p named stands n v s l h given step;
        zero = λ row m p has named stands n l h blank. zero_blank row has m p named stands n l h blank;
        blank = blank_mute;
        mute = mute_blank;
      }

pub file_tells : (records : List (List Piece)) (t : Table) → IsFileOf records t → Tells (drop 1 records) t
file_tells records t file =
    subst (λ rs. Tells (drop 1 rs) t) (sym file.parts) (tells file.rows t file.header.most file.right file.table)
