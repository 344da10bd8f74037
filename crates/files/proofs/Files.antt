-- A file's records: either nothing is wrong with them and the table is theirs, or they have a first fault; and what reading answers is just that.
use Rattle.std.proofs.Common.{◌≡◌, ℕ, zero, suc, ◌+◌, ◌-◌, ◌≤◌, List, [], ◌∷◌, ◌++◌, length, get_or, take, replicate, ℤ, Some, None, Ok, Err, Option, Result, sym, refl, ap, ◌∙◌, subst, ⊎_elim, arith}
use Rattle.std.proofs.lemmas.Option.{same_Some}
use Rattle.std.proofs.lemmas.List.{append_assoc, append-nil, length_push, length-append, take-append-le, take_at, get_or_append_left, get_or_at, get_or_push, ext_get_or, length-replicate}
use Rattle.std.proofs.lemmas.Bool.{cases_lt}
use Rattle.refusals.specs.Checks.{after}
use Rattle.refusals.proofs.Checks.{clash, after_ok, after_err}
use Rattle.rfc4180.specs.Places.{held, Piece}
use Rattle.units.specs.Decimals.{Reads}
use Rattle.files.specs.declared.fault.FileFault.{FileFault}
use Rattle.files.specs.declared.table.Probe.{Probe}
use Rattle.files.specs.declared.table.Table.{Table}
use Rattle.files.specs.Columns.{IsHeader, header_of}
use Rattle.files.specs.Fields.{text_at}
use Rattle.files.specs.Tables.{probe_of, change_at, empty_table}
use Rattle.files.specs.Rows.{row_of, rows_of, table_of}
use Rattle.files.specs.Responses.{GivesIfAny, IsRight, AreRight, RecordFault, FirstFault, header, body, Holds, IsProbe, IsTableOf, IsFileOf}
use Rattle.files.proofs.Entries.{reads_same, nothing_read}
use Rattle.files.proofs.Headers.{header_ok, header_err, ok_header, err_header}
use Rattle.files.proofs.Records.{row_fault, row_ok, right_row, fault_row}

-- The records that are right, one more at a time.

none_right : (n : ℕ) → AreRight n []
none_right n k l = absurd (omega arith)

more_right : (n : ℕ) (rows : List (List Piece)) (row : List Piece) → AreRight n rows → IsRight n rows row → AreRight n (rows ++ row ∷ [])
more_right n rows row all here k l =
    ⊎_elim
    (λ old.
    let front : take k (rows ++ row ∷ []) ≡ take k rows = take-append-le k rows (row ∷ []) (omega arith) in
    let same : get_or (rows ++ row ∷ []) k [] ≡ get_or rows k [] = get_or_append_left rows (row ∷ []) [] k old in
    rw front (rw same (all k old)))
    (λ past.
    let last : length rows ≡ k = omega (arith, l, length_push rows row) in
    let front : take k (rows ++ row ∷ []) ≡ rows = take_at rows (row ∷ []) k last in
    let same : get_or (rows ++ row ∷ []) k [] ≡ row = get_or_push rows row [] k last in
    rw front (rw same here))
    (cases_lt k (length rows))

-- what comes behind some records
right_there : (n : ℕ) (rows : List (List Piece)) (row : List Piece) (rest : List (List Piece)) → AreRight n (rows ++ row ∷ rest) → IsRight n rows row
right_there n rows row rest all =
    let front : take (length rows) (rows ++ row ∷ rest) ≡ rows = take_at rows (row ∷ rest) (length rows) refl in
    let same : get_or (rows ++ row ∷ rest) (length rows) [] ≡ row = get_or_at rows row rest [] (length rows) refl in
    let there = all (length rows) (omega (arith, length-append rows (row ∷ rest))) in
    rw same at (rw front at there)

-- Record by record.

module _ (n : ℕ) (few : n ≤ 64) where
  -- a table of n buses that holds these records, which are right
  record State (before : List (List Piece)) (t : Table) : Type 0 where
    buses : t.buses ≡ n
    table : IsTableOf before t
    right : AreRight n before

  step_state : (before : List (List Piece)) (t next : Table) (row : List Piece) → State before t → row_of t row ≡ Ok next → State (before ++ row ∷ []) next
  step_state before t next row state e =
      let found = row_ok t (omega (arith, state.buses, few)) before state.table row next e in
      record {
        buses = found.2 ∙ state.buses;
        table = found.1;
        right = more_right n before row state.right (subst (λ k. IsRight k before row) state.buses found.0);
      }

  regroup : (before : List (List Piece)) (row : List Piece) (rest : List (List Piece)) → (before ++ row ∷ []) ++ rest ≡ before ++ row ∷ rest
  regroup before row rest = append_assoc before (row ∷ []) rest

  rows_ok : (before rows : List (List Piece)) (t next : Table) → State before t → rows_of t rows ≡ Ok next → State (before ++ rows) next
  rows_ok before [] t next state e =
      let same : t ≡ next = cc in
      let all : State before next = subst (State before) same state in
      subst (λ rs. State rs next) (sym (append-nil before)) all
  rows_ok before (row ∷ rows) t next state e =
      let cut = after_ok (row_of t row) (λ x. rows_of x rows) next e in
      let rest = rows_ok (before ++ row ∷ []) rows cut.0 next (step_state before t cut.0 row state cut.1) cut.2 in
      subst (λ rs. State rs next) (regroup before row rows) rest

  -- the record that is the first to break a rule
  record Broken (before rows : List (List Piece)) (e : FileFault) : Type 0 where
    front : List (List Piece)
    row : List Piece
    behind : List (List Piece)
    parts : rows ≡ front ++ row ∷ behind
    right : AreRight n (before ++ front)
    fault : RecordFault n (before ++ front) row e

  rows_err : (before rows : List (List Piece)) (t : Table) (e : FileFault) → State before t → rows_of t rows ≡ Err e → Broken before rows e
  rows_err before [] t e state h = clash cc
  rows_err before (row ∷ rows) t e state h =
      ⊎_elim
      (λ bad.
      let fault = subst (λ k. RecordFault k before row e) state.buses (row_fault t (omega (arith, state.buses, few)) before state.table row e bad) in
      record {
        front = [];
        row = row;
        behind = rows;
        parts = refl;
        right = subst (AreRight n) (sym (append-nil before)) state.right;
        fault = subst (λ rs. RecordFault n rs row e) (sym (append-nil before)) fault;
      })
      (λ good.
      let rest = rows_err (before ++ row ∷ []) rows good.0 e (step_state before t good.0 row state good.1) good.2 in
      record {
        front = row ∷ rest.front;
        row = rest.row;
        behind = rest.behind;
        parts = ap (λ rs. row ∷ rs) rest.parts;
        right = subst (AreRight n) (regroup before row rest.front) rest.right;
        fault = subst (λ rs. RecordFault n rs rest.row e) (regroup before row rest.front) rest.fault;
      })
      (after_err (row_of t row) (λ x. rows_of x rows) e h)

  right_rows : (before rows : List (List Piece)) (t : Table) → State before t → AreRight n (before ++ rows) → (next : Table) × (rows_of t rows ≡ Ok next)
  right_rows before [] t state all = (t, refl)
  right_rows before (row ∷ rows) t state all =
      let here = right_there n before row rows all in
      let first = right_row t (omega (arith, state.buses, few)) before state.table row (subst (λ k. IsRight k before row) (sym state.buses) here) in
      let rest = right_rows (before ++ row ∷ []) rows first.0 (step_state before t first.0 row state first.1) (subst (AreRight n) (sym (regroup before row rows)) all) in
      (rest.0, ap (λ o. after o (λ x. rows_of x rows)) first.1 ∙ rest.1)

  rows_split : (t : Table) (front rest : List (List Piece)) → rows_of t (front ++ rest) ≡ after (rows_of t front) (λ x. rows_of x rest)
  rows_split t [] rest = refl
  rows_split t (row ∷ front) rest = go (row_of t row) (λ x. rows_split x front rest)
    where
      go : (o : Result Table FileFault) → ((x : Table) → rows_of x (front ++ rest) ≡ after (rows_of x front) (λ y. rows_of y rest)) →
          after o (λ x. rows_of x (front ++ rest)) ≡ after (after o (λ x. rows_of x front)) (λ x. rows_of x rest)
      go (Ok x) split = split x
      go (Err e) split = refl

  broken_rows : (front : List (List Piece)) (row : List Piece) (behind : List (List Piece)) (t : Table) (e : FileFault) → State [] t → AreRight n front → RecordFault n front row e → rows_of t (front ++ row ∷ behind) ≡ Err e
  broken_rows front row behind t e state all fault =
      let done = right_rows [] front t state all in
      let there = rows_ok [] front t done.0 state done.1 in
      let refused = fault_row done.0 (omega (arith, there.buses, few)) front there.table row e (subst (λ k. RecordFault k front row e) (sym there.buses) fault) in
      rows_split t front (row ∷ behind)
      ∙ ap (λ o. after o (λ x. rows_of x (row ∷ behind))) done.1
      ∙ ap (λ o. after o (λ x. rows_of x behind)) refused

  nothing_probed : (k i : ℕ) → get_or {A = Option Probe} (replicate k None) i None ≡ None
  nothing_probed zero i = refl
  nothing_probed (suc k) zero = refl
  nothing_probed (suc k) (suc i) = nothing_probed k i

  start : State [] (empty_table n)
  start =
      record {
        buses = refl;
        table =
            record {
              each = λ row has. absurd (omega (arith, has.1));
              only = λ m p l e. (let h = nothing_probed 64 (m - 1) in clash cc);
              places = length-replicate {A = Option Probe} 64 None;
              probes = λ m p l e. (let h = nothing_probed 64 (m - 1) in clash cc);
            };
        right = none_right n;
      }

-- The whole file.

pub file_ok : (records : List (List Piece)) (t : Table) → table_of records ≡ Ok t → IsFileOf records t
file_ok [] t e = clash cc
file_ok (head ∷ rows) t e =
    let cut = after_ok (header_of head) (λ n. rows_of (empty_table n) rows) t e in
    let named = header_ok head cut.0 cut.1 in
    let state = rows_ok cut.0 named.most [] rows (empty_table cut.0) t (start cut.0 named.most) cut.2 in
    record {
      head = head;
      rows = rows;
      parts = refl;
      header = subst (λ k. IsHeader k head) (sym state.buses) named;
      right = subst (λ k. AreRight k rows) (sym state.buses) state.right;
      table = state.table;
    }

pub file_err : (records : List (List Piece)) (e : FileFault) → 1 ≤ length records → table_of records ≡ Err e → FirstFault records e
file_err [] e l h = absurd (omega arith)
file_err (head ∷ rows) e l h =
    ⊎_elim
    (λ bad. header head rows refl (header_err head e bad))
    (λ good.
    let named = header_ok head good.0 good.1 in
    let found = rows_err good.0 named.most [] rows (empty_table good.0) e (start good.0 named.most) good.2 in
    body good.0 head found.front found.row found.behind (ap (λ rs. head ∷ rs) found.parts) named found.right found.fault)
    (after_err (header_of head) (λ n. rows_of (empty_table n) rows) e h)

pub fault_file : (records : List (List Piece)) (e : FileFault) → FirstFault records e → table_of records ≡ Err e
fault_file records e (header head rows parts fault) =
    ap table_of parts ∙ ap (λ o. after o (λ n. rows_of (empty_table n) rows)) (err_header head e fault)
fault_file records e (body n head front row behind parts named all fault) =
    ap table_of parts
    ∙ ap (λ o. after o (λ k. rows_of (empty_table k) (front ++ row ∷ behind))) (ok_header head n named)
    ∙ broken_rows n named.most front row behind (empty_table n) e (start n named.most) all fault

right_file : (records : List (List Piece)) (t : Table) → IsFileOf records t → (next : Table) × (table_of records ≡ Ok next) × (next.buses ≡ t.buses)
right_file records t file =
    let begin = start t.buses file.header.most in
    let done = right_rows t.buses file.header.most [] file.rows (empty_table t.buses) begin file.right in
    let there = rows_ok t.buses file.header.most [] file.rows (empty_table t.buses) done.0 begin done.1 in
    (done.0, ap table_of file.parts ∙ ap (λ o. after o (λ k. rows_of (empty_table k) file.rows)) (ok_header file.head t.buses file.header) ∙ done.1, there.buses)

pub right_read : (records : List (List Piece)) (n : ℕ) (head : List Piece) (rows : List (List Piece)) → records ≡ head ∷ rows → IsHeader n head → AreRight n rows → (t : Table) × IsFileOf records t
right_read records n head rows parts named all =
    let done = right_rows n named.most [] rows (empty_table n) (start n named.most) all in
    let found : table_of records ≡ Ok done.0 = ap table_of parts ∙ ap (λ o. after o (λ k. rows_of (empty_table k) rows)) (ok_header head n named) ∙ done.1 in
    (done.0, file_ok records done.0 found)

-- A file has one table.

pub changes_same : (row : List Piece) (b : ℕ) (v w : Option ℤ) → GivesIfAny row b v → GivesIfAny row b w → v ≡ w
changes_same row b None None p q = refl
changes_same row b None (Some w) blank q = absurd (nothing_read 9 w (subst (λ c. Reads 9 (held c) (Some w)) blank q))
changes_same row b (Some v) None p blank = absurd (nothing_read 9 v (subst (λ c. Reads 9 (held c) (Some v)) blank p))
changes_same row b (Some v) (Some w) p q = ap Some (reads_same 9 (text_at row (b + 1)) v w p q)

module _ (rows : List (List Piece)) (t u : Table) (one : IsTableOf rows t) (two : IsTableOf rows u) (buses : t.buses ≡ u.buses) where
  -- what one table has for an inverter the other has too
  probes_same : (m : ℕ) (p q : Probe) → 1 ≤ m → probe_of t m ≡ Some p → probe_of u m ≡ Some q → p ≡ q
  probes_same m p q l e f =
      let named = one.only m p l e in
      let row = named.0 in
      let here = one.each row named.1 in
      let there = two.each row named.1 in
      let first : here.inverter ≡ m = same_Some _ _ (sym here.names ∙ named.2) in
      let second : there.inverter ≡ m = same_Some _ _ (sym there.names ∙ named.2) in
      let own : here.probe ≡ p = same_Some _ _ (sym here.stands ∙ ap (probe_of t) first ∙ e) in
      let other : there.probe ≡ q = same_Some _ _ (sym there.stands ∙ ap (probe_of u) second ∙ f) in
      sym own ∙ equal row here there (one.probes here.inverter here.probe here.first here.stands) (two.probes there.inverter there.probe there.first there.stands) ∙ other
    where
      equal : (row : List Piece) (here : Holds t row) (there : Holds u row) → IsProbe t.buses here.probe → IsProbe u.buses there.probe → here.probe ≡ there.probe
      equal row here there a b =
          let steps = reads_same 3 (text_at row 1) here.probe.step there.probe.step here.step there.step in
          let changes = ext_get_or None here.probe.changes there.probe.changes (a.places ∙ sym b.places) (λ i l. at i) in
          ap (λ s. record { step = s; changes = here.probe.changes }) steps ∙ ap (λ c. record { step = there.probe.step; changes = c }) changes
        where
          at : (i : ℕ) → get_or here.probe.changes i None ≡ get_or there.probe.changes i None
          at i =
              let place : i + 1 - 1 ≡ i = omega arith in
              let within : change_at here.probe (i + 1) ≡ change_at there.probe (i + 1) =
              ⊎_elim
              (λ past. a.past (i + 1) past ∙ sym (b.past (i + 1) (omega (arith, buses))))
              (λ in_range. changes_same row (i + 1) _ _ (here.changes (i + 1) (omega arith) in_range) (there.changes (i + 1) (omega arith) (omega (arith, buses))))
              (cases_lt t.buses (i + 1)) in
              subst (λ j. get_or here.probe.changes j None ≡ get_or there.probe.changes j None) place within

  -- and has something for no other
  probed_too : (m : ℕ) (p : Probe) → 1 ≤ m → probe_of t m ≡ Some p → (q : Probe) × (probe_of u m ≡ Some q)
  probed_too m p l e =
      let named = one.only m p l e in
      let there = two.each named.0 named.1 in
      let second : there.inverter ≡ m = same_Some _ _ (sym there.names ∙ named.2) in
      (there.probe, ap (probe_of u) (sym second) ∙ there.stands)

module _ (rows : List (List Piece)) (t u : Table) (one : IsTableOf rows t) (two : IsTableOf rows u) (buses : t.buses ≡ u.buses) where
  probe_same : (m : ℕ) → 1 ≤ m → probe_of t m ≡ probe_of u m
  probe_same m l = go (probe_of t m) (probe_of u m) refl refl
    where
      go : (a b : Option Probe) → probe_of t m ≡ a → probe_of u m ≡ b → a ≡ b
      go None None e f = refl
      go None (Some q) e f = let other = probed_too rows u t two one (sym buses) m q l f in let h = other.1 in clash cc
      go (Some p) None e f = let other = probed_too rows t u one two buses m p l e in let h = other.1 in clash cc
      go (Some p) (Some q) e f = ap Some (probes_same rows t u one two buses m p q l e f)

  pub tables_same : t ≡ u
  tables_same =
      let probes = ext_get_or None t.probes u.probes (one.places ∙ sym two.places) (λ i l. at i) in
      ap (λ n. record { buses = n; probes = t.probes }) buses ∙ ap (λ ps. record { buses = u.buses; probes = ps }) probes
    where
      at : (i : ℕ) → get_or t.probes i None ≡ get_or u.probes i None
      at i =
          let place : i + 1 - 1 ≡ i = omega arith in
          subst (λ j. get_or t.probes j None ≡ get_or u.probes j None) place (probe_same (i + 1) (omega arith))

pub file_right : (records : List (List Piece)) (t : Table) → IsFileOf records t → table_of records ≡ Ok t
file_right records t file =
    let found = right_file records t file in
    let made = file_ok records found.0 found.1 in
    let same : file.rows ≡ made.rows = same_tail (sym file.parts ∙ made.parts) in
    let table = subst (λ rs. IsTableOf rs t) same file.table in
    found.1 ∙ ap Ok (sym (tables_same made.rows t found.0 table made.table (sym found.2)))
  where
    same_tail : {a b : List Piece} {xs ys : List (List Piece)} → a ∷ xs ≡ b ∷ ys → xs ≡ ys
    same_tail e = cc
