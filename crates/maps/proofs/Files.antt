-- The records of a map file: either nothing is wrong with them and they say lines, or they have a first fault.
use Rattle.std.proofs.Common.{◌≡◌, ℕ, zero, suc, ◌+◌, ◌-◌, ◌<◌, ◌≤◌, true, leb, List, [], ◌∷◌, ◌++◌, length, get_or, pos, Ok, Err, Result, sym, refl, ap, ◌∙◌, subst, ⊎_elim, arith}
use Rattle.std.proofs.lemmas.Option.{same_Some}
use Rattle.std.proofs.lemmas.Int.{ints}
use Rattle.std.specs.List.{AllByRecursion as All}
use Rattle.std.proofs.ByRecursion.{All-from_get_or}
use Rattle.std.proofs.lemmas.List.{length_push, length-append, get_or_append_left, get_or_push, ext_get_or}
use Rattle.std.proofs.lemmas.Bool.{leb-true, leb-false, le-leb}
use Rattle.refusals.specs.Checks.{need, after}
use Rattle.refusals.proofs.Checks.{clash, need_ok, need_err, after_ok, after_err}
use Rattle.rfc4180.specs.Places.{Piece}
use Rattle.feeder.specs.declared.line.Line.{Line}
use Rattle.feeder.specs.Feeder.{blank, line_of}
use Rattle.files.specs.declared.fault.FileFault.{FileFault}
use Rattle.files.specs.declared.fault.FileFault.TheVariants.{MapEntry}
use Rattle.files.specs.Fields.{text_at}
use Rattle.files.proofs.Entries.{reads_same}
use Rattle.maps.specs.Columns.{IsMapHeader, map_header_of}
use Rattle.maps.specs.Lines.{line_in, lines_in, map_lines}
use Rattle.maps.specs.Rules.{IsRight, AreRight, RecordFault, FirstFault, header, none, body, Says, AreLinesOf}
use Rattle.maps.proofs.Headers.{header_ok, header_err, ok_header, err_header}
use Rattle.maps.proofs.Records.{line_ok, line_err, right_line, fault_line}

abbrev row_at : List (List Piece) → ℕ → List Piece
row_at rows k = get_or rows k []

-- Record by record, behind lines that are there.

module _ (n : ℕ) where
  -- these records are right as those of the buses behind b
  abbrev RightFrom : ℕ → List (List Piece) → Type 0
  RightFrom b rows = (k : ℕ) → k < length rows → IsRight n (b + k + 1) (row_at rows k)

  -- lines with those of the records behind the ones before
  record More (before : List Line) (rows : List (List Piece)) (F : List Line) : Type 0 where
    count : length F ≡ length before + length rows
    kept : (k : ℕ) → k < length before → get_or F k blank ≡ get_or before k blank
    right : RightFrom (length before) rows
    says : (k : ℕ) → k < length rows → Says (row_at rows k) (get_or F (length before + k) blank)

  -- the record behind some lines, and those behind it
  cons_right : (b : ℕ) (row : List Piece) (rows : List (List Piece)) → IsRight n (b + 1) row → RightFrom (b + 1) rows → RightFrom b (row ∷ rows)
  cons_right b row rows first rest zero l = let bus : b + 1 ≡ b + 0 + 1 = omega arith in subst (λ i. IsRight n i row) bus first
  cons_right b row rows first rest (suc k) l = let bus : b + 1 + k + 1 ≡ b + suc k + 1 = omega arith in subst (λ i. IsRight n i (row_at rows k)) bus (rest k (omega arith))

  first_right : (b : ℕ) (row : List Piece) (rows : List (List Piece)) → RightFrom b (row ∷ rows) → IsRight n (b + 1) row
  first_right b row rows all = let bus : b + 0 + 1 ≡ b + 1 = omega arith in subst (λ i. IsRight n i row) bus (all 0 (omega arith))

  rest_right : (b : ℕ) (row : List Piece) (rows : List (List Piece)) → RightFrom b (row ∷ rows) → RightFrom (b + 1) rows
  rest_right b row rows all k l = let bus : b + suc k + 1 ≡ b + 1 + k + 1 = omega arith in subst (λ i. IsRight n i (row_at rows k)) bus (all (suc k) (omega arith))

  pushed : (before : List Line) (line : Line) (rows : List (List Piece)) → RightFrom (length before + 1) rows → RightFrom (length (before ++ line ∷ [])) rows
  pushed before line rows all = subst (λ b. RightFrom b rows) (sym (length_push before line)) all

  unpushed : (before : List Line) (line : Line) (rows : List (List Piece)) → RightFrom (length (before ++ line ∷ [])) rows → RightFrom (length before + 1) rows
  unpushed before line rows all = subst (λ b. RightFrom b rows) (length_push before line) all

  lines_ok : (before : List Line) (rows : List (List Piece)) (F : List Line) → lines_in n before rows ≡ Ok F → More before rows F
  lines_ok before [] F e =
      let same : before ≡ F = cc in
      let made : More before [] before = record { count = omega arith; kept = λ k l. refl; right = λ k l. absurd (omega arith); says = λ k l. absurd (omega arith) } in
      subst (More before []) same made
  lines_ok before (row ∷ rows) F e =
      let cut = after_ok (line_in n (length before + 1) row) (λ line. lines_in n (before ++ line ∷ []) rows) F e in
      let here = line_ok n (length before + 1) row cut.0 cut.1 in
      let more = before ++ cut.0 ∷ [] in
      let rest = lines_ok more rows F cut.2 in
      let own : get_or F (length before) blank ≡ cut.0 = rest.kept (length before) (omega (arith, length_push before cut.0)) ∙ get_or_push before cut.0 blank (length before) refl in
      record {
        count = omega (arith, rest.count, length_push before cut.0);
        kept = λ k l. rest.kept k (omega (arith, length_push before cut.0)) ∙ get_or_append_left before (cut.0 ∷ []) blank k l;
        right = cons_right (length before) row rows here.0 (unpushed before cut.0 rows rest.right);
        says = λ k. at k cut.0 here.1 own rest.says;
      }
    where
      at : (k : ℕ) (line : Line) → Says row line → get_or F (length before) blank ≡ line → ((j : ℕ) → j < length rows → Says (row_at rows j) (get_or F (length (before ++ line ∷ []) + j) blank)) →
          k < length (row ∷ rows) → Says (row_at (row ∷ rows) k) (get_or F (length before + k) blank)
      at zero line says own rest l =
          let place : length before ≡ length before + 0 = omega arith in
          subst (λ i. Says row (get_or F i blank)) place (subst (Says row) (sym own) says)
      at (suc k) line says own rest l =
          let place : length (before ++ line ∷ []) + k ≡ length before + suc k = omega (arith, length_push before line) in
          subst (λ i. Says (row_at rows k) (get_or F i blank)) place (rest k (omega arith))

  -- the record that is the first to break a rule
  record Broken (b : ℕ) (rows : List (List Piece)) (e : FileFault) : Type 0 where
    front : List (List Piece)
    row : List Piece
    behind : List (List Piece)
    parts : rows ≡ front ++ row ∷ behind
    right : RightFrom b front
    fault : RecordFault n (b + length front + 1) row e

  lines_err : (before : List Line) (rows : List (List Piece)) (e : FileFault) → lines_in n before rows ≡ Err e → Broken (length before) rows e
  lines_err before [] e h = clash cc
  lines_err before (row ∷ rows) e h =
      ⊎_elim
      (λ bad.
      let bus : length before + 1 ≡ length before + 0 + 1 = omega arith in
      record {
        front = [];
        row = row;
        behind = rows;
        parts = refl;
        right = λ k l. absurd (omega arith);
        fault = subst (λ i. RecordFault n i row e) bus (line_err n (length before + 1) row e bad);
      })
      (λ good.
      let here = line_ok n (length before + 1) row good.0 good.1 in
      let rest = lines_err (before ++ good.0 ∷ []) rows e good.2 in
      let bus : length (before ++ good.0 ∷ []) + length rest.front + 1 ≡ length before + length (row ∷ rest.front) + 1 = omega (arith, length_push before good.0) in
      record {
        front = row ∷ rest.front;
        row = rest.row;
        behind = rest.behind;
        parts = ap (λ rs. row ∷ rs) rest.parts;
        right = cons_right (length before) row rest.front here.0 (unpushed before good.0 rest.front rest.right);
        fault = subst (λ i. RecordFault n i rest.row e) bus rest.fault;
      })
      (after_err (line_in n (length before + 1) row) (λ line. lines_in n (before ++ line ∷ []) rows) e h)

  right_lines : (before : List Line) (rows : List (List Piece)) → RightFrom (length before) rows → (F : List Line) × (lines_in n before rows ≡ Ok F)
  right_lines before [] all = (before, refl)
  right_lines before (row ∷ rows) all =
      let first = right_line n (length before + 1) row (first_right (length before) row rows all) in
      let rest = right_lines (before ++ first.0 ∷ []) rows (pushed before first.0 rows (rest_right (length before) row rows all)) in
      (rest.0, ap (λ o. after o (λ line. lines_in n (before ++ line ∷ []) rows)) first.1 ∙ rest.1)

  lines_split : (before : List Line) (front rest : List (List Piece)) → lines_in n before (front ++ rest) ≡ after (lines_in n before front) (λ ls. lines_in n ls rest)
  lines_split before [] rest = refl
  lines_split before (row ∷ front) rest = go (line_in n (length before + 1) row) (λ line. lines_split (before ++ line ∷ []) front rest)
    where
      go : (o : Result Line FileFault) → ((line : Line) → lines_in n (before ++ line ∷ []) (front ++ rest) ≡ after (lines_in n (before ++ line ∷ []) front) (λ ls. lines_in n ls rest)) →
          after o (λ line. lines_in n (before ++ line ∷ []) (front ++ rest)) ≡ after (after o (λ line. lines_in n (before ++ line ∷ []) front)) (λ ls. lines_in n ls rest)
      go (Ok line) split = split line
      go (Err e) split = refl

  broken_lines : (front : List (List Piece)) (row : List Piece) (behind : List (List Piece)) (e : FileFault) → RightFrom 0 front → RecordFault n (length front + 1) row e → lines_in n [] (front ++ row ∷ behind) ≡ Err e
  broken_lines front row behind e all fault =
      let done = right_lines [] front all in
      let count : length done.0 ≡ length front = omega (arith, (lines_ok [] front done.0 done.1).count) in
      let refused = fault_line n (length done.0 + 1) row e (subst (λ i. RecordFault n (i + 1) row e) (sym count) fault) in
      lines_split [] front (row ∷ behind)
      ∙ ap (λ o. after o (λ ls. lines_in n ls (row ∷ behind))) done.1
      ∙ ap (λ o. after o (λ line. lines_in n (done.0 ++ line ∷ []) behind)) refused

  -- from the first bus on

  from_first : (rows : List (List Piece)) → RightFrom 0 rows → AreRight n rows
  from_first rows all k l = let bus : 0 + k + 1 ≡ k + 1 = omega arith in subst (λ i. IsRight n i (row_at rows k)) bus (all k l)

  to_first : (rows : List (List Piece)) → AreRight n rows → RightFrom 0 rows
  to_first rows all k l = let bus : k + 1 ≡ 0 + k + 1 = omega arith in subst (λ i. IsRight n i (row_at rows k)) bus (all k l)

-- Two lists of lines that the same records say are one.

says_same : (row : List Piece) (a b : Line) → Says row a → Says row b → a ≡ b
says_same row a b p q =
    let parent : a.parent ≡ b.parent = same_Some _ _ (sym p.parent ∙ q.parent) in
    let size : a.resistance ≡ b.resistance = omega (arith, ints, reads_same 6 (text_at row 2) (pos a.resistance) (pos b.resistance) p.resistance q.resistance) in
    ap (λ x. record { parent = x; resistance = a.resistance }) parent ∙ ap (λ x. record { parent = b.parent; resistance = x }) size

lines_same : (rows : List (List Piece)) (F G : List Line) → length F ≡ length rows → length G ≡ length rows →
    ((k : ℕ) → k < length rows → Says (row_at rows k) (line_of F (k + 1))) → ((k : ℕ) → k < length rows → Says (row_at rows k) (line_of G (k + 1))) → F ≡ G
lines_same rows F G c d p q = ext_get_or blank F G (omega (arith, c, d)) (λ k l. at k (omega (arith, c)))
  where
    at : (k : ℕ) → k < length rows → get_or F k blank ≡ get_or G k blank
    at k l = let place : k + 1 - 1 ≡ k = omega arith in subst (λ i. get_or F i blank ≡ get_or G i blank) place (says_same (row_at rows k) (line_of F (k + 1)) (line_of G (k + 1)) (p k l) (q k l))

-- The whole file.

module _ (bytes : ℕ) where
  abbrev behind_header : List (List Piece) → Result (List Line) FileFault
  behind_header rows = need (leb 1 (length rows)) (MapEntry bytes) (lines_in (length rows) [] rows)

  pub file_ok : (records : List (List Piece)) (F : List Line) → map_lines bytes records ≡ Ok F → AreLinesOf records F
  file_ok [] F e = clash cc
  file_ok (head ∷ rows) F e =
      let cut = after_ok (map_header_of head) (λ _. behind_header rows) F e in
      let passed = need_ok (leb 1 (length rows)) (MapEntry bytes) (lines_in (length rows) [] rows) F cut.2 in
      let more = lines_ok (length rows) [] rows F passed.1 in
      record {
        head = head;
        rows = rows;
        parts = refl;
        header = header_ok head cut.1;
        some = leb-true 1 (length rows) passed.0;
        right = from_first (length rows) rows more.right;
        count = omega (arith, more.count);
        says = λ k l. let place : 0 + k ≡ k + 1 - 1 = omega arith in subst (λ i. Says (row_at rows k) (get_or F i blank)) place (more.says k l);
      }

  pub file_err : (records : List (List Piece)) (e : FileFault) → 1 ≤ length records → map_lines bytes records ≡ Err e → FirstFault bytes records e
  file_err [] e l h = absurd (omega arith)
  file_err (head ∷ rows) e l h =
      ⊎_elim
      (λ bad. header head rows refl (header_err head e bad))
      (λ good. ⊎_elim
      (λ bad. none head (ap (λ rs. head ∷ rs) (no_rows rows (leb-false 1 (length rows) bad.0))) (header_ok head good.1) (sym bad.1))
      (λ some. broken rows refl (lines_err (length rows) [] rows e some.1) (header_ok head good.1))
      (need_err (leb 1 (length rows)) (MapEntry bytes) (lines_in (length rows) [] rows) e good.2))
      (after_err (map_header_of head) (λ _. behind_header rows) e h)
    where
      no_rows : (rows : List (List Piece)) → length rows < 1 → rows ≡ []
      no_rows [] l = refl
      no_rows (row ∷ rows) l = absurd (omega arith)

      broken : (all : List (List Piece)) → rows ≡ all → Broken (length rows) 0 rows e → IsMapHeader head → FirstFault bytes (head ∷ rows) e
      broken all same found named =
          let many = ap length found.parts in
          let bus : 0 + length found.front + 1 ≡ length found.front + 1 = omega arith in
          body head found.front found.row found.behind (ap (λ rs. head ∷ rs) found.parts) named
          (subst (λ k. AreRight k found.front) many (from_first (length rows) found.front found.right))
          (subst (λ k. RecordFault k (length found.front + 1) found.row e) many (subst (λ i. RecordFault (length rows) i found.row e) bus found.fault))

  pub fault_file : (records : List (List Piece)) (e : FileFault) → FirstFault bytes records e → map_lines bytes records ≡ Err e
  fault_file records e (header head rows parts fault) =
      ap (map_lines bytes) parts ∙ ap (λ o. after o (λ _. behind_header rows)) (err_header head e fault)
  fault_file records e (none head parts named is) =
      ap (map_lines bytes) parts ∙ ap (λ o. after o (λ _. behind_header [])) (ok_header head named) ∙ ap Err (sym is)
  fault_file records e (body head front row behind parts named all fault) =
      let rows = front ++ row ∷ behind in
      let some : leb 1 (length rows) ≡ true = le-leb 1 (length rows) (omega (arith, length-append front (row ∷ behind))) in
      ap (map_lines bytes) parts
      ∙ ap (λ o. after o (λ _. behind_header rows)) (ok_header head named)
      ∙ ap (λ t. need t (MapEntry bytes) (lines_in (length rows) [] rows)) some
      ∙ broken_lines (length rows) front row behind e (to_first (length rows) front all) fault

  pub right_said : (records : List (List Piece)) (head : List Piece) (rows : List (List Piece)) → records ≡ head ∷ rows → IsMapHeader head → 1 ≤ length rows → AreRight (length rows) rows → (F : List Line) × AreLinesOf records F
  right_said records head rows parts named some all =
      let done = right_lines (length rows) [] rows (to_first (length rows) rows all) in
      let found : map_lines bytes records ≡ Ok done.0 =
      ap (map_lines bytes) parts
      ∙ ap (λ o. after o (λ _. behind_header rows)) (ok_header head named)
      ∙ ap (λ t. need t (MapEntry bytes) (lines_in (length rows) [] rows)) (le-leb 1 (length rows) some)
      ∙ done.1 in
      (done.0, file_ok records done.0 found)

  pub file_right : (records : List (List Piece)) (F : List Line) → AreLinesOf records F → map_lines bytes records ≡ Ok F
  file_right records F file =
      let done = right_lines (length file.rows) [] file.rows (to_first (length file.rows) file.rows file.right) in
      let more = lines_ok (length file.rows) [] file.rows done.0 done.1 in
      let says : (k : ℕ) → k < length file.rows → Says (row_at file.rows k) (line_of done.0 (k + 1)) =
      λ k l. let place : 0 + k ≡ k + 1 - 1 = omega arith in subst (λ i. Says (row_at file.rows k) (get_or done.0 i blank)) place (more.says k l) in
      let same = lines_same file.rows done.0 F (omega (arith, more.count)) file.count says file.says in
      ap (map_lines bytes) file.parts
      ∙ ap (λ o. after o (λ _. behind_header file.rows)) (ok_header file.head file.header)
      ∙ ap (λ t. need t (MapEntry bytes) (lines_in (length file.rows) [] file.rows)) (le-leb 1 (length file.rows) file.some)
      ∙ done.1
      ∙ ap Ok same

-- Of the lines that a file says: each goes up to a bus of the file, and its resistance is 1 to 1,000,000.

pub record Wired (buses : ℕ) (line : Line) : Type 0 where
  pub upper : line.parent ≤ buses
  pub some : 1 ≤ line.resistance
  pub most : line.resistance ≤ 1000000

pub file_wired : (records : List (List Piece)) (F : List Line) → AreLinesOf records F → All (Wired (length F)) F
file_wired records F file = All-from_get_or (Wired (length F)) F blank at
  where
    at : (k : ℕ) → k < length F → Wired (length F) (get_or F k blank)
    at k l =
        let row = row_at file.rows k in
        let small : k < length file.rows = omega (arith, file.count) in
        let place : k + 1 - 1 ≡ k = omega arith in
        let says : Says row (get_or F k blank) = subst (λ i. Says row (get_or F i blank)) place (file.says k small) in
        let above = (file.right k small).each 1 (omega arith) in
        let size = (file.right k small).each 2 (omega arith) in
        let parent : above.0 ≡ (get_or F k blank).parent = same_Some _ _ (sym above.1 ∙ says.parent) in
        let resistance = reads_same 6 (text_at row 2) size.0 (pos (get_or F k blank).resistance) size.1 says.resistance in
        record {
          upper = omega (arith, parent, above.2, file.count);
          some = omega (arith, ints, resistance, size.2.0);
          most = omega (arith, ints, resistance, size.2.1);
        }

pub file_some : (records : List (List Piece)) (F : List Line) → AreLinesOf records F → 1 ≤ length F
file_some records F file = omega (arith, file.count, file.some)

pub file_few : (records : List (List Piece)) (F : List Line) → AreLinesOf records F → length F ≤ 64
file_few records F file =
    let k = length file.rows - 1 in
    let last = ((file.right k (omega (arith, file.some))).each 0 (omega arith)).1 in
    omega (arith, last, file.some, file.count)
