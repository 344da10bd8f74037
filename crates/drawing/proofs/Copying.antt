-- Columns that are copied from a campaign.
use Rattle.std.proofs.Common.{◌≡◌, ℕ, ◌+◌, ◌-◌, ◌<◌, ◌≤◌, Bool, true, false, not, ◌&&◌, leb, List, [], get_or, ℤ, pos, Some, None, Ok, Err, Option, is_some, ok_or, unwrap_or, IfSome, MatchOption, sym, refl, ap, ◌∙◌, subst, ⊎_elim, arith}
use Rattle.std.specs.Bool.{then_some}
use Rattle.std.proofs.lemmas.Int.{ints}
use Rattle.std.proofs.lemmas.Bool.{and_from, both_ways, cases_Bool, le-leb, cond-true, false≢true, false_from_ne_true}
use Rattle.probing.specs.Answers.{lowest}
use Rattle.probing.proofs.Readings.{lowest_here, lowest_stays, lowest_fails, lowest_empty}
use Rattle.campaign.specs.declared.state.Campaign.{Campaign}
use Rattle.feeder.proofs.Agreeing.{Agree, inverter_to}
use Rattle.campaign.specs.Columns.{numbered, has_inverter, present, entry, response_in}
use Rattle.campaign.specs.Drawings.{columns_of, missing, Moderate}
use Rattle.feeder.specs.Table.{Inverter}
use Rattle.drawing.specs.declared.columns.Columns.{Columns}
use Rattle.drawing.specs.Columns.{table_of, Within}
use Rattle.drawing.specs.Copies.{Copy}

-- the response of a present column is its entry
pub entry_told : (c : Campaign) (k m : ℕ) → k < 64 → present c m ≡ true → unwrap_or (response_in c (k + 1) m) (pos 0) ≡ entry c (k + 1) m
entry_told c k m l p =
    ap (λ (o : Option ℤ). unwrap_or o (pos 0))
    (cond-true (numbered (k + 1) && present c m) (Some (entry c (k + 1) m)) None (and_from (numbered (k + 1)) (present c m) (and_from (leb 1 (k + 1)) (leb (k + 1) 64) (le-leb 1 (k + 1) (omega arith)) (le-leb (k + 1) 64 (omega arith))) p))

-- a value where there is one
pub some_if : {X : Type 0} (b : Bool) (x : X) → is_some (then_some b x) ≡ b
some_if true x = refl
some_if false x = refl

-- the entries of a column that is present
pub entries_told : (c : Campaign) (m : ℕ) (b : Bool) (xs : List ℤ) (o : Option (List ℤ)) → o ≡ then_some b xs → present c m ≡ true → ((k : ℕ) → k < 64 → get_or xs k (pos 0) ≡ unwrap_or (response_in c (k + 1) m) (pos 0)) → IfSome o (λ ys. (k : ℕ) → k < 64 → get_or ys k (pos 0) ≡ entry c (k + 1) m)
entries_told c m true xs o e p told = rw e (λ k l. told k l ∙ entry_told c k m l p)
entries_told c m false xs o e p told = rw e tt

-- inverter m's column is copied
pub record Column (c : Campaign) (m : ℕ) (o : Option (List ℤ)) : Type 0 where
  pub has : is_some o ≡ has_inverter c m
  pub entries : present c m ≡ true → IfSome o (λ ys. (k : ℕ) → k < 64 → get_or ys k (pos 0) ≡ entry c (k + 1) m)

some_entry : (o : Option (List ℤ)) (P : List ℤ → Type 0) → is_some o ≡ true → IfSome o P → P (unwrap_or o [])
some_entry None P e h = absurd (false≢true e)
some_entry (Some x) P e h = h

pub copy : (c : Campaign) (columns : Columns) → columns.buses ≡ c.buses → ((k : ℕ) → k < 64 → Column c (k + 1) (get_or columns.columns k None)) → Copy c columns
copy c columns e each =
    record {
      buses = e;
      has = λ m low high. (column m low high).has;
      entries = λ n m low high low' high' h p. some_entry (get_or columns.columns (m - 1) None) (λ ys. get_or ys (n - 1) (pos 0) ≡ entry c n m) ((column m low' high').has ∙ h) (at n m low high (get_or columns.columns (m - 1) None) ((column m low' high').entries p));
    }
  where
    at : (n m : ℕ) → 1 ≤ n → n ≤ 64 → (o : Option (List ℤ)) → IfSome o (λ ys. (k : ℕ) → k < 64 → get_or ys k (pos 0) ≡ entry c (k + 1) m) → IfSome o (λ ys. get_or ys (n - 1) (pos 0) ≡ entry c n m)
    at n m low high None told = told
    at n m low high (Some ys) told = let back : n - 1 + 1 ≡ n = omega arith in told (n - 1) (omega arith) ∙ ap (λ k. entry c k m) back

    column : (m : ℕ) → 1 ≤ m → m ≤ 64 → Column c m (get_or columns.columns (m - 1) None)
    column m low high = let back : m - 1 + 1 ≡ m = omega arith in subst (λ k. Column c k (get_or columns.columns (m - 1) None)) back (each (m - 1) (omega arith))

-- the lowest that passes
pub lowest_is : (last : ℕ) (test : ℕ → Bool) (o : Option ℕ) → MatchOption o ((n : ℕ) → 1 ≤ n → n ≤ last → test n ≡ true → ⊥) (λ n. (1 ≤ n) × (n ≤ last) × (test n ≡ true) × ((m : ℕ) → 1 ≤ m → m < n → test m ≡ true → ⊥)) → o ≡ lowest last test
lowest_is last test None none = sym (lowest_empty last test (λ n lo hi. false_from_ne_true (test n) (none n lo hi)))
lowest_is last test (Some n) (lo, hi, here, first) =
    let back : n - 1 + 1 ≡ n = omega arith in
    let at = lowest_here (n - 1) test (lowest_empty (n - 1) test (λ m l h. false_from_ne_true (test m) (first m l (omega arith)))) (ap test back ∙ here) in
    sym (lowest_stays n last n test hi (rw back at at))

-- no column is missing: each inverter's is present
there : (c : Campaign) → missing c ≡ None → (m : ℕ) → 1 ≤ m → m ≤ c.buses → has_inverter c m ≡ true → present c m ≡ true
there c e m l h t =
    ⊎_elim (λ p. p) (λ n. absurd (both_ways _ (lowest_fails c.buses m (λ m. has_inverter c m && not (present c m)) e l h) (and_from (has_inverter c m) (not (present c m)) t (ap not n)))) (cases_Bool (present c m))

-- copied columns, none missing, are the campaign's table to a drawing
pub copied : (c : Campaign) (columns : Columns) → Copy c columns → c.buses ≤ 64 → missing c ≡ None → Agree (table_of columns) (columns_of c)
unfolding table_of
copied c columns copy few e =
    record {
      metered = copy.buses;
      has = λ m p. copy.has m p.0 (omega (arith, copy.buses));
      entries = λ n m p q. copy.entries n m p.0 (omega (arith, copy.buses)) q.0.0 (omega (arith, copy.buses)) (inverter m q) (there c e m q.0.0 (omega (arith, copy.buses)) (inverter m q));
    }
  where
    inverter : (m : ℕ) → Inverter (table_of columns) m → has_inverter c m ≡ true
    inverter m q = sym (copy.has m q.0.0 (omega (arith, copy.buses))) ∙ q.1

-- and within what maps have room for, where the campaign's entries are moderate
pub copied_within : (c : Campaign) (columns : Columns) → Copy c columns → missing c ≡ None → Moderate c → Within (table_of columns)
unfolding table_of
copied_within c columns copy e moderate =
    record {
      few = omega (arith, copy.buses, moderate.few);
      near = λ n m p q far.
          let agree = copied c columns copy moderate.few e in
          let small = moderate.entries n m p.0 (omega (arith, copy.buses)) (there c e m q.0.0 (omega (arith, copy.buses)) (inverter_to agree q).1) in
          omega (arith, ints, small, agree.entries n m p q, far);
    }

-- what the answer of a drawing tells, where it is handed on as a result
pub was_drawn : {X E : Type 0} (P : Type 0) (Q : X → Type 0) (o : Option X) (e : E) (x : X) → ok_or o e ≡ Ok x → MatchOption o P Q → Q x
was_drawn P Q None e x is h = absurd (let z : ⊥ = cc in z)
was_drawn P Q (Some y) e x is h = let same : y ≡ x = cc in subst Q same h

pub was_refused : {X E : Type 0} (P : Type 0) (Q : X → Type 0) (o : Option X) (e f : E) → ok_or o e ≡ Err f → MatchOption o P Q → (f ≡ e) × P
was_refused P Q None e f is h = (cc, h)
was_refused P Q (Some y) e f is h = absurd (let z : ⊥ = cc in z)
