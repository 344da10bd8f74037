-- Columns that were read, entry by entry, as a table.
use Rattle.std.proofs.Common.{◌≡◌, ℕ, ◌+◌, ◌-◌, ◌<◌, ◌≤◌, List, [], get_or, take, replicate, length, ℤ, pos, Some, None, Option, MatchOption, is_some, unwrap_or, sym, refl, ap, ◌∙◌, subst, inl, inr, ⊎_elim, arith, length-take}
use Rattle.std.proofs.lemmas.Bool.{cases_lt, cases_eq}
use Rattle.std.proofs.lemmas.List.{get_or-take, length-replicate, get_or-replicate, get_or_past}
use Rattle.std.specs.Option.{option_copied}
use denote.Ref.{Bor}
use Rattle.drawing.specs.declared.columns.Columns.{Columns}
use Rattle.drawing.specs.declared.responses.Responses.{Responses}
use Rattle.drawing.specs.Seats.{Meter, Inverter}
use Rattle.drawing.specs.Columns.{table_of, Wrong}
use Rattle.drawing.specs.Responses.{entries_of, Reads, WrongColumns, WrongEntry, Read, ReadTo}

back : (n : ℕ) → n ≡ n + 1 - 1
back n = omega arith

pub wrong_entry : (c : Columns) → WrongEntry c → WrongColumns (table_of c)
unfolding table_of
wrong_entry c (k, n, hk, hn, i, w) = inr (inr (n + 1, k + 1, (omega arith, omega arith), ((omega arith, omega arith), ap (λ t. is_some (get_or c.columns t None)) (sym (back k)) ∙ i), subst (λ t. Wrong (get_or (unwrap_or (get_or c.columns (k + 1 - 1) None) []) t (pos 0))) (back n) (subst (λ t. Wrong (get_or (unwrap_or (get_or c.columns t None) []) n (pos 0))) (back k) w)))

pub outside : (c : Columns) → (1 ≤ c.buses → c.buses ≤ 64 → ⊥) → WrongColumns (table_of c)
unfolding table_of
outside c z = ⊎_elim inl (λ n. inr (inl (⊎_elim (λ l. l) (λ h. absurd (z (omega arith) h)) (cases_lt 64 c.buses)))) (cases_eq c.buses 0)

pub read_all : (c : Columns) (r : Responses) → r.buses ≡ c.buses → ReadTo c c.buses r.columns → Reads (table_of c) (entries_of r)
unfolding table_of entries_of
read_all c r e t =
    record {
      natural = record {
        metered = sym e;
        has = λ m h. sym (read m h).0;
        entries = λ n m hn hm. (entry n m hn hm).0;
      };
      some = r.some;
      few = r.counted;
      near = λ n m hn hm. (entry n m hn hm).1;
    }
  where
    read : (m : ℕ) → Meter (entries_of r) m → Read c.buses (get_or c.columns (m - 1) None) (get_or r.columns (m - 1) None)
    read m h = t.1 (m - 1) (omega (arith, h.0, h.1))

    entry : (n m : ℕ) → Meter (entries_of r) n → Inverter (entries_of r) m → (get_or (unwrap_or (get_or c.columns (m - 1) None) []) (n - 1) (pos 0) ≡ pos (get_or (unwrap_or (get_or r.columns (m - 1) None) []) (n - 1) 0)) × (get_or (unwrap_or (get_or r.columns (m - 1) None) []) (n - 1) 0 ≤ 1000000)
    entry n m hn hm = (read m hm.0).1 (sym (read m hm.0).0 ∙ hm.1) (n - 1) (omega (arith, hn.0, hn.1))

-- a column with a wrong entry
module _ (c : Columns) (i : ℕ) (u : List (Option (List ℕ))) (before : ReadTo c i u) (behind : (k : ℕ) → i ≤ k → get_or u k None ≡ None) (lt : i < length (take c.buses c.columns)) (few : c.buses ≤ 64) where
  below : i < c.buses
  below = omega (arith, length-take c.buses c.columns)

  column : get_or (take c.buses c.columns) i None ≡ get_or c.columns i None
  column = get_or-take c.buses c.columns i None below

  pub read_wrong : (ys : List ℤ) → get_or (take c.buses c.columns) i None ≡ Some ys → ((n : ℕ) × (n < c.buses) × Wrong (get_or ys n (pos 0))) → WrongEntry c
  read_wrong ys e (n, lt, w) = (i, n, below, lt, rw (sym column ∙ e) refl, rw (sym column ∙ e) w)

-- no column yet
pub read_nothing : (c : Columns) → ReadTo c 0 (replicate 64 None) × ((k : ℕ) → 0 ≤ k → get_or {A = Option (List ℕ)} (replicate 64 None) k None ≡ None)
read_nothing c = ((length-replicate {A = Option (List ℕ)} 64 None, λ k l. absurd (omega arith)), λ k l. ⊎_elim (λ lt. get_or-replicate {A = Option (List ℕ)} 64 k None None lt) (λ le. get_or_past (replicate 64 None) k None (omega (arith, length-replicate {A = Option (List ℕ)} 64 None))) (cases_lt k 64))

-- the entry in a column, or 0 where there is none
pub entry_told : (o : Option (Bor (List ℕ))) (u : Option (List ℕ)) (P : Bor (List ℕ) → Type 0) (n v : ℕ) → option_copied o ≡ u → ((x : Bor (List ℕ)) → P x → v ≡ get_or x.now n 0) → MatchOption o (v ≡ 0) P → v ≡ get_or (unwrap_or u []) n 0
entry_told None u P n v e told h = rw (sym e) h
entry_told (Some x) u P n v e told h = rw (sym e) (told x h)

pub few : (r : Responses) → (entries_of r).metered ≤ 64
unfolding entries_of
few r = r.counted

pub some : (r : Responses) → 0 < (entries_of r).metered
unfolding entries_of
some r = r.some
