-- What is worked out from a table means the table's plant.
use Rattle.std.proofs.Common.{◌≡◌, ℕ, ◌-◌, ◌≤◌, Bool, true, false, cond, ◌&&◌, List, [], get_or, replicate, ℤ, pos, Some, None, Option, is_some, refl, sym, ap, ◌∙◌, subst, inl, inr, arith}
use Rattle.std.proofs.Math.Path.{fun_ext}
use Rattle.std.specs.List.{list_any}
use Rattle.std.proofs.lemmas.Bool.{cases_Bool, and_parts}
use Rattle.std.proofs.lemmas.List.{get_or-replicate}
use Rattle.refusals.proofs.Checks.{clash}
use Rattle.files.specs.declared.table.Probe.{Probe}
use Rattle.files.specs.declared.table.Table.{Table}
use Rattle.files.specs.Tables.{probe_of, response_in, blank_at, mute_of, empty_table}
use Rattle.files.proofs.Bounds.{everywhere}
use Rattle.sources.specs.GridFacts.{within}
use Rattle.sources.specs.LineFacts.{marked}
use Rattle.sources.specs.TableFacts.{probed, table_response, table_plant, AreInvertersOf, AreResponsesTo, AreResponsesOf, AreMuteMetersOf, worked_response, worked_plant}
use Rattle.sources.proofs.Entries.{within_le}

-- two tests that agree among the numbers 1 to last agree there
among : (last : ℕ) (a b : Bool) (n : ℕ) → (within last n ≡ true → a ≡ b) → within last n && a ≡ within last n && b
among last a b n h =
    elim (cases_Bool (within last n)) [
      | inl t ↦ ap (λ q. within last n && q) (h t)
      | inr f ↦ ap (λ q. q && a) f ∙ sym (ap (λ q. q && b) f)
    ]

-- two numbers that agree where they count do so elsewhere too
where_counted : (here : Bool) (x y : ℤ) → (here ≡ true → x ≡ y) → cond here x (pos 0) ≡ cond here y (pos 0)
where_counted true x y h = h refl
where_counted false x y h = refl

module _ (t : Table) (few : t.buses ≤ 64) (inverters : List Bool) (rows : List (List ℤ)) (mute : List Bool)
    (placed : AreInvertersOf t inverters) (responds : AreResponsesOf t rows) (hears : AreMuteMetersOf t mute) where
  same_inverter : (m : ℕ) → marked t.buses inverters m ≡ probed t m
  same_inverter m =
      among t.buses (get_or inverters (m - 1) false) (is_some (probe_of t m)) m
      (λ e. let p = within_le t.buses m e in placed m p.0 (omega (arith, p.1)))

  same_response : (n m : ℕ) → worked_response t.buses inverters rows n m ≡ table_response t n m
  same_response n m =
      where_counted (marked t.buses inverters m && within t.buses n) (get_or (get_or rows (m - 1) []) (n - 1) (pos 0)) (response_in (probe_of t m) n)
      (λ e.
      let both = and_parts (marked t.buses inverters m) (within t.buses n) e in
      let inverter = within_le t.buses m (and_parts (within t.buses m) (get_or inverters (m - 1) false) both.0).0 in
      let bus = within_le t.buses n both.1 in
      (responds m inverter.0 (omega (arith, inverter.1))).each n bus.0 (omega (arith, bus.1))) ∙
      ap (λ q. cond (q && within t.buses n) (response_in (probe_of t m) n) (pos 0)) (same_inverter m)

  same_mute : (n : ℕ) → marked t.buses mute n ≡ mute_of t n
  same_mute n =
      elim (cases_Bool (within t.buses n)) [
        | inl e ↦ let p = within_le t.buses n e in
            ap (λ q. q && get_or mute (n - 1) false) e ∙ hears n p.0 (omega (arith, p.1))
        | inr f ↦ ap (λ q. q && get_or mute (n - 1) false) f ∙ sym (ap (λ q. q && list_any (blank_at n) t.probes) f)
      ]

  pub worked_is_table : worked_plant t.buses inverters rows mute ≡ table_plant t
  worked_is_table =
      ap (λ i. record { buses = t.buses; inverter = i; response = worked_response t.buses inverters rows; standing = λ _. pos 0; mute = marked t.buses mute })
      (fun_ext same_inverter) ∙
      ap (λ r. record { buses = t.buses; inverter = probed t; response = r; standing = λ _. pos 0; mute = marked t.buses mute })
      (fun_ext (λ n. fun_ext (same_response n))) ∙
      ap (λ q. record { buses = t.buses; inverter = probed t; response = table_response t; standing = λ _. pos 0; mute = q })
      (fun_ext same_mute)

-- where nothing was probed, each response is 0

unprobed : (o : Option Probe) (n : ℕ) → is_some o ≡ false → response_in o n ≡ pos 0
unprobed None n e = refl
unprobed (Some p) n e = clash cc

pub unprobed_row : (t : Table) (m : ℕ) → is_some (probe_of t m) ≡ false → AreResponsesTo t m (replicate 64 (pos 0))
unprobed_row t m e = record { each = λ n _ _. everywhere 64 (n - 1) (pos 0) ∙ sym (unprobed (probe_of t m) n e) }

-- what is worked out from a table of one bus where nothing was probed

no_inverter : (m : ℕ) → probe_of (empty_table 1) m ≡ None
no_inverter m = everywhere 64 (m - 1) None

pub nothing_worked : worked_plant 1 (replicate 64 false) (replicate 64 (replicate 64 (pos 0))) (replicate 64 false) ≡ table_plant (empty_table 1)
nothing_worked =
    worked_is_table (empty_table 1) (omega arith) (replicate 64 false) (replicate 64 (replicate 64 (pos 0))) (replicate 64 false)
    (λ m a b. everywhere 64 (m - 1) false ∙ sym (ap is_some (no_inverter m)))
    (λ m a b.
    subst (AreResponsesTo (empty_table 1) m) (sym (get_or-replicate 64 (m - 1) (replicate 64 (pos 0)) [] (omega arith)))
    (unprobed_row (empty_table 1) m (ap is_some (no_inverter m))))
    (λ n a b. everywhere 64 (n - 1) false ∙ sym (silent (within 1 n)))
  where
    silent : (q : Bool) → q && false ≡ false
    silent true = refl
    silent false = refl
