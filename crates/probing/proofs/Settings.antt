-- What the author of a source needs for its law, and for the settings that it keeps in a list.
use Rattle.std.proofs.Common.{◌≡◌, ℕ, zero, suc, ◌-◌, ◌<◌, ◌≤◌, Bool, true, false, cond, List, length, get_or, replicate, ℤ, pos, nat_abs, refl, sym, ap, subst, ◌∙◌, ⊎_elim, arith}
use Rattle.std.specs.Prelude.{◌≢◌, nat_le, slice_index_or, slice_set, unsigned_abs}
use Rattle.std.proofs.Math.Path.{fun_ext}
use Rattle.std.proofs.lemmas.List.{get_or-set_same, get_or-set_other, set_past}
use Rattle.std.proofs.lemmas.Bool.{cases_lt, cases_eq, cases_Bool, leb-true, and_parts, cond-true, cond-false}
use Rattle.probing.specs.Facts.{Plant, PlantIsBounded, StateIsBounded, IsBounded, replaced, with_setting}
use Rattle.probing.specs.Settings.{settings_in, with_kept, AreSettings}
use Rattle.probing.proofs.Voltages.{replaced_here, replaced_there}

-- a number that counts in one case, and is 0 elsewhere, is within a bound if it is where it counts
pub within_where : (here : Bool) (z : ℤ) (most : ℕ) → (here ≡ true → unsigned_abs z ≤ most) → unsigned_abs (cond here z (pos 0)) ≤ most
within_where true z most h = h refl
within_where false z most h = omega arith

-- settings in a list are a plant's
pub settings_are_bounded : (p : Plant) (kept : List ℤ) → AreSettings kept → StateIsBounded p (settings_in p.inverter kept)
settings_are_bounded p kept h =
    record {
      settings = λ m. within_where (p.inverter m) (get_or kept (m - 1) (pos 0)) 1000 (λ _. h (m - 1));
      unset = λ m e. cond-false _ _ _ e;
    }

-- so a source that keeps them so is within the bounds, if its plant is
pub kept_is_bounded : (p : Plant) → PlantIsBounded p → (kept : List ℤ) → AreSettings kept → IsBounded (with_kept p kept)
kept_is_bounded p bounds kept h = record { plant = bounds; state = settings_are_bounded p kept h }

zeros_everywhere : (n k : ℕ) → get_or (replicate n (pos 0)) k (pos 0) ≡ pos 0
zeros_everywhere zero k = refl
zeros_everywhere (suc n) zero = refl
zeros_everywhere (suc n) (suc k) = zeros_everywhere n k

-- every inverter on its schedule
pub zeros_are_settings : (n : ℕ) → AreSettings (replicate n (pos 0))
zeros_are_settings n k = omega (arith, ap nat_abs (zeros_everywhere n k))

pub zeros_in : (inverter : ℕ → Bool) (n : ℕ) → settings_in inverter (replicate n (pos 0)) ≡ record { setting = λ _. pos 0 }
zeros_in inverter n =
    ap (λ s. record { setting = s })
    (fun_ext (λ m. ⊎_elim (λ t. cond-true _ _ _ t ∙ zeros_everywhere n (m - 1)) (λ f. cond-false _ _ _ f) (cases_Bool (inverter m))))

-- one setting replaced
pub set_are_settings : (kept : List ℤ) (i : ℕ) (v : ℤ) → unsigned_abs v ≤ 1000 → AreSettings kept → AreSettings (slice_set kept i v)
set_are_settings kept i v small h k = ⊎_elim here past (cases_lt i (length kept))
  where
    here : i < length kept → unsigned_abs (slice_index_or (slice_set kept i v) k (pos 0)) ≤ 1000
    here l =
        ⊎_elim
        (λ e. subst (λ z. unsigned_abs z ≤ 1000) (sym (ap (λ j. get_or (slice_set kept i v) j (pos 0)) e ∙ get_or-set_same kept i v (pos 0) l)) small)
        (λ n. subst (λ z. unsigned_abs z ≤ 1000) (sym (get_or-set_other kept i k v (pos 0) n)) (h k))
        (cases_eq k i)

    past : length kept ≤ i → unsigned_abs (slice_index_or (slice_set kept i v) k (pos 0)) ≤ 1000
    past l = subst (λ xs. unsigned_abs (slice_index_or xs k (pos 0)) ≤ 1000) (sym (set_past kept i v l)) (h k)

-- an inverter is at a bus of 1 to 64
pub inverter_bus : (p : Plant) → PlantIsBounded p → (m : ℕ) → p.inverter m ≡ true → (1 ≤ m) × (m ≤ 64)
inverter_bus p bounds m there =
    let parts = and_parts (nat_le 1 m) (nat_le m p.buses) (bounds.placed m there) in
    (leb-true 1 m parts.0, omega (arith, leb-true m p.buses parts.1, bounds.few))

-- to replace the setting at place m - 1 is to replace that of the inverter at bus m
pub setting_replaced : (inverter : ℕ → Bool) (kept : List ℤ) (m : ℕ) (v : ℤ) →
    inverter m ≡ true → ((k : ℕ) → inverter k ≡ true → 1 ≤ k) → m - 1 < length kept →
    (settings_in inverter (slice_set kept (m - 1) v)).setting ≡ replaced (settings_in inverter kept).setting m v
setting_replaced inverter kept m v there placed l = fun_ext (λ k. ⊎_elim (same k) (other k) (cases_eq k m))
  where
    before : ℕ → ℤ
    before = (settings_in inverter kept).setting

    behind : ℕ → ℤ
    behind = (settings_in inverter (slice_set kept (m - 1) v)).setting

    same : (k : ℕ) → k ≡ m → behind k ≡ replaced before m v k
    same k e =
        let at : behind m ≡ v = cond-true _ _ _ there ∙ get_or-set_same kept (m - 1) v (pos 0) l in
        ap behind e ∙ at ∙ sym (ap (replaced before m v) e ∙ replaced_here before m v)

    stays : (k : ℕ) → (k ≢ m) → behind k ≡ before k
    stays k n =
        ⊎_elim
        (λ t. ap (λ z. cond (inverter k) z (pos 0)) (get_or-set_other kept (m - 1) (k - 1) v (pos 0) (λ e. n (omega (arith, placed k t, placed m there)))))
        (λ f. cond-false _ _ _ f ∙ sym (cond-false _ _ _ f))
        (cases_Bool (inverter k))

    other : (k : ℕ) → (k ≢ m) → behind k ≡ replaced before m v k
    other k n = stays k n ∙ sym (replaced_there before m v k n)

pub kept_replaced : (p : Plant) → PlantIsBounded p → (kept : List ℤ) (m : ℕ) (v : ℤ) → p.inverter m ≡ true → m - 1 < length kept →
    with_kept p (slice_set kept (m - 1) v) ≡ with_setting (with_kept p kept) m v
kept_replaced p bounds kept m v there l =
    ap (λ s. record { plant = p; state = record { setting = s } }) (setting_replaced p.inverter kept m v there (λ k e. (inverter_bus p bounds k e).0) l)
