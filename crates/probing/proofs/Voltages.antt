-- What one setting moves, and how far a voltage can be from 0.
use Rattle.std.proofs.Common.{◌≡◌, ℕ, zero, suc, ◌+◌, ◌*◌, ◌<◌, ◌≤◌, true, cond, ℤ, pos, negsuc, ◌+ℤ◌, ◌*ℤ◌, nat_abs, sym, refl, ap, ◌∙◌, subst, inl, inr, add-one, arith, w64, SFits}
use mathlib.Core.Path.{fun_ext}
use lib.IntN.{*ℤ-zero}
use Rattle.std.proofs.lemmas.Int.{ints, unsigned_abs-mul}
use Rattle.std.proofs.lemmas.Nat.{mul-le}
use Rattle.std.proofs.lemmas.Bool.{cases_eq, cases_Bool, cond-true, cond-false, leb-true, eq-eqb, ne_eqb, eqb-true, and_parts}
use Rattle.probing.specs.Facts.{Facts, IsBounded, voltage, sum_to, share, replaced, with_settings, with_setting}
use Rattle.probing.specs.Answers.{on_schedule}

pub unsigned_abs_zero : (z : ℤ) → nat_abs z ≡ 0 → z ≡ pos 0
unsigned_abs_zero z h = omega (arith, ints)

pub scheduled : (f : Facts) (m : ℕ) → on_schedule f m ≡ true → f.state.setting m ≡ pos 0
scheduled f m h = unsigned_abs_zero (f.state.setting m) (eqb-true _ _ h)

pub replaced_here : (settings : ℕ → ℤ) (m : ℕ) (to : ℤ) → replaced settings m to m ≡ to
replaced_here settings m to = cond-true _ _ _ (eq-eqb m m refl)

pub replaced_there : (settings : ℕ → ℤ) (m : ℕ) (to : ℤ) (k : ℕ) → (k ≡ m → ⊥) → replaced settings m to k ≡ settings k
replaced_there settings m to k other = cond-false _ _ _ (ne_eqb k m other)

-- back to what it was
pub replaced_back : (settings : ℕ → ℤ) (m : ℕ) (to : ℤ) → settings m ≡ pos 0 → replaced (replaced settings m to) m (pos 0) ≡ settings
replaced_back settings m to zeroed =
    fun_ext (λ k. elim (cases_eq k m) [
      | inl same ↦ ap (replaced (replaced settings m to) m (pos 0)) same ∙ replaced_here (replaced settings m to) m (pos 0) ∙ sym zeroed ∙ ap settings (sym same)
      | inr other ↦ replaced_there (replaced settings m to) m (pos 0) k other ∙ replaced_there settings m to k other
    ])

pub setting_back : (f : Facts) (m : ℕ) (to : ℤ) → f.state.setting m ≡ pos 0 → with_setting (with_setting f m to) m (pos 0) ≡ f
setting_back f m to zeroed = ap (with_settings f) (replaced_back f.state.setting m to zeroed)

-- what an inverter adds

share_other : (f : Facts) (m : ℕ) (to : ℤ) (n k : ℕ) → (k ≡ m → ⊥) → share (with_setting f m to) n k ≡ share f n k
share_other f m to n k other = ap (λ s. cond (f.plant.inverter k) (f.plant.response n k *ℤ s) (pos 0)) (replaced_there f.state.setting m to k other)

share_zero : (f : Facts) (n m : ℕ) → f.state.setting m ≡ pos 0 → share f n m ≡ pos 0
share_zero f n m zeroed =
    elim (cases_Bool (f.plant.inverter m)) [
      | inl there ↦ cond-true _ _ _ there ∙ ap (λ s. f.plant.response n m *ℤ s) zeroed ∙ *ℤ-zero (f.plant.response n m)
      | inr none ↦ cond-false _ _ _ none
    ]

share_moved : (f : Facts) (m : ℕ) (to : ℤ) (n : ℕ) → f.plant.inverter m ≡ true → share (with_setting f m to) n m ≡ f.plant.response n m *ℤ to
share_moved f m to n there = cond-true _ _ _ there ∙ ap (λ s. f.plant.response n m *ℤ s) (replaced_here f.state.setting m to)

pub sum_suc : (k : ℕ) (g : ℕ → ℤ) → sum_to (suc k) g ≡ sum_to k g +ℤ g (suc k)
unfolding sum_to
sum_suc k g = refl

-- the same at k + 1
pub sum_more : (k : ℕ) (g : ℕ → ℤ) → sum_to (k + 1) g ≡ sum_to k g +ℤ g (k + 1)
sum_more k g = rw (add-one k) (sum_suc k g)

pub sum_none : (g : ℕ → ℤ) → sum_to 0 g ≡ pos 0
unfolding sum_to
sum_none g = refl

sum_before : (f : Facts) (m : ℕ) (to : ℤ) (n k : ℕ) → k < m → sum_to k (share (with_setting f m to) n) ≡ sum_to k (share f n)
sum_before f m to n zero lt = sum_none _ ∙ sym (sum_none _)
sum_before f m to n (suc k) lt =
    sum_suc k (share (with_setting f m to) n) ∙
    ap (λ s. s +ℤ share (with_setting f m to) n (suc k)) (sum_before f m to n k (omega arith)) ∙
    ap (λ s. sum_to k (share f n) +ℤ s) (share_other f m to n (suc k) (λ same. omega arith)) ∙
    sym (sum_suc k (share f n))

sum_moved : (f : Facts) (m : ℕ) (to : ℤ) (n k : ℕ) → f.plant.inverter m ≡ true → f.state.setting m ≡ pos 0 → 1 ≤ m → m ≤ k → sum_to k (share (with_setting f m to) n) ≡ sum_to k (share f n) +ℤ f.plant.response n m *ℤ to
sum_moved f m to n zero there zeroed some le = absurd (omega arith)
sum_moved f m to n (suc k) there zeroed some le =
    elim (cases_eq m (suc k)) [
      | inl same ↦
          let before = sum_before f m to n k (omega arith) in
          let here = ap (share (with_setting f m to) n) (sym same) ∙ share_moved f m to n there in
          let was = ap (share f n) (sym same) ∙ share_zero f n m zeroed in
          omega (arith, ints, sum_suc k (share (with_setting f m to) n), sum_suc k (share f n), before, here, was)
      | inr other ↦
          let earlier = sum_moved f m to n k there zeroed some (omega arith) in
          let there' = share_other f m to n (suc k) (λ same. other (sym same)) in
          omega (arith, ints, sum_suc k (share (with_setting f m to) n), sum_suc k (share f n), earlier, there')
    ]

-- a step moves every bus by its response times the step
pub voltage_moved : (f : Facts) → IsBounded f → (m : ℕ) (to : ℤ) (n : ℕ) → f.plant.inverter m ≡ true → f.state.setting m ≡ pos 0 → voltage (with_setting f m to) n ≡ voltage f n +ℤ f.plant.response n m *ℤ to
unfolding voltage
voltage_moved f bounds m to n there zeroed =
    let placed = and_parts _ _ (bounds.plant.placed m there) in
    let moved = sum_moved f m to n f.plant.buses there zeroed (leb-true _ _ placed.0) (leb-true _ _ placed.1) in
    omega (arith, ints, moved)

-- a response times a setting is a number of 64 bits

fits : (z : ℤ) → nat_abs z ≤ 1000000000 → SFits w64 z
fits (pos n) h = record { sfits = omega arith }
fits (negsuc n) h = record { sfits = omega arith }

pub product_fits : (response setting : ℤ) → nat_abs response ≤ 1000000 → nat_abs setting ≤ 1000 → SFits w64 (response *ℤ setting)
product_fits response setting r s =
    fits (response *ℤ setting) (omega (arith, unsigned_abs-mul response setting, mul-le (nat_abs response) (nat_abs setting) 1000000 1000 r s))

-- bounds

pub share_bounded : (f : Facts) → IsBounded f → (n k : ℕ) → nat_abs (share f n k) ≤ 1000000000
share_bounded f bounds n k =
    elim (cases_Bool (f.plant.inverter k)) [
      | inl there ↦ subst (λ z. nat_abs z ≤ 1000000000) (sym (cond-true _ _ _ there)) (omega (arith, unsigned_abs-mul (f.plant.response n k) (f.state.setting k), mul-le (nat_abs (f.plant.response n k)) (nat_abs (f.state.setting k)) 1000000 1000 (bounds.plant.responses n k) (bounds.state.settings k)))
      | inr none ↦ subst (λ z. nat_abs z ≤ 1000000000) (sym (cond-false _ _ _ none)) (omega arith)
    ]

pub sum_bounded : (f : Facts) → IsBounded f → (n k : ℕ) → nat_abs (sum_to k (share f n)) ≤ k * 1000000000
sum_bounded f bounds n zero = omega (arith, ints, sum_none (share f n))
sum_bounded f bounds n (suc k) = omega (arith, ints, sum_suc k (share f n), sum_bounded f bounds n k, share_bounded f bounds n (suc k))

pub voltage_bounded : (f : Facts) → IsBounded f → (n : ℕ) → nat_abs (voltage f n) ≤ 65000000000
unfolding voltage
voltage_bounded f bounds n = omega (arith, ints, sum_bounded f bounds n f.plant.buses, bounds.plant.standings n, bounds.plant.few)
