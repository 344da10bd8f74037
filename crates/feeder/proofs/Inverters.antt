-- Inverters below: where every end has an inverter, every bus has one at or below it.
use Rattle.std.proofs.Common.{◌≡◌, ℕ, zero, suc, ◌<◌, ◌≤◌, ◌⊎◌, List, length, sym, ap, subst, inl, inr, ⊎_elim, arith}
use Rattle.std.proofs.lemmas.Bool.{cases_lt, cases_eq}
use Rattle.feeder.specs.Way.{Way, On, here, above}
use Rattle.feeder.proofs.Ways.{on_below, dec_on, way_up}

-- c is one of the numbers below n that pass, and none of these has a greater f
pub record Greatest (P : ℕ → Type 0) (f : ℕ → ℕ) (n c : ℕ) : Type 0 where
  pub below : c < n
  pub passes : P c
  pub most : (x : ℕ) → x < n → P x → f x ≤ f c

-- what holds below n and at n holds below n + 1
pub upto : (Q : ℕ → Type 0) (n : ℕ) → ((x : ℕ) → x < n → Q x) → Q n → (x : ℕ) → x < suc n → Q x
upto Q n below at x l = ⊎_elim (λ e. subst Q (sym e) at) (λ z. below x (omega arith)) (cases_eq x n)

pub greatest : (P : ℕ → Type 0) → ((x : ℕ) → P x ⊎ (P x → ⊥)) → (f : ℕ → ℕ) (n : ℕ) → ((c : ℕ) × Greatest P f n c) ⊎ ((x : ℕ) → x < n → P x → ⊥)
greatest P dec f zero = inr (λ x l h. omega arith)
greatest P dec f (suc n) = go (greatest P dec f n) (dec n)
  where
    go : ((c : ℕ) × Greatest P f n c) ⊎ ((x : ℕ) → x < n → P x → ⊥) → P n ⊎ (P n → ⊥) → ((c : ℕ) × Greatest P f (suc n) c) ⊎ ((x : ℕ) → x < suc n → P x → ⊥)
    go (inl (c, g)) (inl h) = ⊎_elim (λ l. inl (n, record { below = omega arith; passes = h; most = upto (λ x. P x → f x ≤ f n) n (λ x k w. omega (arith, g.most x k w)) (λ w. omega arith) })) (λ l. inl (c, record { below = omega (arith, g.below); passes = g.passes; most = upto (λ x. P x → f x ≤ f c) n g.most (λ w. l) })) (cases_lt (f c) (f n))
    go (inl (c, g)) (inr z) = inl (c, record { below = omega (arith, g.below); passes = g.passes; most = upto (λ x. P x → f x ≤ f c) n g.most (λ w. absurd (z w)) })
    go (inr none) (inl h) = inl (n, record { below = omega arith; passes = h; most = upto (λ x. P x → f x ≤ f n) n (λ x k w. absurd (none x k w)) (λ w. omega arith) })
    go (inr none) (inr z) = inr (upto (λ x. P x → ⊥) n none z)

-- of the buses that have b on their ways, one with the longest way is nobody's parent
module _ {p : ℕ → ℕ} {way : ℕ → List ℕ} (is_way : (b : ℕ) → Way p b (way b)) (B : ℕ) (Inverter : ℕ → Type 0)
    (ends : (b : ℕ) → 0 < b → b ≤ B → ((c : ℕ) → 0 < c → c ≤ B → p c ≡ b → ⊥) → Inverter b) where
  pub inverter_below : (b : ℕ) → 0 < b → b ≤ B → (i : ℕ) × (i ≤ B) × Inverter i × On p b i
  inverter_below b h l = ⊎_elim found (λ none. absurd (none b (omega arith) (here h))) (greatest (On p b) (dec_on is_way b) (λ c. length (way c)) (suc B))
    where
      found : (c : ℕ) × Greatest (On p b) (λ c. length (way c)) (suc B) c → (i : ℕ) × (i ≤ B) × Inverter i × On p b i
      found (c, g) = (c, omega (arith, g.below), ends c (on_below g.passes) (omega (arith, g.below)) childless, g.passes)
        where
          childless : (a : ℕ) → 0 < a → a ≤ B → p a ≡ c → ⊥
          childless a k m e = omega (arith, g.most a (omega arith) (above k (rw e g.passes)), ap length (way_up is_way a k), ap (λ t. length (way t)) e)
