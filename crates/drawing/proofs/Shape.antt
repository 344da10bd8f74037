-- One tree inside another: the buses of a map taken to buses of a feeder so that the order along ways is kept. No quantity is named here.
use Rattle.std.proofs.Common.{◌≡◌, ℕ, ◌<◌, ◌≤◌, ◌⊎◌, List, sym, refl, ap, ◌∙◌, subst, inl, inr, ⊎_elim, arith}
use Rattle.std.proofs.lemmas.Bool.{cases_lt, cases_eq}
use Rattle.feeder.specs.Way.{Way, On, here, above}
use Rattle.feeder.proofs.Ways.{on_pos, on_below, on_trans, on_step, on_antisym, climbing, Meet}

module _ (P : ℕ → ℕ → Type 0) (low high : ℕ) (each : (x : ℕ) → low < x → x ≤ high → (c : ℕ) × P x c) where
  pick : (x : ℕ) → (low < x) ⊎ (x ≤ low) → (high < x) ⊎ (x ≤ high) → ℕ
  pick x (inl a) (inr b) = (each x a b).0
  pick x (inl a) (inl b) = 0
  pick x (inr a) s = 0

  picked : (x : ℕ) → low < x → x ≤ high → (s : (low < x) ⊎ (x ≤ low)) (t : (high < x) ⊎ (x ≤ high)) → P x (pick x s t)
  unfolding pick
  picked x a b (inl c) (inr d) = (each x c d).1
  picked x a b (inl c) (inl d) = absurd (omega arith)
  picked x a b (inr c) t = absurd (omega arith)

  pick_none : (s : (low < 0) ⊎ (0 ≤ low)) (t : (high < 0) ⊎ (0 ≤ high)) → pick 0 s t ≡ 0
  unfolding pick
  pick_none (inl a) t = absurd (omega arith)
  pick_none (inr a) t = refl

  -- what is given for the numbers from low + 1 to high is a function, which takes the others to 0
  pub choice : (f : ℕ → ℕ) × (f 0 ≡ 0) × ((x : ℕ) → low < x → x ≤ high → P x (f x))
  choice = (λ x. pick x (cases_lt low x) (cases_lt high x), pick_none (cases_lt low 0) (cases_lt high 0), λ x a b. picked x a b (cases_lt low x) (cases_lt high x))

-- φ takes the buses 1 to B of the map G to buses of F, no two to one, and the parent of a bus to the next one above it that is taken
pub record Embeds (p_f p_g : ℕ → ℕ) (B : ℕ) (φ : ℕ → ℕ) : Type 0 where
  pub root : φ 0 ≡ 0
  pub inside : (x : ℕ) → 0 < x → x ≤ B → 0 < φ x
  pub apart : (x y : ℕ) → 0 < x → x ≤ B → 0 < y → y ≤ B → φ x ≡ φ y → x ≡ y
  pub parents : (x : ℕ) → 0 < x → x ≤ B → p_g x ≤ B
  pub step : (x : ℕ) → 0 < x → x ≤ B → 0 < p_g x → On p_f (φ (p_g x)) (p_f (φ x))
  pub next : (x y : ℕ) → 0 < x → x ≤ B → 0 < y → y ≤ B → On p_f (φ y) (p_f (φ x)) → On p_f (φ y) (φ (p_g x))

module _ {p_f p_g : ℕ → ℕ} {way_f way_g : ℕ → List ℕ} (is_f : (b : ℕ) → Way p_f b (way_f b)) (is_g : (b : ℕ) → Way p_g b (way_g b)) {B : ℕ} {φ : ℕ → ℕ} (E : Embeds p_f p_g B φ) where
  -- what lies on a way in G lies on it in F
  pub rise : {y x : ℕ} → On p_g y x → x ≤ B → (y ≤ B) × On p_f (φ y) (φ x)
  rise {y} (here h) l = (l, here (E.inside y h l))
  rise {y} (above {b = x} h o) l =
      let ih = rise o (E.parents x h l) in
      (ih.0, above (E.inside x h l) (on_trans ih.1 (E.step x h l (on_below o))))

  -- and back
  pub fall : (y : ℕ) → 0 < y → y ≤ B → (x : ℕ) → x ≤ B → On p_f (φ y) (φ x) → On p_g y x
  fall y k m = climbing is_g (λ x. x ≤ B → On p_f (φ y) (φ x) → On p_g y x) base up'
    where
      base : 0 ≤ B → On p_f (φ y) (φ 0) → On p_g y 0
      base l o = absurd (omega (arith, on_below o, E.root))

      up' : (x : ℕ) → 0 < x → (p_g x ≤ B → On p_f (φ y) (φ (p_g x)) → On p_g y (p_g x)) → x ≤ B → On p_f (φ y) (φ x) → On p_g y x
      up' x h ih l o = ⊎_elim (λ e. subst (λ t. On p_g y t) (E.apart y x k m h l e) (here k)) (λ u. above h (ih (E.parents x h l) (E.next x y h l k m u))) (on_step o)

  -- where each bus of F is taken, parents are kept
  pub parent_kept : (BF : ℕ) → ((b : ℕ) → 0 < b → p_f b ≤ BF) → ((c : ℕ) → 0 < c → c ≤ BF → (x : ℕ) × (0 < x) × (x ≤ B) × (φ x ≡ c)) → (x : ℕ) → 0 < x → x ≤ B → φ (p_g x) ≡ p_f (φ x)
  parent_kept BF small all x h l = ⊎_elim (λ e. one e (cases_eq (p_g x) 0)) two (cases_eq (p_f (φ x)) 0)
    where
      one : p_f (φ x) ≡ 0 → (p_g x ≡ 0) ⊎ (p_g x ≡ 0 → ⊥) → φ (p_g x) ≡ p_f (φ x)
      one e (inl q) = ap φ q ∙ E.root ∙ sym e
      one e (inr q) = absurd (omega (arith, on_below (E.step x h l (omega arith))))

      two : (p_f (φ x) ≡ 0 → ⊥) → φ (p_g x) ≡ p_f (φ x)
      two z = on_antisym is_f (E.step x h l pos) above'
        where
          c : (y : ℕ) × (0 < y) × (y ≤ B) × (φ y ≡ p_f (φ x))
          c = all (p_f (φ x)) (omega arith) (small (φ x) (E.inside x h l))

          above' : On p_f (p_f (φ x)) (φ (p_g x))
          above' = rw c.3 at (E.next x c.0 h l c.1 c.2 (rw c.3 (here (omega arith))))

          pos : 0 < p_g x
          pos = ⊎_elim (λ e. absurd (omega (arith, on_below above', ap φ e, E.root))) (λ q. omega arith) (cases_eq (p_g x) 0)

  -- a meet that is taken is the meet in G
  pub meet_kept : (x y z s : ℕ) → x ≤ B → y ≤ B → z ≤ B → Meet is_f (φ x) (φ y) (φ z) → Meet is_g x y s → s ≡ z
  meet_kept x y z s l m n k j = go (cases_eq z 0) j.both
    where
      up_z : On p_g s x × On p_g s y → On p_f (φ s) (φ z)
      up_z t = k.lowest (φ s) (rise t.0 l).1 (rise t.1 m).1

      down : 0 < z → On p_f (φ z) (φ x) × On p_f (φ z) (φ y) → On p_g z s
      down h t = j.lowest z (fall z h n x l t.0) (fall z h n y m t.1)

      both : 0 < z → On p_f (φ z) (φ x) × On p_f (φ z) (φ y)
      both h = ⊎_elim (λ e. absurd (omega (arith, E.inside z h n))) (λ t. t) k.both

      go : (z ≡ 0) ⊎ (z ≡ 0 → ⊥) → (s ≡ 0) ⊎ (On p_g s x × On p_g s y) → s ≡ z
      go (inl e) (inl d) = d ∙ sym e
      go (inl e) (inr t) = absurd (omega (arith, on_below (up_z t), ap φ e, E.root))
      go (inr e) (inl d) = absurd (omega (arith, on_below (down (omega arith) (both (omega arith)))))
      go (inr e) (inr t) = on_antisym is_g (fall s (on_pos t.0) (rise t.0 l).0 z n (up_z t)) (down (omega arith) (both (omega arith)))
