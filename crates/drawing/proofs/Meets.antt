-- Where ways meet a bus is drawn: the meet of a metered bus and an inverter is the spot of a bus, if the draft is whole.
use Rattle.std.proofs.Common.{◌≡◌, ℕ, suc, ◌-◌, ◌<◌, ◌≤◌, ◌⊎◌, List, sym, refl, ◌∙◌, subst, inl, inr, ⊎_elim, arith}
use Rattle.std.proofs.lemmas.Bool.{cases_lt, cases_eq}
use Rattle.feeder.specs.Way.{Way, On, here}
use Rattle.feeder.proofs.Ways.{on_pos, on_below, on_trans, on_chain, on_antisym, on_child, on_small, dec_on, meet, Meet}
use Rattle.feeder.proofs.Inverters.{Greatest, greatest}
use Rattle.drawing.proofs.Drafts.{Up, Tree, Faithful, Draft, Branch, Whole, Wired, Same}
use Rattle.drawing.proofs.Spots as S
use Rattle.drawing.proofs.Shape.{Embeds, rise, fall}

-- of the numbers that pass there is a lowest
pub least : (P : ℕ → Type 0) → ((x : ℕ) → P x ⊎ (P x → ⊥)) → (w : ℕ) → P w → (c : ℕ) × P c × ((x : ℕ) → P x → c ≤ x)
least P dec w h = ⊎_elim found (λ none. absurd (none w (omega arith) h)) (greatest P dec (λ k. suc w - k) (suc w))
  where
    found : (c : ℕ) × Greatest P (λ k. suc w - k) (suc w) c → (c : ℕ) × P c × ((x : ℕ) → P x → c ≤ x)
    found (c, g) = (c, g.passes, λ x k. ⊎_elim (λ l. omega (arith, g.below, g.most x l k)) (λ l. omega (arith, g.below)) (cases_lt x (suc w)))

pub both : {A B : Type 0} → A ⊎ (A → ⊥) → B ⊎ (B → ⊥) → (A × B) ⊎ (A × B → ⊥)
both (inl a) (inl b) = inl (a, b)
both (inr a) s = inr (λ t. a t.0)
both (inl a) (inr b) = inr (λ t. b t.1)

module _ {p : ℕ → ℕ} {way : ℕ → List ℕ} {B N : ℕ} {Inv : ℕ → Type 0} {tree : Tree p way B N Inv} {Q : Type 0} {Reads : Q → ℕ → Type 0} {Nearer Within : Q → Q → Type 0} {start : Q} {entry : ℕ → ℕ → Q}
    (R : Faithful tree Reads Nearer Within start entry) {seat : ℕ → ℕ} {far : ℕ → Q} {last : ℕ} (D : Draft Nearer Within start N Inv entry seat far last) where
  abbrev ways : (b : ℕ) → Way p b (way b)
  ways = tree.ways

  abbrev φ : ℕ → ℕ
  φ = S.φ R D

  -- the lowest inverter at or below a bus
  pub lowest_below : (b : ℕ) → 0 < b → b ≤ B → (m : ℕ) × Inv m × On p b m × ((k : ℕ) → Inv k → On p b k → m ≤ k)
  lowest_below b a l =
      let i = tree.below b a l in
      let t = least (λ k. Inv k × On p b k) (λ k. both (tree.decided k) (dec_on ways b k)) i.0 (i.1, i.2) in
      (t.0, t.1.0, t.1.1, λ k u o. t.2 k (u, o))

  -- of two inverters that part at q one also parts there from any other that has q on its way
  parts_too : {k m q : ℕ} (j : ℕ) → Inv k → Inv m → 0 < q → Meet ways k m q → On p q j → (i : ℕ) × Inv i × Meet ways i j q
  parts_too {k} {m} {q} j u v pos K o = ⊎_elim first second (S.up_chain ways (S.meet_right ways a) (S.meet_right ways b))
    where
      a : Meet ways k j (meet ways k j).0
      a = (meet ways k j).1

      b : Meet ways m j (meet ways m j).0
      b = (meet ways m j).1

      q_k : On p q k
      q_k = S.up_on ways pos (S.meet_left ways K)

      q_m : On p q m
      q_m = S.up_on ways pos (S.meet_right ways K)

      q_a : On p q (meet ways k j).0
      q_a = a.lowest q q_k o

      q_b : On p q (meet ways m j).0
      q_b = b.lowest q q_m o

      first : Up p (meet ways k j).0 (meet ways m j).0 → (i : ℕ) × Inv i × Meet ways i j q
      first h = (k, u, subst (Meet ways k j) (on_antisym ways (K.lowest (meet ways k j).0 (S.up_on ways (on_below q_a) (S.meet_left ways a)) (on_trans (S.up_on ways (on_below q_a) h) (S.up_on ways (on_below q_b) (S.meet_left ways b)))) q_a) a)

      second : Up p (meet ways m j).0 (meet ways k j).0 → (i : ℕ) × Inv i × Meet ways i j q
      second h = (m, v, subst (Meet ways m j) (on_antisym ways (K.lowest (meet ways m j).0 (on_trans (S.up_on ways (on_below q_b) h) (S.up_on ways (on_below q_a) (S.meet_left ways a))) (S.up_on ways (on_below q_b) (S.meet_left ways b))) q_b) b)

  -- an unmetered meet is a branch of the lowest inverter below it
  branch : {k q : ℕ} (j : ℕ) → Inv k → Inv j → 0 < q → N < q → Meet ways k j q → ((i : ℕ) → Inv i → On p q i → j ≤ i) → Branch Nearer Within start N Inv entry seat far j (entry k j)
  branch {k} {q} j u v pos N-q K low = record { inverter = v; other = (k, u, refl); positive = R.up_nearer j j_in (inl refl) (inr q_j) R.starts reads (inl refl, λ e. omega arith); floor = floor; below = R.up_nearer j j_in (inr q_j) (inr j_j) reads (S.crossing R D v v (S.meet_on ways j_j)) (inr q_j, λ e. omega (arith, tree.inverters j v)); free = free }
    where
      j_in : j ≤ B
      j_in = S.inverter_in R D j v

      j_j : On p j j
      j_j = here (tree.inverters j v).0

      q_j : On p q j
      q_j = S.up_on ways pos (S.meet_right ways K)

      reads : Reads (entry k j) q
      reads = S.crossing R D u v K

      floor : (i : ℕ) → Inv i → i < j → Nearer (entry i j) (entry k j)
      floor i w l = R.up_nearer j j_in (S.meet_right ways I) (inr q_j) (S.crossing R D w v I) reads (⊎_elim (λ h. h) (λ h. absurd (beyond (S.up_on ways pos h))) (S.up_chain ways (S.meet_right ways I) (inr q_j)), λ e. beyond (subst (On p q) (sym e) (here pos)))
        where
          I : Meet ways i j (meet ways i j).0
          I = (meet ways i j).1

          beyond : On p q (meet ways i j).0 → ⊥
          beyond o = omega (arith, low i w (on_trans o (S.up_on ways (on_below o) (S.meet_left ways I))))

      free : (n : ℕ) → 0 < n → n ≤ N → Within (entry n j) (entry k j) × Within (entry k j) (entry n j) → Within (far n) (entry k j) × Within (entry k j) (far n) → ⊥
      free n a h s t = omega (arith, S.same_bus R D n (omega (arith, tree.metered)) (inr (here a)) (inr q_n) (S.metered_reads R D n a h) reads t.0 t.1)
        where
          I : Meet ways n j (meet ways n j).0
          I = (meet ways n j).1

          q_n : On p q n
          q_n = S.up_on ways pos (subst (λ c. Up p c n) (S.same_bus R D j j_in (S.meet_right ways I) (inr q_j) (R.entries n j (meet ways n j).0 a h v I) reads s.0 s.1) (S.meet_left ways I))

  module _ (whole : Whole Nearer Within start N Inv entry seat far last) where
    -- the meet of two inverters is drawn
    pub crossing_drawn : (k m q : ℕ) → Inv k → Inv m → 0 < q → Meet ways k m q → (z : ℕ) × (0 < z) × (z ≤ last) × (φ z ≡ q)
    crossing_drawn k m q u v pos K = ⊎_elim unmetered (λ l. (q, pos, omega (arith, D.metered), S.fixed R D q pos l)) (cases_lt N q)
      where
        q_in : q ≤ B
        q_in = on_small B (λ b h l. tree.parents b h) (S.up_on ways pos (S.meet_right ways K)) (S.inverter_in R D m v)

        unmetered : N < q → (z : ℕ) × (0 < z) × (z ≤ last) × (φ z ≡ q)
        unmetered l = (z.0, z_pos, z.2, S.same_bus R D j (S.inverter_in R D j low.1) (inr on_j) (inr low.2) (S.φ_spot R D z.0 z_pos z.2).reads (S.crossing R D i.1 low.1 i.2) z.4.0 z.4.1)
          where
            low : (m : ℕ) × Inv m × On p q m × ((k : ℕ) → Inv k → On p q k → m ≤ k)
            low = lowest_below q pos q_in

            j : ℕ
            j = low.0

            i : (i : ℕ) × Inv i × Meet ways i j q
            i = parts_too j u v pos K low.2

            z : (x : ℕ) × (N < x) × (x ≤ last) × (seat x ≡ j) × Same Nearer Within start N Inv entry seat far (far x) (entry i.0 j)
            z = whole j (entry i.0 j) (branch j i.1 low.1 pos l i.2 low.3)

            z_pos : 0 < z.0
            z_pos = omega (arith, z.1)

            on_j : On p (φ z.0) j
            on_j = subst (On p (φ z.0)) z.3 (S.φ_spot R D z.0 z_pos z.2).on

    -- the meet of a metered bus and an inverter is drawn, or is the substation
    pub meet_drawn : (n m q : ℕ) → 0 < n → n ≤ N → Inv m → Meet ways n m q → (z : ℕ) × (z ≤ last) × (φ z ≡ q)
    meet_drawn n m q a l v K = go (cases_eq q 0) (cases_eq q n)
      where
        go : (q ≡ 0) ⊎ (q ≡ 0 → ⊥) → (q ≡ n) ⊎ (q ≡ n → ⊥) → (z : ℕ) × (z ≤ last) × (φ z ≡ q)
        go (inl e) s = (0, omega arith, S.φ_root R D ∙ sym e)
        go (inr e) (inl s) = (n, omega (arith, D.metered), S.fixed R D n a l ∙ sym s)
        go (inr e) (inr s) = let t = crossing_drawn (seat n) m q (D.inverter n a l) v (omega arith) there in (t.0, t.2, t.3)
          where
            n_s : On p n (seat n)
            n_s = S.metered_on R D n a l

            q_n : On p q n
            q_n = S.up_on ways (omega arith) (S.meet_left ways K)

            there : Meet ways (seat n) m q
            there = S.meet_is ways (on_trans q_n n_s) (S.up_on ways (omega arith) (S.meet_right ways K)) (λ d o u. ⊎_elim (λ h. K.lowest d h u) (λ h. absurd (s (on_antisym ways q_n (K.lowest n (here a) (on_trans h u))))) (on_chain o n_s))

  -- the drawing by itself: ways, and what has an inverter
  module _ {parent : ℕ → ℕ} {way_g : ℕ → List ℕ} (is_g : (b : ℕ) → Way parent b (way_g b)) (W : Wired Nearer Within start N Inv entry seat far last parent) where
    abbrev E : Embeds p parent last φ
    E = S.embeds R D W

    inverter_last : (m : ℕ) → Inv m → m ≤ last
    inverter_last m i = omega (arith, tree.inverters m i, D.metered)

    still : (m : ℕ) → Inv m → φ m ≡ m
    still m i = S.fixed R D m (tree.inverters m i).0 (tree.inverters m i).1

    -- a drawn bus lies on the way of its seat
    pub on_seat : (x : ℕ) → 0 < x → x ≤ last → On parent x (seat x)
    on_seat x a l = let i = S.seat_inverter R D x a l in fall ways is_g E x a l (seat x) (inverter_last (seat x) i) (subst (On p (φ x)) (sym (still (seat x) i)) (S.φ_spot R D x a l).on)

    -- and the seat of an unmetered one is the lowest inverter below it
    pub on_lowest : (x k : ℕ) → N < x → x ≤ last → Inv k → On parent x k → seat x ≤ k
    on_lowest x k u l i o = S.seat_lowest R D x k u l i (subst (On p (φ x)) (still k i) (rise ways is_g E o (inverter_last k i)).1)

    -- a drawn bus that is nobody's parent has an inverter
    pub end_inverter : (x : ℕ) → 0 < x → x ≤ last → ((c : ℕ) → 0 < c → c ≤ last → parent c ≡ x → ⊥) → Inv x
    end_inverter x a l none = ⊎_elim (λ e. subst Inv (sym e) i) (λ t. absurd (none t.0 (on_pos t.2) (rise ways is_g E t.2 (inverter_last (seat x) i)).0 t.1)) (on_child (on_seat x a l))
      where
        i : Inv (seat x)
        i = S.seat_inverter R D x a l
