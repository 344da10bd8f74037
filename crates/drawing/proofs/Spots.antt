-- The spots of a feeder at which the buses of a draft sit: each bus has one, no two share one, and the seats tell which lies above which.
use Rattle.std.proofs.Common.{◌≡◌, ℕ, ◌<◌, ◌≤◌, ◌⊎◌, List, sym, refl, ◌∙◌, subst, inl, inr, ⊎_elim, arith}
use Rattle.std.proofs.lemmas.Bool.{cases_lt, cases_eq, cases_order}
use Rattle.feeder.specs.Way.{Way, On, here, above}
use Rattle.feeder.proofs.Ways.{on_pos, on_below, on_trans, on_step, on_chain, on_small, on_antisym, not_above, meet, Meet}
use Rattle.drawing.proofs.Drafts.{Up, Strictly, Tree, Faithful, Draft, Above, Wired}
use Rattle.drawing.proofs.Shape.{choice, Embeds}

module _ {p : ℕ → ℕ} {way : ℕ → List ℕ} (ways : (b : ℕ) → Way p b (way b)) where
  pub up_antisym : {c d : ℕ} → Up p c d → Up p d c → c ≡ d
  up_antisym (inl e) (inl g) = e ∙ sym g
  up_antisym (inl e) (inr o) = absurd (omega (arith, on_below o))
  up_antisym (inr o) (inl g) = absurd (omega (arith, on_below o))
  up_antisym (inr o) (inr u) = on_antisym ways o u

  -- of two on one way, one is up from the other
  pub up_chain : {c d b : ℕ} → Up p c b → Up p d b → Up p c d ⊎ Up p d c
  up_chain (inl e) u = inl (inl e)
  up_chain (inr o) (inl e) = inr (inl e)
  up_chain (inr o) (inr u) = ⊎_elim (λ v. inl (inr v)) (λ v. inr (inr v)) (on_chain o u)

  pub up_on : {c d : ℕ} → 0 < c → Up p c d → On p c d
  up_on h (inl e) = absurd (omega arith)
  up_on h (inr o) = o

  pub meet_left : {n m q : ℕ} → Meet ways n m q → Up p q n
  meet_left k = ⊎_elim inl (λ t. inr t.0) k.both

  pub meet_right : {n m q : ℕ} → Meet ways n m q → Up p q m
  meet_right k = ⊎_elim inl (λ t. inr t.1) k.both

  -- two ways have one meet
  pub meet_unique : {n m q s : ℕ} → Meet ways n m q → Meet ways n m s → q ≡ s
  meet_unique {n} {m} {q} {s} k j = up_antisym (⊎_elim inl (λ t. inr (j.lowest q t.0 t.1)) k.both) (⊎_elim inl (λ t. inr (k.lowest s t.0 t.1)) j.both)

  -- a bus on both ways below which no other is on both is the meet
  pub meet_is : {n m c : ℕ} → On p c n → On p c m → ((d : ℕ) → On p d n → On p d m → On p d c) → Meet ways n m c
  meet_is {n} {m} {c} o u low = subst (Meet ways n m) (on_antisym ways (⊎_elim (λ e. absurd (omega (arith, on_below (k.lowest c o u)))) (λ t. low (meet ways n m).0 t.0 t.1) k.both) (k.lowest c o u)) k
    where
      k : Meet ways n m (meet ways n m).0
      k = (meet ways n m).1

  pub meet_on : {n m : ℕ} → On p n m → Meet ways n m n
  meet_on o = meet_is (here (on_pos o)) o (λ d u v. u)

  pub strictly_on : {c d : ℕ} → 0 < c → Strictly p c d → On p c (p d)
  strictly_on h (u, z) = ⊎_elim (λ e. absurd (z e)) (λ o. o) (on_step (up_on h u))

  pub on_strictly : {c d : ℕ} → 0 < d → On p c (p d) → Strictly p c d
  on_strictly {c} {d} h o = (inr (above h o), λ e. not_above ways d h (subst (λ t. On p t (p d)) e o))

module _ {p : ℕ → ℕ} {way : ℕ → List ℕ} {B N : ℕ} {Inv : ℕ → Type 0} {tree : Tree p way B N Inv} {Q : Type 0} {Reads : Q → ℕ → Type 0} {Nearer Within : Q → Q → Type 0} {start : Q} {entry : ℕ → ℕ → Q}
    (R : Faithful tree Reads Nearer Within start entry) {seat : ℕ → ℕ} {far : ℕ → Q} {last : ℕ} (D : Draft Nearer Within start N Inv entry seat far last) where
  abbrev ways : (b : ℕ) → Way p b (way b)
  ways = tree.ways

  pub inverter_in : (m : ℕ) → Inv m → m ≤ B
  inverter_in m i = omega (arith, tree.inverters m i, tree.metered)

  -- the entry of two inverters
  pub crossing : {k m q : ℕ} → Inv k → Inv m → Meet ways k m q → Reads (entry k m) q
  crossing {k} {m} {q} i j = R.entries k m q (tree.inverters k i).0 (tree.inverters k i).1 j

  -- on one way readings that are not told apart are of one bus
  pub same_bus : (b : ℕ) {c d : ℕ} {x y : Q} → b ≤ B → Up p c b → Up p d b → Reads x c → Reads y d → Within x y → Within y x → c ≡ d
  same_bus b l o u s t v w = up_antisym ways (R.within_up b l o u s t v) (R.within_up b l u o t s w)

  pub one_bus : (b : ℕ) {c d : ℕ} {x : Q} → b ≤ B → Up p c b → Up p d b → Reads x c → Reads x d → c ≡ d
  one_bus b l o u s t = ⊎_elim (λ v. up_antisym ways v (R.within_up b l u o t s (R.up_within b l o u s t v))) (λ v. up_antisym ways (R.within_up b l o u s t (R.up_within b l u o t s v)) v) (up_chain ways o u)

  -- the largest entry of a metered bus's row reads the bus itself, on whose way the inverter is
  pub metered_on : (n : ℕ) → 0 < n → n ≤ N → On p n (seat n)
  metered_on n a l = subst (λ t. On p t (seat n)) (up_antisym ways (meet_left ways k) (inr n_q)) (up_on ways (on_below n_q) (meet_right ways k))
    where
      i : (i : ℕ) × Inv i × On p n i
      i = tree.below n a (omega (arith, tree.metered))

      q : ℕ
      q = (meet ways n (seat n)).0

      k : Meet ways n (seat n) q
      k = (meet ways n (seat n)).1

      n_q : On p n q
      n_q = up_on ways a (R.within_up n (omega (arith, tree.metered)) (inr (here a)) (meet_left ways k) (R.entries n i.0 n a l i.1 (meet_on ways i.2)) (R.entries n (seat n) q a l (D.inverter n a l) k) (rw (D.reached n a l) (D.most n i.0 a l i.1)))

  pub metered_reads : (n : ℕ) → 0 < n → n ≤ N → Reads (far n) n
  metered_reads n a l = subst (λ t. Reads t n) (D.reached n a l) (R.entries n (seat n) n a l (D.inverter n a l) (meet_on ways (metered_on n a l)))

  pub seat_inverter : (x : ℕ) → 0 < x → x ≤ last → Inv (seat x)
  seat_inverter x a l = ⊎_elim (λ u. (D.branches x u l).inverter) (λ u. D.inverter x a u) (cases_lt N x)

  -- bus x of the draft sits at the bus c of the feeder
  pub record Spot (x c : ℕ) : Type 0 where
    pub on : On p c (seat x)
    pub reads : Reads (far x) c
    pub itself : x ≤ N → c ≡ x

  pub spot : (x : ℕ) → 0 < x → x ≤ last → (c : ℕ) × Spot x c
  spot x a l = ⊎_elim unmetered metered (cases_lt N x)
    where
      metered : x ≤ N → (c : ℕ) × Spot x c
      metered u = (x, record { on = metered_on x a u; reads = metered_reads x a u; itself = λ _. refl })

      unmetered : N < x → (c : ℕ) × Spot x c
      unmetered u = (q, record { on = up_on ways pos (meet_right ways k); reads = reads; itself = λ h. absurd (omega arith) })
        where
          m : (k : ℕ) × Inv k × (entry k (seat x) ≡ far x)
          m = (D.branches x u l).other

          q : ℕ
          q = (meet ways m.0 (seat x)).0

          k : Meet ways m.0 (seat x) q
          k = (meet ways m.0 (seat x)).1

          j : Inv (seat x)
          j = (D.branches x u l).inverter

          reads : Reads (far x) q
          reads = subst (λ t. Reads t q) m.2 (crossing m.1 j k)

          pos : 0 < q
          pos = let z = (R.nearer_up (seat x) (inverter_in (seat x) j) (inl refl) (meet_right ways k) R.starts reads (D.branches x u l).positive).1 in ⊎_elim (λ e. absurd (z (sym e))) (λ e. omega arith) (cases_eq q 0)

  chosen : (f : ℕ → ℕ) × (f 0 ≡ 0) × ((x : ℕ) → 0 < x → x ≤ last → Spot x (f x))
  chosen = choice Spot 0 last spot

  -- the bus of the feeder at which x sits
  pub φ : ℕ → ℕ
  φ = chosen.0

  pub φ_root : φ 0 ≡ 0
  unfolding φ
  φ_root = chosen.1

  pub φ_spot : (x : ℕ) → 0 < x → x ≤ last → Spot x (φ x)
  unfolding φ
  φ_spot = chosen.2

  pub φ_pos : (x : ℕ) → 0 < x → x ≤ last → 0 < φ x
  φ_pos x a l = on_pos (φ_spot x a l).on

  pub φ_in : (x : ℕ) → 0 < x → x ≤ last → φ x ≤ B
  φ_in x a l = on_small B (λ b h k. tree.parents b h) (φ_spot x a l).on (inverter_in (seat x) (seat_inverter x a l))

  pub fixed : (n : ℕ) → 0 < n → n ≤ N → φ n ≡ n
  fixed n a l = (φ_spot n a (omega (arith, D.metered))).itself l

  -- the seat of an unmetered bus is the lowest inverter below its spot
  pub seat_lowest : (x k : ℕ) → N < x → x ≤ last → Inv k → On p (φ x) k → seat x ≤ k
  seat_lowest x k u l i o = ⊎_elim (λ low. absurd (clash low)) (λ h. h) (cases_lt k (seat x))
    where
      S : Spot x (φ x)
      S = φ_spot x (omega arith) l

      j : Inv (seat x)
      j = (D.branches x u l).inverter

      m : Meet ways k (seat x) (meet ways k (seat x)).0
      m = (meet ways k (seat x)).1

      clash : k < seat x → ⊥
      clash low = let s = R.nearer_up (seat x) (inverter_in (seat x) j) (meet_right ways m) (inr S.on) (crossing i j m) S.reads ((D.branches x u l).floor k i low) in s.1 (up_antisym ways s.0 (inr (m.lowest (φ x) o S.on)))

  -- no metered bus sits where an unmetered one does
  unmetered_free : (n x : ℕ) → 0 < n → n ≤ N → N < x → x ≤ last → φ x ≡ n → ⊥
  unmetered_free n x a h u l e = (D.branches x u l).free n a h (same e_n S_reads) (same (metered_reads n a h) S_reads)
    where
      j : Inv (seat x)
      j = (D.branches x u l).inverter

      on : On p n (seat x)
      on = subst (λ t. On p t (seat x)) e (φ_spot x (omega arith) l).on

      S_reads : Reads (far x) n
      S_reads = subst (Reads (far x)) e (φ_spot x (omega arith) l).reads

      e_n : Reads (entry n (seat x)) n
      e_n = R.entries n (seat x) n a h j (meet_on ways on)

      le : {v w : Q} → Reads v n → Reads w n → Within v w
      le s t = R.up_within n (omega (arith, tree.metered)) (inr (here a)) (inr (here a)) s t (inr (here a))

      same : {v w : Q} → Reads v n → Reads w n → Within v w × Within w v
      same s t = (le s t, le t s)

  -- no two unmetered buses sit at one spot
  unmetered_clash : (x y : ℕ) → N < x → x < y → y ≤ last → φ x ≡ φ y → ⊥
  unmetered_clash x y u h l e = go (D.order x y u h l)
    where
      Sx : Spot x (φ x)
      Sx = φ_spot x (omega arith) (omega arith)

      Sy : Spot y (φ y)
      Sy = φ_spot y (omega arith) l

      j : Inv (seat x)
      j = (D.branches x u (omega arith)).inverter

      go : (seat x < seat y) ⊎ ((seat x ≡ seat y) × Nearer (far x) (far y)) → ⊥
      go (inl low) = omega (arith, seat_lowest y (seat x) (omega arith) l j (subst (λ t. On p t (seat x)) e Sx.on))
      go (inr (q, near)) = (R.nearer_up (seat x) (inverter_in (seat x) j) (inr Sx.on) (inr (subst (λ t. On p (φ y) t) (sym q) Sy.on)) Sx.reads Sy.reads near).1 e

  -- two buses that sit at one spot are one
  pub apart : (x y : ℕ) → 0 < x → x ≤ last → 0 < y → y ≤ last → φ x ≡ φ y → x ≡ y
  apart x y a b c d e = go (cases_lt N x) (cases_lt N y)
    where
      go : (N < x) ⊎ (x ≤ N) → (N < y) ⊎ (y ≤ N) → x ≡ y
      go (inr u) (inr v) = sym (fixed x a u) ∙ e ∙ fixed y c v
      go (inl u) (inr v) = absurd (unmetered_free y x c v u b (e ∙ fixed y c v))
      go (inr u) (inl v) = absurd (unmetered_free x y a u v d (sym e ∙ fixed x a u))
      go (inl u) (inl v) = ⊎_elim (λ z. z) (⊎_elim (λ h. absurd (unmetered_clash x y u h d e)) (λ h. absurd (unmetered_clash y x v h b (sym e)))) (cases_order x y)

  -- the seats tell the order of the spots
  pub above_up : (x y : ℕ) → 0 < x → x ≤ last → Above Nearer Within start N Inv entry seat far last y x → On p (φ y) (p (φ x))
  above_up x y a l (c, d, near, within) = strictly_on ways (φ_pos y c d) (R.nearer_up (seat x) (inverter_in (seat x) i) on_x (inr Sx.on) Sy.reads Sx.reads near)
    where
      Sx : Spot x (φ x)
      Sx = φ_spot x a l

      Sy : Spot y (φ y)
      Sy = φ_spot y c d

      i : Inv (seat x)
      i = seat_inverter x a l

      j : Inv (seat y)
      j = seat_inverter y c d

      m : Meet ways (seat y) (seat x) (meet ways (seat y) (seat x)).0
      m = (meet ways (seat y) (seat x)).1

      on_m : On p (φ y) (meet ways (seat y) (seat x)).0
      on_m = up_on ways (φ_pos y c d) (R.within_up (seat y) (inverter_in (seat y) j) (inr Sy.on) (meet_left ways m) Sy.reads (crossing j i m) within)

      on_x : Up p (φ y) (seat x)
      on_x = inr (on_trans on_m (up_on ways (on_below on_m) (meet_right ways m)))

  pub up_above : (x y : ℕ) → 0 < x → x ≤ last → 0 < y → y ≤ last → On p (φ y) (p (φ x)) → Above Nearer Within start N Inv entry seat far last y x
  up_above x y a l c d o = (c, d, R.up_nearer (seat x) (inverter_in (seat x) i) (inr on_x) (inr Sx.on) Sy.reads Sx.reads (on_strictly ways pos o), R.up_within (seat y) (inverter_in (seat y) j) (inr Sy.on) (meet_left ways m) Sy.reads (crossing j i m) (inr (m.lowest (φ y) Sy.on on_x)))
    where
      Sx : Spot x (φ x)
      Sx = φ_spot x a l

      Sy : Spot y (φ y)
      Sy = φ_spot y c d

      i : Inv (seat x)
      i = seat_inverter x a l

      j : Inv (seat y)
      j = seat_inverter y c d

      pos : 0 < φ x
      pos = φ_pos x a l

      on_x : On p (φ y) (seat x)
      on_x = on_trans (above pos o) Sx.on

      m : Meet ways (seat y) (seat x) (meet ways (seat y) (seat x)).0
      m = (meet ways (seat y) (seat x)).1

  -- so the parents that are taken from the seats embed the drawing in the feeder
  pub embeds : {parent : ℕ → ℕ} → Wired Nearer Within start N Inv entry seat far last parent → Embeds p parent last φ
  embeds {parent} W = record { root = φ_root; inside = φ_pos; apart = apart; parents = λ x a l. ⊎_elim (λ e. omega arith) (λ k. k.1) (W.parents x a l); step = λ x a l h. ⊎_elim (λ e. absurd (omega arith)) (above_up x (parent x) a l) (W.parents x a l); next = next }
    where
      next : (x y : ℕ) → 0 < x → x ≤ last → 0 < y → y ≤ last → On p (φ y) (p (φ x)) → On p (φ y) (φ (parent x))
      next x y a l c d o = ⊎_elim (λ e. absurd (omega (arith, near.0))) found (W.parents x a l)
        where
          near : (0 < parent x) × Within (far y) (far (parent x))
          near = W.nearest x y a l (up_above x y a l c d o)

          found : Above Nearer Within start N Inv entry seat far last (parent x) x → On p (φ y) (φ (parent x))
          found k = up_on ways (φ_pos y c d) (R.within_up (p (φ x)) (tree.parents (φ x) (φ_pos x a l)) (inr o) (inr (above_up x (parent x) a l k)) (φ_spot y c d).reads (φ_spot (parent x) k.0 k.1).reads near.1)
