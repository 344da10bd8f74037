-- The unmetered buses seated so far, one branch after the other.
use Rattle.std.proofs.Common.{◌≡◌, ℕ, ◌+◌, ◌<◌, ◌≤◌, cond, eqb, leb, ◌⊎◌, List, [], ◌∷◌, ◌++◌, length, get_or, Some, None, Option, MatchOption, sym, refl, ap, ◌∙◌, subst, inl, inr, ⊎_elim, arith}
use Rattle.std.proofs.lemmas.List.{length_push, get_or_push, get_or_append_left}
use Rattle.std.proofs.lemmas.Bool.{cases_eq, cases_order, eq-eqb, ne_eqb, le-leb, lt-leb, cond-true, cond-false}
use Rattle.drawing.specs.declared.seat.Seat.{Seat}
use Rattle.drawing.specs.Seats.{Entries, Inverter, Metering, Branch, Listing, Whole}
use Rattle.drawing.specs.Places.{start, seat_of, far_of, MeteredSeats, BranchAt, BranchAfter, Later, SeatOn, SeatAfter, NoSeatAfter}
use Rattle.drawing.specs.Seating.{last_of, Seated, Overseated}

-- a seat comes behind one that comes behind another
later_trans : (a b : Seat) (m v : ℕ) → Later a b.inverter b.distance → Later b m v → Later a m v
later_trans a b m v (inl l) (inl k) = inl (omega arith)
later_trans a b m v (inl l) (inr (e, k)) = inl (omega arith)
later_trans a b m v (inr (e, l)) (inl k) = inl (omega arith)
later_trans a b m v (inr (e, l)) (inr (f, k)) = inr (e ∙ f, omega arith)

module _ (last : Seat) (m above : ℕ) (passed : above ≡ cond (eqb last.inverter m) last.distance 0) (from : last.inverter ≤ m) where
  passed_here : last.inverter ≡ m → above ≡ last.distance
  passed_here e = passed ∙ cond-true _ _ _ (eq-eqb last.inverter m e)

  passed_not : (last.inverter ≡ m → ⊥) → above ≡ 0
  passed_not n = passed ∙ cond-false _ _ _ (ne_eqb last.inverter m n)

  later_above : (v : ℕ) → 0 < v → Later last m v → above < v
  later_above v p (inl l) = omega (arith, passed_not (λ e. omega arith))
  later_above v p (inr (e, l)) = omega (arith, passed_here e)

  above_later : (v : ℕ) → above < v → Later last m v
  above_later v l = ⊎_elim (λ e. inr (e, omega (arith, passed_here e))) (λ n. inl (omega arith)) (cases_eq last.inverter m)

  module _ (E : Entries) (s : List Seat) where
    -- the first branch of inverter m's way that comes behind the seat
    pub seat_on : (v : ℕ) → BranchAfter E s m above v → SeatOn E s last m (record { inverter = m; distance = v })
    seat_on v B = record { inverter = refl; later = above_later v B.farther; branch = B.branch; first = λ u b l. B.nearest u (later_above u b.positive l) b }

    pub none_on : ((u : ℕ) → above < u → BranchAt E s m u → ⊥) → (u : ℕ) → BranchAt E s m u → Later last m u → ⊥
    none_on none u b l = none u (later_above u b.positive l) b

-- no branch of inverter m's way comes behind the seat
abbrev pub NoneOn : Entries → List Seat → Seat → ℕ → Type 0
NoneOn E s last m = (v : ℕ) → BranchAt E s m v → Later last m v → ⊥

later_from : (last : Seat) (m v : ℕ) → Later last m v → last.inverter ≤ m
later_from last m v (inl l) = omega arith
later_from last m v (inr (e, l)) = omega arith

module _ (E : Entries) (s : List Seat) (last : Seat) where
  -- the branch of the lowest inverter with one behind the seat comes next
  seat_after : (next : Seat) → ((m : ℕ) × (last.inverter ≤ m) × (m ≤ E.metered) × SeatOn E s last m next × ((k : ℕ) → last.inverter ≤ k → k < m → NoneOn E s last k)) → SeatAfter E s last next
  seat_after next (m, lo, hi, S, none) = record { later = subst (λ k. Later last k next.distance) (sym S.inverter) S.later; branch = subst (λ k. BranchAt E s k next.distance) (sym S.inverter) S.branch; first = first }
    where
      same : (v : ℕ) → next.distance ≤ v → Later next m v ⊎ ((next.inverter ≡ m) × (next.distance ≡ v))
      same v l = ⊎_elim (λ e. inr (S.inverter, e)) (λ n. inl (inr (S.inverter, omega arith))) (cases_eq next.distance v)

      first : (k v : ℕ) → BranchAt E s k v → Later last k v → Later next k v ⊎ ((next.inverter ≡ k) × (next.distance ≡ v))
      first k v b l = ⊎_elim (λ e. subst (λ z. Later next z v ⊎ ((next.inverter ≡ z) × (next.distance ≡ v))) (sym e) (same v (S.first v (subst (λ z. BranchAt E s z v) e b) (subst (λ z. Later last z v) e l)))) (λ o. ⊎_elim (λ q. absurd (none k (later_from last k v l) q v b l)) (λ q. inl (inl (omega (arith, S.inverter)))) o) (cases_order k m)

  no_seat_after : ((m : ℕ) → last.inverter ≤ m → m ≤ E.metered → NoneOn E s last m) → NoSeatAfter E s last
  no_seat_after none m v b l = none m (later_from last m v l) b.inverter.0.1 v b l

  pub next_is : (o : Option Seat) → MatchOption o ((m : ℕ) → last.inverter ≤ m → m ≤ E.metered → NoneOn E s last m) (λ next. (m : ℕ) × (last.inverter ≤ m) × (m ≤ E.metered) × SeatOn E s last m next × ((k : ℕ) → last.inverter ≤ k → k < m → NoneOn E s last k)) → MatchOption o (NoSeatAfter E s last) (λ next. SeatAfter E s last next)
  next_is None none = no_seat_after none
  next_is (Some next) h = seat_after next h

-- the branches up to the last seat are the seats of the unmetered buses up to count
pub record Listed (E : Entries) (s : List Seat) (at : ℕ → Seat) (count : ℕ) (last : Seat) : Type 0 where
  pub metered : E.metered ≤ count
  pub some : 0 < last.inverter
  pub same : (x : ℕ) → x ≤ E.metered → at x ≡ get_or s x start
  pub end : (count ≡ E.metered) ⊎ (at count ≡ last)
  pub branches : (x : ℕ) → E.metered < x → x ≤ count → BranchAt E s (at x).inverter (at x).distance
  pub order : (x y : ℕ) → E.metered < x → x < y → y ≤ count → Later (at x) (at y).inverter (at y).distance
  pub whole : (m v : ℕ) → BranchAt E s m v → Later last m v ⊎ ((x : ℕ) × (E.metered < x) × (x ≤ count) × ((at x).inverter ≡ m) × ((at x).distance ≡ v))

-- one more bus, at the next branch
module _ (E : Entries) (s : List Seat) (at at' : ℕ → Seat) (count : ℕ) (last next : Seat) (L : Listed E s at count last) (N : SeatAfter E s last next) (keeps : (x : ℕ) → x ≤ count → at' x ≡ at x) (new : at' (count + 1) ≡ next) where
  listed_branches : (x : ℕ) → E.metered < x → x ≤ count + 1 → BranchAt E s (at' x).inverter (at' x).distance
  listed_branches x p l = ⊎_elim (λ e. subst (λ (z : Seat). BranchAt E s z.inverter z.distance) (sym (ap at' e ∙ new)) N.branch) (λ n. let k : x ≤ count = omega arith in subst (λ (z : Seat). BranchAt E s z.inverter z.distance) (sym (keeps x k)) (L.branches x p k)) (cases_eq x (count + 1))

  -- each earlier bus sits before the next branch
  before : (x : ℕ) → E.metered < x → x ≤ count → Later (at x) next.inverter next.distance
  before x p l = ⊎_elim (λ e. absurd (none e)) (λ e. ⊎_elim (λ q. subst (λ (z : Seat). Later z next.inverter next.distance) (sym (ap at q ∙ e)) N.later) (λ q. later_trans (at x) last next.inverter next.distance (subst (λ (z : Seat). Later (at x) z.inverter z.distance) e (L.order x count p (less q) (same count))) N.later) (cases_eq x count)) L.end
    where
      none : count ≡ E.metered → ⊥
      none e = omega arith

      less : (x ≡ count → ⊥) → x < count
      less q = omega arith

      same : (k : ℕ) → k ≤ k
      same k = omega arith

  listed_order : (x y : ℕ) → E.metered < x → x < y → y ≤ count + 1 → Later (at' x) (at' y).inverter (at' y).distance
  listed_order x y p q l =
      let k : x ≤ count = omega arith in
      subst (λ (z : Seat). Later z (at' y).inverter (at' y).distance) (sym (keeps x k)) (⊎_elim (λ e. subst (λ (z : Seat). Later (at x) z.inverter z.distance) (sym (ap at' e ∙ new)) (before x p k)) (λ n. let j : y ≤ count = omega arith in subst (λ (z : Seat). Later (at x) z.inverter z.distance) (sym (keeps y j)) (L.order x y p q j)) (cases_eq y (count + 1)))

  listed_whole : (m v : ℕ) → BranchAt E s m v → Later next m v ⊎ ((x : ℕ) × (E.metered < x) × (x ≤ count + 1) × ((at' x).inverter ≡ m) × ((at' x).distance ≡ v))
  listed_whole m v b = ⊎_elim (λ l. ⊎_elim inl (λ t. inr (count + 1, less, same, ap (λ (z : Seat). z.inverter) new ∙ t.0, ap (λ (z : Seat). z.distance) new ∙ t.1)) (N.first m v b l)) (λ t. inr (t.0, t.1, omega (arith, t.2), ap (λ (z : Seat). z.inverter) (keeps t.0 t.2) ∙ t.3, ap (λ (z : Seat). z.distance) (keeps t.0 t.2) ∙ t.4)) (L.whole m v b)
    where
      less : E.metered < count + 1
      less = omega (arith, L.metered)

      same : count + 1 ≤ count + 1
      same = omega arith

  pub listed_more : Listed E s at' (count + 1) next
  listed_more = record { metered = omega (arith, L.metered); some = N.branch.inverter.0.0; same = λ x l. keeps x (omega (arith, L.metered)) ∙ L.same x l; end = inr new; branches = listed_branches; order = listed_order; whole = listed_whole }

-- the inverters and the distances of seats
abbrev inverters : (ℕ → Seat) → ℕ → ℕ
inverters at x = (at x).inverter

abbrev distances : (ℕ → Seat) → ℕ → ℕ
distances at x = (at x).distance

-- what all seats have, once the branches are listed
module _ (E : Entries) (s : List Seat) (at : ℕ → Seat) (count : ℕ) (last : Seat) (L : Listed E s at count last) where
  to_branch : (m v : ℕ) → BranchAt E s m v → Branch E (inverters at) (distances at) m v
  to_branch m v b = record { inverter = b.inverter; other = b.other; positive = b.positive; floor = b.floor; below = b.below; free = λ n h e f. b.free n h e (ap (λ (z : Seat). z.distance) (sym (L.same n h.1)) ∙ f) }

  from_branch : (m v : ℕ) → Branch E (inverters at) (distances at) m v → BranchAt E s m v
  from_branch m v b = record { inverter = b.inverter; other = b.other; positive = b.positive; floor = b.floor; below = b.below; free = λ n h e f. b.free n h e (ap (λ (z : Seat). z.distance) (L.same n h.1) ∙ f) }

  pub listed_metering : Metering E (seat_of s) (far_of s) → Metering E (inverters at) (distances at)
  listed_metering M = record { inverter = λ n h. subst (λ (z : Seat). Inverter E z.inverter) (sym (L.same n h.1)) (M.inverter n h); reached = λ n h. subst (λ (z : Seat). E.entry n z.inverter ≡ z.distance) (sym (L.same n h.1)) (M.reached n h); most = λ n m h i. subst (λ (z : Seat). E.entry n m ≤ z.distance) (sym (L.same n h.1)) (M.most n m h i); positive = λ n h. subst (λ (z : Seat). 0 < z.distance) (sym (L.same n h.1)) (M.positive n h) }

  pub listed_listing : Listing E (inverters at) (distances at) count
  listed_listing = record { metered = L.metered; branches = λ x p l. to_branch (at x).inverter (at x).distance (L.branches x p l); order = L.order }

  pub listed_all : NoSeatAfter E s last → Whole E (inverters at) (distances at) count
  listed_all none m v b = ⊎_elim (λ l. absurd (none m v (from_branch m v b) l)) (λ t. t) (L.whole m v (from_branch m v b))

-- the same in places
pub record ListedTo (E : Entries) (s t : List Seat) (last : Seat) : Type 0 where
  pub places : 0 < length t
  pub few : last_of t ≤ E.metered + 63
  pub listed : Listed E s (λ x. get_or t x start) (last_of t) last

-- one seat behind the places
abbrev extended : List Seat → ℕ → Seat → ℕ → Seat
extended t count next x = cond (leb x count) (get_or t x start) next

module _ (E : Entries) (s t : List Seat) (last next : Seat) (L : ListedTo E s t last) (N : SeatAfter E s last next) (few : E.metered ≤ 64) where
  pub listed_more_to : length t ≤ E.metered + 63 → ListedTo E s (t ++ next ∷ []) next
  listed_more_to room =
      let count : last_of t + 1 ≡ last_of (t ++ next ∷ []) = omega (arith, length_push t next, L.places) in
      record { places = omega (arith, length_push t next); few = omega (arith, length_push t next); listed = subst (λ n. Listed E s (λ x. get_or (t ++ next ∷ []) x start) n next) count (listed_more E s (λ x. get_or t x start) (λ x. get_or (t ++ next ∷ []) x start) (last_of t) last next L.listed N (λ x l. get_or_append_left t (next ∷ []) start x (omega (arith, L.places))) (get_or_push t next start (last_of t + 1) (omega (arith, L.places)))) }

  -- the next branch would be one too many
  pub overseated : MeteredSeats E s → E.metered + 63 < length t → Overseated E
  overseated M full = (few, (λ x. (extended t (last_of t) next x).inverter, λ x. (extended t (last_of t) next x).distance, listed_metering E s (extended t (last_of t) next) (last_of t + 1) next more M.metering, subst (Listing E (λ x. (extended t (last_of t) next x).inverter) (λ x. (extended t (last_of t) next x).distance)) full' (listed_listing E s (extended t (last_of t) next) (last_of t + 1) next more)))
    where
      full' : last_of t + 1 ≡ E.metered + 64
      full' = omega (arith, L.few)

      more : Listed E s (extended t (last_of t) next) (last_of t + 1) next
      more = listed_more E s (λ x. get_or t x start) (extended t (last_of t) next) (last_of t) last next L.listed N (λ x l. cond-true _ _ _ (le-leb x (last_of t) l)) (cond-false _ _ _ (lt-leb (last_of t + 1) (last_of t) (omega arith)))

pub listed_seated : (E : Entries) (s t : List Seat) (last : Seat) → MeteredSeats E s → ListedTo E s t last → NoSeatAfter E s last → E.metered ≤ 64 → Seated E t
listed_seated E s t last M L none few = let at : ℕ → Seat = λ x. get_or t x start in record { places = L.places; few = omega (arith, L.few); substation = ap (λ (z : Seat). z.distance) (L.listed.same 0 (omega arith)) ∙ M.substation; metering = listed_metering E s at (last_of t) last L.listed M.metering; listing = listed_listing E s at (last_of t) last L.listed; whole = listed_all E s at (last_of t) last L.listed none }
