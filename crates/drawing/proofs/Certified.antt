-- Tests of a drawing that is written out: its seats, its lines, and whether it passes the last check.
use Rattle.std.proofs.Common.{◌≡◌, ℕ, zero, suc, ◌+◌, ◌<◌, ◌≤◌, Bool, true, false, cond, not, ◌&&◌, ◌||◌, eqb, ltb, leb, ◌⊎◌, List, length, ℤ, pos, negsuc, Decides, sum_by, sym, refl, ap, ◌∙◌, subst, inl, inr, ⊎_elim, arith}
use Rattle.std.proofs.lemmas.Bool.{leb-true, le-leb, true≢false, and_parts, and_from}
use Rattle.std.proofs.lemmas.Bool.Decides.{Decides-eqb, Decides-ltb, Decides-and, Decides-or, Decides-not, Decides-like, Decides-below_and, Decides-below_or, not_from_Decides}
use Rattle.feeder.specs.declared.line.Line.{Line}
use Rattle.feeder.specs.declared.kind.Kind.{Kind}
use Rattle.feeder.specs.declared.kind.Kind.TheVariants.{Complete, Reduced}
use Rattle.feeder.specs.Way.{climb, shared}
use Rattle.feeder.specs.Feeder.{Bus, End, parent_of, resistance_of, way, response}
use Rattle.feeder.specs.Table as Table
use Rattle.feeder.specs.Table.{Table, NoFeeder, Drawn}
use Rattle.drawing.specs.declared.seat.Seat.{Seat}
use Rattle.drawing.specs.Seats.{Entries, Meter, Inverter, Metering, Branch, Listing, Whole, Wiring}
use Rattle.drawing.specs.Yielded.{Yielded, Natural}
use Rattle.drawing.specs.Places.{seat_of, far_of}
use Rattle.drawing.specs.Checks.{Allowed, Passes}
use Rattle.drawing.proofs.Exact.{seated_positive}
use Rattle.drawing.proofs.Wired.{wired_feeder}
use Rattle.drawing.proofs.Drawings.{none_without_distance, no_negative, answered, refused}
use Rattle.drawing.proofs.Outcomes.{passes_kind, kind_passes}

decides_leb : (a b : ℕ) → Decides (leb a b) (a ≤ b)
decides_leb a b = (leb-true a b, le-leb a b)

decides_true : (b : Bool) → Decides b (b ≡ true)
decides_true b = (λ e. e, λ e. e)

-- b tells c
abbrev tells : Bool → Bool → Bool
tells b c = cond b c true

decides_tells : {P Q : Type 0} (b c : Bool) → Decides b P → Decides c Q → Decides (tells b c) (P → Q)
decides_tells true c d k = (λ e _. k.0 e, λ f. k.1 (f (d.0 refl)))
decides_tells false c d k = (λ _ p. absurd (not_from_Decides false d refl p), λ _. refl)

abbrev each : ℕ → (ℕ → Bool) → Bool
each zero p = true
each (suc n) p = p n && each n p

abbrev some : ℕ → (ℕ → Bool) → Bool
some zero p = false
some (suc n) p = p n || some n p

decides_each : (p : ℕ → Bool) (P : ℕ → Type 0) → ((k : ℕ) → Decides (p k) (P k)) → (n : ℕ) → Decides (each n p) ((k : ℕ) → k < n → P k)
decides_each p P d n = Decides-below_and p P (λ k. each k p) d refl (λ _. refl) n

decides_some : (p : ℕ → Bool) (P : ℕ → Type 0) → ((k : ℕ) → Decides (p k) (P k)) → (n : ℕ) → Decides (some n p) ((k : ℕ) × (k < n) × P k)
decides_some p P d n = Decides-below_or p P (λ k. some k p) d refl (λ _. refl) n

-- the entries of a table, 0 for a negative one
abbrev natural : ℤ → ℕ
natural (pos n) = n
natural (negsuc n) = 0

abbrev is_natural : ℤ → Bool
is_natural (pos n) = true
is_natural (negsuc n) = false

abbrev pub entries_in : Table → Entries
entries_in T = record { metered = T.metered; has = T.has; entry = λ n m. natural (T.entry n m) }

module _ (E : Entries) where
  abbrev is_meter : ℕ → Bool
  is_meter n = ltb 0 n && leb n E.metered

  abbrev is_inverter : ℕ → Bool
  is_inverter m = is_meter m && E.has m

  decides_meter : (n : ℕ) → Decides (is_meter n) (Meter E n)
  decides_meter n = Decides-and (ltb 0 n) (leb n E.metered) (Decides-ltb 0 n) (decides_leb n E.metered)

  decides_inverter : (m : ℕ) → Decides (is_inverter m) (Inverter E m)
  decides_inverter m = Decides-and (is_meter m) (E.has m) (decides_meter m) (decides_true (E.has m))

  abbrev meters : (ℕ → Bool) → Bool
  meters p = each (suc E.metered) (λ n. tells (is_meter n) (p n))

  abbrev inverters : (ℕ → Bool) → Bool
  inverters p = each (suc E.metered) (λ n. tells (is_inverter n) (p n))

  abbrev some_inverter : (ℕ → Bool) → Bool
  some_inverter p = some (suc E.metered) (λ n. is_inverter n && p n)

  decides_meters : (p : ℕ → Bool) (P : ℕ → Type 0) → ((k : ℕ) → Decides (p k) (P k)) → Decides (meters p) ((n : ℕ) → Meter E n → P n)
  decides_meters p P d = Decides-like (meters p) (λ f n h. f n (omega (arith, h.1)) h) (λ f n l h. f n h) (decides_each (λ n. tells (is_meter n) (p n)) (λ n. Meter E n → P n) (λ n. decides_tells (is_meter n) (p n) (decides_meter n) (d n)) (suc E.metered))

  decides_inverters : (p : ℕ → Bool) (P : ℕ → Type 0) → ((k : ℕ) → Decides (p k) (P k)) → Decides (inverters p) ((m : ℕ) → Inverter E m → P m)
  decides_inverters p P d = Decides-like (inverters p) (λ f n h. f n (omega (arith, h.0.1)) h) (λ f n l h. f n h) (decides_each (λ n. tells (is_inverter n) (p n)) (λ n. Inverter E n → P n) (λ n. decides_tells (is_inverter n) (p n) (decides_inverter n) (d n)) (suc E.metered))

  decides_some_inverter : (p : ℕ → Bool) (P : ℕ → Type 0) → ((k : ℕ) → Decides (p k) (P k)) → Decides (some_inverter p) ((k : ℕ) × Inverter E k × P k)
  decides_some_inverter p P d = Decides-like (some_inverter p) (λ t. (t.0, t.2.0, t.2.1)) (λ t. (t.0, omega (arith, t.1.0.1), (t.1, t.2))) (decides_some (λ n. is_inverter n && p n) (λ n. Inverter E n × P n) (λ n. Decides-and (is_inverter n) (p n) (decides_inverter n) (d n)) (suc E.metered))

module _ (E : Entries) (s : List Seat) where
  -- seats of metered buses
  abbrev is_metering : Bool
  is_metering = meters E (λ n. is_inverter E (seat_of s n) && (eqb (E.entry n (seat_of s n)) (far_of s n) && (inverters E (λ m. leb (E.entry n m) (far_of s n)) && ltb 0 (far_of s n))))

  is_metering_lem : is_metering ≡ true → Metering E (seat_of s) (far_of s)
  is_metering_lem e = record { inverter = λ n h. (told n h).0; reached = λ n h. (told n h).1.0; most = λ n m h i. (told n h).1.1.0 m i; positive = λ n h. (told n h).1.1.1 }
    where
      told : (n : ℕ) → Meter E n → Inverter E (seat_of s n) × ((E.entry n (seat_of s n) ≡ far_of s n) × (((m : ℕ) → Inverter E m → E.entry n m ≤ far_of s n) × (0 < far_of s n)))
      told = (decides_meters E _ (λ n. Inverter E (seat_of s n) × ((E.entry n (seat_of s n) ≡ far_of s n) × (((m : ℕ) → Inverter E m → E.entry n m ≤ far_of s n) × (0 < far_of s n)))) (λ n. Decides-and _ _ (decides_inverter E (seat_of s n)) (Decides-and _ _ (Decides-eqb (E.entry n (seat_of s n)) (far_of s n)) (Decides-and _ _ (decides_inverters E _ (λ m. E.entry n m ≤ far_of s n) (λ m. decides_leb (E.entry n m) (far_of s n))) (Decides-ltb 0 (far_of s n)))))).0 e

  -- a branch, but for the other inverter
  abbrev Open : ℕ → ℕ → Type 0
  Open m v = (0 < v) × (((k : ℕ) → Inverter E k → k < m → E.entry k m < v) × ((v < E.entry m m) × ((n : ℕ) → Meter E n → (E.entry n m ≡ v) × (far_of s n ≡ v) → ⊥)))

  abbrev is_open : ℕ → ℕ → Bool
  is_open m v = ltb 0 v && (inverters E (λ k. tells (ltb k m) (ltb (E.entry k m) v)) && (ltb v (E.entry m m) && meters E (λ n. not (eqb (E.entry n m) v && eqb (far_of s n) v))))

  decides_open : (m v : ℕ) → Decides (is_open m v) (Open m v)
  decides_open m v = Decides-and _ _ (Decides-ltb 0 v) (Decides-and _ _ (decides_inverters E _ (λ k. k < m → E.entry k m < v) (λ k. decides_tells _ _ (Decides-ltb k m) (Decides-ltb (E.entry k m) v))) (Decides-and _ _ (Decides-ltb v (E.entry m m)) (decides_meters E _ (λ n. (E.entry n m ≡ v) × (far_of s n ≡ v) → ⊥) (λ n. Decides-not _ (Decides-and _ _ (Decides-eqb (E.entry n m) v) (Decides-eqb (far_of s n) v))))))

  abbrev is_branch : ℕ → ℕ → Bool
  is_branch m v = is_inverter E m && (some_inverter E (λ k. eqb (E.entry k m) v) && is_open m v)

  is_branch_lem : (m v : ℕ) → is_branch m v ≡ true → Branch E (seat_of s) (far_of s) m v
  is_branch_lem m v e = record { inverter = t.0; other = t.1.0; positive = o.0; floor = o.1.0; below = o.1.1.0; free = λ n h a b. o.1.1.1 n h (a, b) }
    where
      t : Inverter E m × (((k : ℕ) × Inverter E k × (E.entry k m ≡ v)) × Open m v)
      t = (Decides-and _ _ (decides_inverter E m) (Decides-and _ _ (decides_some_inverter E _ (λ k. E.entry k m ≡ v) (λ k. Decides-eqb (E.entry k m) v)) (decides_open m v))).0 e

      o : Open m v
      o = t.1.1

  module _ (last : ℕ) where
    -- unmetered seats in order
    abbrev is_listing : Bool
    is_listing = leb E.metered last && (each (suc last) (λ x. tells (ltb E.metered x) (is_branch (seat_of s x) (far_of s x))) && each (suc last) (λ y. each y (λ x. tells (ltb E.metered x) (ltb (seat_of s x) (seat_of s y) || (eqb (seat_of s x) (seat_of s y) && ltb (far_of s x) (far_of s y))))))

    is_listing_lem : is_listing ≡ true → Listing E (seat_of s) (far_of s) last
    is_listing_lem e = record { metered = t.0; branches = λ x p l. is_branch_lem (seat_of s x) (far_of s x) (t.1.0 x (omega arith) p); order = λ x y p l q. t.1.1 y (omega arith) x l p }
      where
        t : (E.metered ≤ last) × (((x : ℕ) → x < suc last → E.metered < x → is_branch (seat_of s x) (far_of s x) ≡ true) × ((y : ℕ) → y < suc last → (x : ℕ) → x < y → E.metered < x → (seat_of s x < seat_of s y) ⊎ ((seat_of s x ≡ seat_of s y) × (far_of s x < far_of s y))))
        t = (Decides-and _ _ (decides_leb E.metered last) (Decides-and _ _ (decides_each _ (λ x. E.metered < x → is_branch (seat_of s x) (far_of s x) ≡ true) (λ x. decides_tells _ _ (Decides-ltb E.metered x) (decides_true (is_branch (seat_of s x) (far_of s x)))) (suc last)) (decides_each _ (λ y. (x : ℕ) → x < y → E.metered < x → (seat_of s x < seat_of s y) ⊎ ((seat_of s x ≡ seat_of s y) × (far_of s x < far_of s y))) (λ y. decides_each _ (λ x. E.metered < x → (seat_of s x < seat_of s y) ⊎ ((seat_of s x ≡ seat_of s y) × (far_of s x < far_of s y))) (λ x. decides_tells _ _ (Decides-ltb E.metered x) (Decides-or _ _ (Decides-ltb (seat_of s x) (seat_of s y)) (Decides-and _ _ (Decides-eqb (seat_of s x) (seat_of s y)) (Decides-ltb (far_of s x) (far_of s y))))) y) (suc last)))).0 e

    -- every branch is listed
    abbrev Listed : ℕ → ℕ → Type 0
    Listed m v = (x : ℕ) × (x < suc last) × ((E.metered < x) × ((seat_of s x ≡ m) × (far_of s x ≡ v)))

    abbrev is_whole : Bool
    is_whole = inverters E (λ m. inverters E (λ k. tells (is_open m (E.entry k m)) (some (suc last) (λ x. ltb E.metered x && (eqb (seat_of s x) m && eqb (far_of s x) (E.entry k m))))))

    is_whole_lem : is_whole ≡ true → Whole E (seat_of s) (far_of s) last
    is_whole_lem e m v b = let o = b.other in let x = told m b.inverter o.0 o.1 (subst (Open m) (sym o.2) (b.positive, (b.floor, (b.below, λ n h t. b.free n h t.0 t.1)))) in (x.0, x.2.0, omega (arith, x.1), x.2.1.0, x.2.1.1 ∙ o.2)
      where
        told : (m : ℕ) → Inverter E m → (k : ℕ) → Inverter E k → Open m (E.entry k m) → Listed m (E.entry k m)
        told = (decides_inverters E _ (λ m. (k : ℕ) → Inverter E k → Open m (E.entry k m) → Listed m (E.entry k m)) (λ m. decides_inverters E _ (λ k. Open m (E.entry k m) → Listed m (E.entry k m)) (λ k. decides_tells _ _ (decides_open m (E.entry k m)) (decides_some _ (λ x. (E.metered < x) × ((seat_of s x ≡ m) × (far_of s x ≡ E.entry k m))) (λ x. Decides-and _ _ (Decides-ltb E.metered x) (Decides-and _ _ (Decides-eqb (seat_of s x) m) (Decides-eqb (far_of s x) (E.entry k m)))) (suc last))))).0 e

  module _ (G : List Line) where
    -- the lines of the seats
    abbrev Over : ℕ → ℕ → Type 0
    Over y x = (0 < y) × ((y ≤ length G) × ((far_of s y < far_of s x) × (far_of s y ≤ E.entry (seat_of s y) (seat_of s x))))

    abbrev is_over : ℕ → ℕ → Bool
    is_over y x = ltb 0 y && (leb y (length G) && (ltb (far_of s y) (far_of s x) && leb (far_of s y) (E.entry (seat_of s y) (seat_of s x))))

    decides_over : (y x : ℕ) → Decides (is_over y x) (Over y x)
    decides_over y x = Decides-and _ _ (Decides-ltb 0 y) (Decides-and _ _ (decides_leb y (length G)) (Decides-and _ _ (Decides-ltb (far_of s y) (far_of s x)) (decides_leb (far_of s y) (E.entry (seat_of s y) (seat_of s x)))))

    abbrev is_wiring : Bool
    is_wiring = eqb (far_of s 0) 0 && each (suc (length G)) (λ x. tells (ltb 0 x) ((eqb (parent_of G x) 0 || is_over (parent_of G x) x) && (each (suc (length G)) (λ y. tells (is_over y x) (leb (far_of s y) (far_of s (parent_of G x)))) && eqb (resistance_of G x + far_of s (parent_of G x)) (far_of s x))))

    abbrev WiredBus : ℕ → Type 0
    WiredBus x = ((parent_of G x ≡ 0) ⊎ Over (parent_of G x) x) × (((y : ℕ) → y < suc (length G) → Over y x → far_of s y ≤ far_of s (parent_of G x)) × (resistance_of G x + far_of s (parent_of G x) ≡ far_of s x))

    is_wiring_lem : is_wiring ≡ true → Wiring E (seat_of s) (far_of s) G
    is_wiring_lem e = record { substation = t.0; parents = λ x b. ⊎_elim inl (λ o. inr (o.0, o.1.0, o.1.1.0, o.1.1.1)) (line x b).0; nearest = λ x y b a. (line x b).1.0 y (omega (arith, a.1)) (a.0, (a.1, (a.2, a.3))); resistances = λ x b. (line x b).1.1 }
      where
        t : (far_of s 0 ≡ 0) × ((x : ℕ) → x < suc (length G) → 0 < x → WiredBus x)
        t = (Decides-and _ _ (Decides-eqb (far_of s 0) 0) (decides_each _ (λ x. 0 < x → WiredBus x) (λ x. decides_tells _ _ (Decides-ltb 0 x) (Decides-and _ _ (Decides-or _ _ (Decides-eqb (parent_of G x) 0) (decides_over (parent_of G x) x)) (Decides-and _ _ (decides_each _ (λ y. Over y x → far_of s y ≤ far_of s (parent_of G x)) (λ y. decides_tells _ _ (decides_over y x) (decides_leb (far_of s y) (far_of s (parent_of G x)))) (suc (length G))) (Decides-eqb (resistance_of G x + far_of s (parent_of G x)) (far_of s x))))) (suc (length G)))).0 e

        line : (x : ℕ) → Bus G x → WiredBus x
        line x b = t.1 x (omega (arith, b.1)) b.0

    -- the responses of the lines
    abbrev told : ℕ → ℕ → ℕ
    told n m = sum_by (resistance_of G) (shared (climb (length G) (parent_of G) n) (climb (length G) (parent_of G) m))

    told_is : (n m : ℕ) → told n m ≡ response G n m
    unfolding response way
    told_is n m = refl

    abbrev is_same : Bool
    is_same = inverters E (λ m. meters E (λ n. eqb (E.entry n m) (told n m)))

    decides_same : Decides is_same ((m : ℕ) → Inverter E m → (n : ℕ) → Meter E n → E.entry n m ≡ told n m)
    decides_same = decides_inverters E _ (λ m. (n : ℕ) → Meter E n → E.entry n m ≡ told n m) (λ m. decides_meters E _ (λ n. E.entry n m ≡ told n m) (λ n. Decides-eqb (E.entry n m) (told n m)))

    -- every bus has an inverter or is a parent
    abbrev is_ended : Bool
    is_ended = each (suc (length G)) (λ b. is_inverter E b || (eqb b 0 || some (suc (length G)) (λ c. ltb 0 c && eqb (parent_of G c) b)))

    is_ended_lem : is_ended ≡ true → (b : ℕ) → End G b → Inverter E b
    is_ended_lem e b h = ⊎_elim (λ i. i) (λ o. ⊎_elim (λ z. absurd (none z h.0.0)) (λ t. absurd (h.1 t.0 (t.2.0, omega (arith, t.1)) t.2.1)) o) (told' b (omega (arith, h.0.1)))
      where
        none : b ≡ 0 → 0 < b → ⊥
        none z p = omega arith

        told' : (b : ℕ) → b < suc (length G) → Inverter E b ⊎ ((b ≡ 0) ⊎ ((c : ℕ) × (c < suc (length G)) × ((0 < c) × (parent_of G c ≡ b))))
        told' = (decides_each _ (λ b. Inverter E b ⊎ ((b ≡ 0) ⊎ ((c : ℕ) × (c < suc (length G)) × ((0 < c) × (parent_of G c ≡ b))))) (λ b. Decides-or _ _ (decides_inverter E b) (Decides-or _ _ (Decides-eqb b 0) (decides_some _ (λ c. (0 < c) × (parent_of G c ≡ b)) (λ c. Decides-and _ _ (Decides-ltb 0 c) (Decides-eqb (parent_of G c) b)) (suc (length G))))) (suc (length G))).0 e

abbrev is_allowed : Kind → Entries → List Line → Bool
is_allowed Complete E G = eqb (length G) E.metered
is_allowed Reduced E G = meters E (λ n. is_inverter E n)

decides_allowed : (K : Kind) (E : Entries) (G : List Line) → Decides (is_allowed K E G) (Allowed K E (length G))
decides_allowed Complete E G = Decides-eqb (length G) E.metered
decides_allowed Reduced E G = decides_meters E _ (λ n. Inverter E n) (λ n. decides_inverter E n)

-- whether a table has no negative entries
abbrev is_plain : Table → Bool
is_plain T = inverters (entries_in T) (λ m. meters (entries_in T) (λ n. is_natural (T.entry n m)))

natural_is : (z : ℤ) → is_natural z ≡ true → z ≡ pos (natural z)
natural_is (pos n) e = refl
natural_is (negsuc n) e = absurd (true≢false (sym e))

is_plain_lem : (T : Table) → is_plain T ≡ true → Natural T (entries_in T)
is_plain_lem T e = record { metered = refl; has = λ n h. refl; entries = λ n m h i. natural_is (T.entry n m) ((decides_inverters (entries_in T) _ (λ m. (n : ℕ) → Meter (entries_in T) n → is_natural (T.entry n m) ≡ true) (λ m. decides_meters (entries_in T) _ (λ n. is_natural (T.entry n m) ≡ true) (λ n. decides_true (is_natural (T.entry n m))))).0 e m i n h) }

-- seats and lines that were found as a drawing finds them
module _ (T : Table) (s : List Seat) (G : List Line) where
  abbrev is_draft : Bool
  is_draft = is_plain T && (is_metering (entries_in T) s && (is_listing (entries_in T) s (length G) && (is_whole (entries_in T) s (length G) && (is_wiring (entries_in T) s G && ltb 0 (length G)))))

  abbrev E : Entries
  E = entries_in T

  module _ (e : is_draft ≡ true) where
    parts : Natural T E × (Metering E (seat_of s) (far_of s) × (Listing E (seat_of s) (far_of s) (length G) × (Whole E (seat_of s) (far_of s) (length G) × (Wiring E (seat_of s) (far_of s) G × (0 < length G)))))
    parts = let a = and_parts _ _ e in let b = and_parts _ _ a.1 in let c = and_parts _ _ b.1 in let d = and_parts _ _ c.1 in let f = and_parts _ _ d.1 in (is_plain_lem T a.0, (is_metering_lem E s b.0, (is_listing_lem E s (length G) c.0, (is_whole_lem E s (length G) d.0, (is_wiring_lem E s G f.0, (Decides-ltb 0 (length G)).0 f.1)))))

    -- passes the last check
    pub certified : (K : Kind) → (is_allowed K E G && (is_same E s G && is_ended E s G)) ≡ true → Drawn K T G
    certified K p =
        let a = and_parts _ _ p in
        let b = and_parts _ _ a.1 in
        let W = parts.1.1.1.1.0 in
        let L = parts.1.1.0 in
        let Y : Yielded E G = record { feeder = wired_feeder W parts.1.1.1.1.1 (λ x h. seated_positive parts.1.0 L x h.0 h.1); metered = L.metered; ends = is_ended_lem E s G b.1; responses = λ n m h i. (decides_same E s G).0 b.0 m i n h ∙ told_is E s G n m } in
        let t = passes_kind parts.0 K G ((decides_allowed K E G).0 a.0, Y) in
        answered parts.0 parts.1.0 L G refl W parts.1.1.1.0 K t.0 t.1

    -- does not
    pub refuted : (K : Kind) → (is_allowed K E G && is_same E s G) ≡ false → NoFeeder K T
    refuted K p = refused parts.0 parts.1.0 parts.1.1.0 G refl parts.1.1.1.1.0 parts.1.1.1.0 K (λ k Y. fails (kind_passes parts.0 K G k Y))
      where
        fails : Passes K E G → ⊥
        fails (a, Y) = true≢false (sym (and_from _ _ ((decides_allowed K E G).1 a) ((decides_same E s G).1 (λ m i n h. Y.responses n m h i ∙ sym (told_is E s G n m)))) ∙ p)

-- a negative entry
pub negative : (K : Kind) (T : Table) (n m : ℕ) → Table.Metered T n → Table.Inverter T m → is_natural (T.entry n m) ≡ false → NoFeeder K T
negative K T n m h i e F k Y = let t = no_negative T F Y n m h i in true≢false (sym (ap is_natural t.1) ∙ e)

-- a metered bus that responds to no inverter
pub unmoved : (K : Kind) (T : Table) (n : ℕ) → is_plain T ≡ true → Meter (entries_in T) n → inverters (entries_in T) (λ m. leb ((entries_in T).entry n m) 0) ≡ true → NoFeeder K T
unmoved K T n e h z = none_without_distance (is_plain_lem T e) K n h ((decides_inverters (entries_in T) _ (λ m. (entries_in T).entry n m ≤ 0) (λ m. decides_leb ((entries_in T).entry n m) 0)).0 z)
