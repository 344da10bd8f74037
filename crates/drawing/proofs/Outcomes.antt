-- What a drawing answers, from what its parts found.
use Rattle.std.specs.Bool.{then_some}
use Rattle.std.proofs.Common.{◌≡◌, ℕ, ◌<◌, ◌≤◌, Bool, true, false, List, length, None, Ok, Err, Option, Result, is_ok, Decides, sym, refl, ◌∙◌, subst, inl, inr, ⊎_elim, arith, MatchOption, MatchResult}
use Rattle.std.proofs.lemmas.Bool.{cases_lt, false≢true}
use Rattle.std.proofs.lemmas.Int.{ints}
use Rattle.feeder.specs.declared.line.Line.{Line}
use Rattle.feeder.specs.declared.kind.Kind.{Kind}
use Rattle.feeder.specs.declared.kind.Kind.TheVariants.{Complete, Reduced}
use Rattle.feeder.specs.declared.fault.Fault.{Fault}
use Rattle.feeder.specs.declared.map.Map.{Map}
use Rattle.feeder.specs.Feeder.{Bus}
use Rattle.feeder.specs.Build.{Refused, FeedersMakeMaps}
use Rattle.feeder.specs.Table.{Table, Yields, OfKind, NoFeeder}
use Rattle.feeder.specs.View.{lines_of, DrawnMap}
use Rattle.feeder.proofs.Laws.{inverters_stand_below}
use Rattle.drawing.specs.declared.seat.Seat.{Seat}
use Rattle.drawing.specs.Seats.{Entries, Listing}
use Rattle.drawing.specs.Yielded.{Natural}
use Rattle.drawing.specs.Columns.{Within}
use Rattle.drawing.specs.Responses.{Near, Reads, WrongColumns}
use Rattle.drawing.specs.Places.{seat_of, far_of}
use Rattle.drawing.specs.Seating.{last_of, Seated, Unseated, Wires, MapSeated}
use Rattle.drawing.specs.Checks.{Passes}
use Rattle.drawing.proofs.Exact.{seated_positive}
use Rattle.drawing.proofs.Wired.{wired_feeder, drawn_distance}
use Rattle.drawing.proofs.Drawings.{ends_of, to_yielded, of_yielded, to_inverter, of_inverter, none_without_distance, none_with_many, answered, refused}
use Rattle.drawing.proofs.Wirings.{wired}

-- what there is to show where no map is drawn
pub no_map : (K : Kind) (T : Table) (o : Option Map) → o ≡ None → (Within T → NoFeeder K T) → MatchOption o (Within T → NoFeeder K T) (λ m. DrawnMap K T m)
no_map K T o e n = subst (λ t. MatchOption t (Within T → NoFeeder K T) (λ m. DrawnMap K T m)) (sym e) n

-- columns that are not read have no feeder
pub wrong_none : (K : Kind) (T : Table) → WrongColumns T → Within T → NoFeeder K T
wrong_none K T (inl e) I F k Y = let t = inverters_stand_below F Y.feeder T (ends_of K T F k) 1 (omega arith, omega (arith, Y.feeder.some)) in omega (arith, t.2.0.0, t.2.0.1)
wrong_none K T (inr (inl l)) I F k Y = omega (arith, I.few)
wrong_none K T (inr (inr (n, m, hn, hm, inl l))) I F k Y = let e = Y.responses n m hn hm in omega (arith, ints)
wrong_none K T (inr (inr (n, m, hn, hm, inr l))) I F k Y = I.near n m hn hm l

-- nor have entries without seats
pub unseated_none : (K : Kind) (T : Table) (E : Entries) → Natural T E → Unseated E → NoFeeder K T
unseated_none K T E A (inl (n, h, z)) = none_without_distance A K n h (λ m i. omega (arith, z m i))
unseated_none K T E A (inr (few, (seat, far, M, L))) = none_with_many A K M L few (omega arith)

-- the lines of seats make a map
module _ (E : Entries) (s : List Seat) (lines : List Line) (S : Seated E s) (W : Wires E s lines) (some : 0 < E.metered) (near : Near E) where
  abbrev G : List Line
  G = lines

  count : length G ≡ last_of s
  count = W.places

  listing : Listing E (seat_of s) (far_of s) (length G)
  listing = subst (Listing E (seat_of s) (far_of s)) (sym count) S.listing

  far_near : (x : ℕ) → Bus G x → far_of s x ≤ 1000000
  far_near x b = ⊎_elim (λ l. let t = S.listing.branches x l (omega (arith, b.1, count)) in omega (arith, t.below, near (seat_of s x) (seat_of s x) t.inverter.0 t.inverter)) (λ l. omega (arith, S.metering.reached x (b.0, l), near x (seat_of s x) (b.0, l) (S.metering.inverter x (b.0, l)))) (cases_lt E.metered x)

  lines_make_maps : FeedersMakeMaps → (e : Fault) → Refused E.metered G e → ⊥
  lines_make_maps make = make E.metered G (wired_feeder (wired E s lines S W) (omega (arith, count, S.listing.metered)) (λ x b. seated_positive S.metering listing x b.0 b.1)) (omega (arith, count, S.few)) (omega (arith, count, S.listing.metered)) (λ b h. omega (arith, drawn_distance (wired E s lines S W) S.metering listing b h, far_near b h))

  pub is_made : FeedersMakeMaps → {metered : ℕ} {ls : List Line} → metered ≡ E.metered → ls ≡ G → (r : Result Map Fault) (P : Map → Type 0) → MatchResult r P (λ e. Refused metered ls e) → is_ok r ≡ true
  is_made make p q (Ok m) P h = refl
  is_made make {metered} p q (Err e) P h = absurd (lines_make_maps make e (subst (λ n. Refused n G e) p (subst (λ ls. Refused metered ls e) q h)))

-- what passes the last check is a feeder of the kind that yields the table
module _ {T : Table} {E : Entries} (A : Natural T E) where
  pub passes_kind : (K : Kind) (G : List Line) → Passes K E G → OfKind K T G × Yields T G
  passes_kind Complete G (a, Y) = let t = of_yielded A G Y in ((a ∙ sym A.metered, t.1), t.0)
  passes_kind Reduced G (a, Y) = let t = of_yielded A G Y in ((t.0.metered, λ n h. of_inverter A (a n (h.0, omega (arith, h.1, A.metered))), t.1), t.0)

  pub kind_passes : (K : Kind) (G : List Line) → OfKind K T G → Yields T G → Passes K E G
  kind_passes Complete G k Y = (k.0 ∙ A.metered, to_yielded A G k.1 Y)
  kind_passes Reduced G k Y = (λ n h. to_inverter A (k.1 n (h.0, omega (arith, h.1, A.metered))), to_yielded A G k.2 Y)

module _ (K : Kind) (T : Table) (E : Entries) (R : Reads T E) (s : List Seat) (S : Seated E s) (m : Map) (M : MapSeated E s m) where
  drawn_map : Passes K E (lines_of m) → DrawnMap K T m
  drawn_map p = let t = passes_kind R.natural K (lines_of m) p in (M.metered ∙ sym R.natural.metered, answered R.natural S.metering S.listing (lines_of m) M.count M.wiring S.whole K t.0 t.1)

  failed_none : (Passes K E (lines_of m) → ⊥) → NoFeeder K T
  failed_none z = refused R.natural S.metering S.listing (lines_of m) M.count M.wiring S.whole K (λ k Y. z (kind_passes R.natural K (lines_of m) k Y))

  -- what the last check decides
  pub checked : (b : Bool) → Decides b (Passes K E (lines_of m)) → MatchOption (then_some b m) (Within T → NoFeeder K T) (λ m. DrawnMap K T m)
  checked true d = drawn_map (d.0 refl)
  checked false d = λ _. failed_none (λ p. false≢true (d.1 p))
