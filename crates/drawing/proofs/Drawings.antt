-- What a drawing of a table may answer: a feeder that passes the last check is drawn from the table, and one that does not shows that there is none.
use Rattle.std.proofs.Common.{◌≡◌, ℕ, ◌+◌, ◌<◌, ◌≤◌, List, length, pos, sym, ap, ◌∙◌, subst, inl, inr, ⊎_elim, arith}
use Rattle.feeder.specs.declared.line.Line.{Line}
use Rattle.feeder.specs.declared.kind.Kind.{Kind}
use Rattle.feeder.specs.declared.kind.Kind.TheVariants.{Complete, Reduced}
use Rattle.feeder.specs.Feeder.{response}
use Rattle.feeder.specs.Table as Table
use Rattle.feeder.specs.Table.{Table, Metered, Yields, EndsHaveInverters, OfKind, LowestBelow, Numbered, NoFeeder, Drawn, SameButNumbers}
use Rattle.drawing.specs.Seats.{Entries, Meter, Inverter, Metering, Listing, Whole, Wiring}
use Rattle.drawing.specs.Yielded.{Yielded, Natural}
use Rattle.drawing.proofs.Exact as Exact
use Rattle.drawing.proofs.Wired.{drawn_distance}
use Rattle.drawing.proofs.Right.{Right, right, on_seat, on_lowest}

pub ends_of : (K : Kind) (S : Table) (F : List Line) → OfKind K S F → EndsHaveInverters S F
ends_of Complete S F k = k.1
ends_of Reduced S F k = k.2

-- a table that some feeder yields has no negative entry
pub no_negative : (S : Table) (F : List Line) → Yields S F → (n m : ℕ) → Metered S n → Table.Inverter S m → (v : ℕ) × (S.entry n m ≡ pos v)
no_negative S F Y n m h i = (response F n m, Y.responses n m h i)

module _ {S : Table} {T : Entries} (A : Natural S T) where
  to_meter : {n : ℕ} → Metered S n → Meter T n
  to_meter h = (h.0, omega (arith, h.1, A.metered))

  of_meter : {n : ℕ} → Meter T n → Metered S n
  of_meter h = (h.0, omega (arith, h.1, A.metered))

  pub to_inverter : {m : ℕ} → Table.Inverter S m → Inverter T m
  to_inverter {m} i = (to_meter i.0, sym (A.has m (to_meter i.0)) ∙ i.1)

  pub of_inverter : {m : ℕ} → Inverter T m → Table.Inverter S m
  of_inverter {m} i = (of_meter i.0, A.has m i.0 ∙ i.1)

  pos_same : (a b : ℕ) → pos a ≡ pos b → a ≡ b
  pos_same a b e = cc

  pub to_yielded : (F : List Line) → EndsHaveInverters S F → Yields S F → Yielded T F
  to_yielded F ends Y = record { feeder = Y.feeder; metered = omega (arith, Y.metered, A.metered); ends = λ b e. to_inverter (ends b e); responses = λ n m h i. pos_same (T.entry n m) (response F n m) (sym (A.entries n m h i) ∙ Y.responses n m (of_meter h) (of_inverter i)) }

  pub of_yielded : (F : List Line) → Yielded T F → Yields S F × EndsHaveInverters S F
  of_yielded F Y = (record { feeder = Y.feeder; metered = omega (arith, Y.metered, A.metered); responses = λ n m h i. A.entries n m (to_meter h) (to_inverter i) ∙ ap pos (Y.responses n m (to_meter h) (to_inverter i)) }, λ b e. of_inverter (Y.ends b e))

  -- a feeder of a kind that yields the table, as one that yields its natural entries
  pub kind_yielded : (K : Kind) (F : List Line) → OfKind K S F → Yields S F → Yielded T F
  kind_yielded K F k Y = to_yielded F (ends_of K S F k) Y

  -- refusals before the drawing: no inverter, a metered bus without a positive entry, too many branches
  pub none_without_distance : (K : Kind) (n : ℕ) → Meter T n → ((m : ℕ) → Inverter T m → T.entry n m ≤ 0) → NoFeeder K S
  none_without_distance K n h z F k Y = omega (arith, Exact.far_positive (kind_yielded K F k Y) n 0 h z)

  pub none_with_many : (K : Kind) {seat far : ℕ → ℕ} {last : ℕ} → Metering T seat far → Listing T seat far last → T.metered ≤ 64 → T.metered + 63 < last → NoFeeder K S
  none_with_many K M L l many F k Y = omega (arith, Exact.few (kind_yielded K F k Y) M L l)

  module _ {seat far : ℕ → ℕ} {last : ℕ} (M : Metering T seat far) (L : Listing T seat far last) (G : List Line) (e : length G ≡ last) (W : Wiring T seat far G) where
    L' : Listing T seat far (length G)
    L' = subst (Listing T seat far) (sym e) L

    -- the seats number the unmetered buses
    pub numbered : {F : List Line} → Yielded T F → Numbered S G
    numbered Y a b i j u l h low_a low_b = ⊎_elim (λ o. inl (omega (arith, o, seat_of_lem a i (omega (arith, A.metered)) (omega arith) low_a, seat_of_lem b j (omega (arith, A.metered)) h low_b))) (λ o. inr (omega (arith, o.0, seat_of_lem a i (omega (arith, A.metered)) (omega arith) low_a, seat_of_lem b j (omega (arith, A.metered)) h low_b), omega (arith, o.1, drawn_distance W M L' a (omega arith, omega arith), drawn_distance W M L' b (omega arith, h)))) (L'.order a b (omega (arith, A.metered)) l h)
      where
        seat_of_lem : (x k : ℕ) → T.metered < x → x ≤ length G → LowestBelow S G x k → k ≡ seat x
        seat_of_lem x k v m low = omega (arith, low.lowest (seat x) (of_inverter (L'.branches x v m).inverter) (on_seat Y M L' W x (omega arith, m)), on_lowest Y M L' W x k v m (to_inverter low.inverter) low.below)

    module _ (H : Whole T seat far last) where
      against : (K : Kind) (F : List Line) → OfKind K S F → Yields S F → Right T F G
      against K F k Y = right (kind_yielded K F k Y) M L H G e W

      -- a drawing of the kind that yields the table is drawn from it
      pub answered : (K : Kind) → OfKind K S G → Yields S G → Drawn K S G
      answered K k Y = record { kind = k; yields = Y; fewest = λ F q V. (against K F q V).fewest; alone = λ F q V e. subst (λ t. SameButNumbers t G F) (sym A.metered) ((against K F q V).alone e); numbered = numbered (kind_yielded K G k Y) }

      same_kind : (K : Kind) (F : List Line) → OfKind K S F → Right T F G → OfKind K S G
      same_kind Complete F k R = (R.complete (omega (arith, k.0, A.metered)) ∙ sym A.metered, (of_yielded G R.yielded).1)
      same_kind Reduced F k R = ((of_yielded G R.yielded).0.metered, k.1, (of_yielded G R.yielded).1)

      -- where some feeder of the kind yields the table the drawing does
      pub unanswered : (K : Kind) (F : List Line) → OfKind K S F → Yields S F → OfKind K S G × Yields S G
      unanswered K F k Y = let R = against K F k Y in (same_kind K F k R, (of_yielded G R.yielded).0)

      -- so one that fails the last check shows that there is none
      pub refused : (K : Kind) → (OfKind K S G → Yields S G → ⊥) → NoFeeder K S
      refused K z F k Y = let t = unanswered K F k Y in z t.0 t.1
