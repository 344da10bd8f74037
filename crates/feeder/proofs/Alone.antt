-- A table has one answer of a kind: two drawn feeders are paired, and their numbering leaves no other pairing than each bus with itself.
use Rattle.std.proofs.Common.{◌≡◌, ℕ, zero, suc, ◌+◌, ◌-◌, ◌<◌, ◌≤◌, true, false, ◌⊎◌, List, length, get_or, Some, None, sym, refl, ap, ◌∙◌, inl, inr, ⊎_elim, arith}
use Rattle.std.proofs.lemmas.List.{ext_get_or}
use Rattle.std.proofs.lemmas.Bool.{cases_lt, cases_eq, cases_Bool, cases_order, both_ways}
use Rattle.feeder.specs.declared.line.Line.{Line}
use Rattle.feeder.specs.declared.kind.Kind.{Kind}
use Rattle.feeder.specs.declared.kind.Kind.TheVariants.{Complete, Reduced}
use Rattle.feeder.specs.Feeder.{Feeder, Bus, OnWay, blank, line_of, parent_of, resistance_of, distance}
use Rattle.feeder.specs.Table.{Table, Inverter, OfKind, EndsHaveInverters, Pairs, LowestBelow, Drawn, AnswersAreAlone, CompleteFeedersAreAlone}
use Rattle.feeder.proofs.Ways.{dec_on}
use Rattle.feeder.proofs.Inverters.{Greatest, greatest}
use Rattle.feeder.proofs.Feeders.{is_way}
use Rattle.feeder.proofs.Laws.{inverters_stand_below}
use Rattle.feeder.proofs.Pairing as Pairing
use Rattle.feeder.proofs.SameMaps.{same_line}

-- f keeps the order of the numbers from low + 1 to high and leaves them there: it moves none
module _ (low high : ℕ) (f : ℕ → ℕ) (rising : (a b : ℕ) → low < a → a < b → b ≤ high → f a < f b) (inside : (a : ℕ) → low < a → a ≤ high → (low < f a) × (f a ≤ high)) where
  steps : (k a : ℕ) → low < a → a + k ≤ high → f a + k ≤ f (a + k)
  steps zero a h l = let e : a + 0 ≡ a = omega arith in omega (arith, ap f e)
  steps (suc k) a h l = let e : a + suc k ≡ suc (a + k) = omega arith in omega (arith, ap f e, steps k a h (omega arith), rising (a + k) (suc (a + k)) (omega arith) (omega arith) (omega arith))

  pub moves_none : (a : ℕ) → low < a → a ≤ high → f a ≡ a
  moves_none a h l =
      let e : a + (high - a) ≡ high = omega arith in
      let d : suc low + (a - suc low) ≡ a = omega arith in
      omega (arith, ap f e, ap f d, steps (high - a) a h (omega arith), inside high (omega arith) (omega arith), steps (a - suc low) (suc low) (omega arith) (omega arith), inside (suc low) (omega arith) (omega arith))

ends_of : (K : Kind) (T : Table) (F : List Line) → OfKind K T F → EndsHaveInverters T F
ends_of Complete T F k = k.1
ends_of Reduced T F k = k.2

-- every bus has a lowest inverter at or below it
lowest_below : (T : Table) (F : List Line) → Feeder F → EndsHaveInverters T F → (b : ℕ) → Bus F b → (i : ℕ) × LowestBelow T F b i
lowest_below T F f ends b bus = ⊎_elim (λ t. found t.0 t.1) (λ none. absurd (none some.0 (omega (arith, some.2.0.1)) (some.2, some.3))) (greatest Here dec (λ k. T.metered - k) (suc T.metered))
  where
    Here : ℕ → Type 0
    Here k = Inverter T k × OnWay F b k

    some : (i : ℕ) × Bus F i × Inverter T i × OnWay F b i
    some = inverters_stand_below F f T ends b bus

    dec : (k : ℕ) → Here k ⊎ (Here k → ⊥)
    dec k = go (cases_lt 0 k) (cases_lt T.metered k) (cases_Bool (T.has k)) (dec_on (is_way F f) b k)
      where
        go : (0 < k) ⊎ (k ≤ 0) → (T.metered < k) ⊎ (k ≤ T.metered) → (T.has k ≡ true) ⊎ (T.has k ≡ false) → OnWay F b k ⊎ (OnWay F b k → ⊥) → Here k ⊎ (Here k → ⊥)
        go (inl p) (inr q) (inl e) (inl o) = inl (((p, q), e), o)
        go (inr p) q e o = inr (λ t. omega (arith, t.0.0.0))
        go (inl p) (inl q) e o = inr (λ t. omega (arith, t.0.0.1))
        go (inl p) (inr q) (inr e) o = inr (λ t. both_ways (T.has k) e t.0.1)
        go (inl p) (inr q) (inl e) (inr z) = inr (λ t. z t.1)

    found : (c : ℕ) → Greatest Here (λ k. T.metered - k) (suc T.metered) c → (i : ℕ) × LowestBelow T F b i
    found c g = (c, record { inverter = g.passes.0; below = g.passes.1; lowest = λ k u o. omega (arith, g.below, g.most k (omega (arith, u.0.1)) (u, o), u.0.1) })

-- where each bus is paired with itself, the lists are one
same_list : (N : ℕ) (G F : List Line) (f : ℕ → ℕ) → Feeder G → length G ≡ length F → Pairs N G F f → ((b : ℕ) → Bus G b → f b ≡ b) → G ≡ F
same_list N G F f g e P still = ext_get_or blank G F e each
  where
    still' : (b : ℕ) → b ≤ length G → f b ≡ b
    still' b l = ⊎_elim (λ z. ap f z ∙ P.substation ∙ sym z) (λ z. still b (omega arith, l)) (cases_eq b 0)

    each : (i : ℕ) → i < length G → get_or G i blank ≡ get_or F i blank
    each i l = rw pred at (same_line (line_of G (suc i)) (line_of F (suc i)) (sym (still' (parent_of G (suc i)) (g.parents (suc i) bus)) ∙ sym (P.parents (suc i) bus) ∙ ap (parent_of F) (still (suc i) bus)) (sym (P.resistances (suc i) bus) ∙ ap (resistance_of F) (still (suc i) bus)))
      where
        bus : Bus G (suc i)
        bus = (omega arith, l)

        pred : suc i - 1 ≡ i
        pred = omega arith

module _ (K : Kind) (T : Table) (G F : List Line) (D : Drawn K T G) (E : Drawn K T F) where
  same_length : length G ≡ length F
  same_length = omega (arith, D.fewest F E.kind E.yields, E.fewest G D.kind D.yields)

  f : ℕ → ℕ
  f = (D.alone F E.kind E.yields (sym same_length)).0

  P : Pairs T.metered G F f
  unfolding f
  P = (D.alone F E.kind E.yields (sym same_length)).1

  g : Feeder G
  g = D.yields.feeder

  h : Feeder F
  h = E.yields.feeder

  inside : (a : ℕ) → T.metered < a → a ≤ length G → (T.metered < f a) × (f a ≤ length G)
  inside a k l = (Pairing.unmetered_kept T.metered G F f P g h D.yields.metered a k l, omega (arith, P.buses a (omega arith, l), same_length))

  rising : (a b : ℕ) → T.metered < a → a < b → b ≤ length G → f a < f b
  rising a b k l m = go (cases_order (f a) (f b))
    where
      bus_a : Bus G a
      bus_a = (omega arith, omega arith)

      bus_b : Bus G b
      bus_b = (omega arith, omega arith)

      low_a : (i : ℕ) × LowestBelow T G a i
      low_a = lowest_below T G g (ends_of K T G D.kind) a bus_a

      low_b : (i : ℕ) × LowestBelow T G b i
      low_b = lowest_below T G g (ends_of K T G D.kind) b bus_b

      kept : (c i : ℕ) → Bus G c → LowestBelow T G c i → LowestBelow T F (f c) i
      kept c i u = Pairing.lowest_kept T.metered G F f P g h T refl D.yields.metered c i u

      go : (f a ≡ f b) ⊎ ((f a < f b) ⊎ (f b < f a)) → f a < f b
      go (inl e) = absurd (omega (arith, P.apart a b bus_a bus_b e))
      go (inr (inl u)) = u
      go (inr (inr u)) = absurd (clash (D.numbered a b low_a.0 low_b.0 k l m low_a.1 low_b.1) (E.numbered (f b) (f a) low_b.0 low_a.0 (inside b (omega arith) m).0 u (P.buses a bus_a).1 (kept b low_b.0 bus_b low_b.1) (kept a low_a.0 bus_a low_a.1)))
        where
          clash : (low_a.0 < low_b.0) ⊎ ((low_a.0 ≡ low_b.0) × (distance G a < distance G b)) → (low_b.0 < low_a.0) ⊎ ((low_b.0 ≡ low_a.0) × (distance F (f b) < distance F (f a))) → ⊥
          clash (inl p) (inl q) = omega arith
          clash (inl p) (inr q) = omega (arith, q.0)
          clash (inr p) (inl q) = omega (arith, p.0)
          clash (inr p) (inr q) = omega (arith, p.1, q.1, Pairing.distance_kept T.metered G F f P g h a bus_a.1, Pairing.distance_kept T.metered G F f P g h b bus_b.1)

  pub drawn_alone : G ≡ F
  drawn_alone = same_list T.metered G F f g same_length P (λ b u. ⊎_elim (λ k. moves_none T.metered (length G) f rising inside b k u.1) (λ k. P.meters b u.0 k) (cases_lt T.metered b))

-- every complete feeder that yields the table is the drawn one
pub complete_alone : CompleteFeedersAreAlone
complete_alone T G F drawn kind yields =
    let long : length F ≡ length G = kind.0 ∙ sym drawn.kind.0 in
    let paired = drawn.alone F kind yields long in
    same_list T.metered G F paired.0 drawn.yields.feeder (sym long) paired.1 (λ b u. paired.1.meters b u.0 (omega (arith, drawn.kind.0, u.1)))

pub answers_are_alone : AnswersAreAlone
answers_are_alone K T None None x y = refl
answers_are_alone K T None (Some F) x y = absurd (x F y.kind y.yields)
answers_are_alone K T (Some G) None x y = absurd (y G x.kind x.yields)
answers_are_alone K T (Some G) (Some F) x y = ap Some (drawn_alone K T G F x y)
