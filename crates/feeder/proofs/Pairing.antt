-- What a pairing of two feeders that differ only in the numbers of unmetered buses keeps: ways, distances, inverters below.
use Rattle.std.proofs.Common.{◌≡◌, ℕ, ◌<◌, ◌≤◌, List, length, sym, ap, ◌∙◌, subst, ⊎_elim, arith}
use Rattle.std.proofs.lemmas.Bool.{cases_lt}
use Rattle.feeder.specs.declared.line.Line.{Line}
use Rattle.feeder.specs.Way.{On, here, above}
use Rattle.feeder.specs.Feeder.{Feeder, Bus, OnWay, parent_of, distance}
use Rattle.feeder.specs.Table.{Table, Inverter, Pairs, LowestBelow}
use Rattle.feeder.proofs.Ways.{on_below, on_step, climbing}
use Rattle.feeder.proofs.Feeders.{is_way}
use Rattle.feeder.proofs.Laws.{distance_top, distance_up}

module _ (N : ℕ) (G F : List Line) (f : ℕ → ℕ) (P : Pairs N G F f) (g : Feeder G) (h : Feeder F) where
  -- a bus that lies on a way is paired with one that lies on the paired way, and back
  pub on_kept : {c b : ℕ} → OnWay G c b → b ≤ length G → OnWay F (f c) (f b)
  on_kept (here k) l = here (P.buses _ (k, l)).0
  on_kept {c} (above {b = b} k o) l = above (P.buses b (k, l)).0 (subst (λ t. On (parent_of F) (f c) t) (sym (P.parents b (k, l))) (on_kept o (g.parents b (k, l))))

  pub on_back : (c b : ℕ) → Bus G c → b ≤ length G → OnWay F (f c) (f b) → OnWay G c b
  on_back c b bus = climbing (is_way G g) (λ b. b ≤ length G → OnWay F (f c) (f b) → OnWay G c b) base step b
    where
      base : 0 ≤ length G → OnWay F (f c) (f 0) → OnWay G c 0
      base l o = absurd (omega (arith, on_below o, P.substation))

      step : (b : ℕ) → 0 < b → (parent_of G b ≤ length G → OnWay F (f c) (f (parent_of G b)) → OnWay G c (parent_of G b)) → b ≤ length G → OnWay F (f c) (f b) → OnWay G c b
      step b k ih l o = ⊎_elim (λ e. subst (λ t. OnWay G c t) (P.apart c b bus (k, l) e) (here bus.0)) (λ u. above k (ih (g.parents b (k, l)) (subst (λ t. On (parent_of F) (f c) t) (P.parents b (k, l)) u))) (on_step o)

  pub distance_kept : (b : ℕ) → b ≤ length G → distance F (f b) ≡ distance G b
  distance_kept = climbing (is_way G g) (λ b. b ≤ length G → distance F (f b) ≡ distance G b) (λ l. ap (distance F) P.substation ∙ distance_top F h ∙ sym (distance_top G g)) (λ b k ih l. omega (arith, ih (g.parents b (k, l)), distance_up G g b k, distance_up F h (f b) (P.buses b (k, l)).0, P.resistances b (k, l), ap (distance F) (P.parents b (k, l))))

  -- unmetered buses are paired with unmetered ones
  pub unmetered_kept : N ≤ length G → (b : ℕ) → N < b → b ≤ length G → N < f b
  unmetered_kept most b k l = ⊎_elim (λ u. u) (λ u. absurd (omega (arith, same u))) (cases_lt N (f b))
    where
      bus : Bus G b
      bus = (omega arith, l)

      same : f b ≤ N → f b ≡ b
      same u = P.apart (f b) b ((P.buses b bus).0, omega arith) bus (P.meters (f b) (P.buses b bus).0 u)

  pub lowest_kept : (T : Table) → T.metered ≡ N → N ≤ length G → (b i : ℕ) → Bus G b → LowestBelow T G b i → LowestBelow T F (f b) i
  lowest_kept T e most b i bus L = record { inverter = L.inverter; below = subst (OnWay F (f b)) (still i L.inverter) (on_kept L.below (small i L.inverter)); lowest = λ k u o. L.lowest k u (on_back b k bus (small k u) (subst (OnWay F (f b)) (sym (still k u)) o)) }
    where
      still : (k : ℕ) → Inverter T k → f k ≡ k
      still k u = P.meters k u.0.0 (omega (arith, u.0.1))

      small : (k : ℕ) → Inverter T k → k ≤ length G
      small k u = omega (arith, u.0.1)
