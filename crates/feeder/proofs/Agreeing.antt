-- Two tables that agree on their buses, inverters and entries have the same feeders and the same drawings.
use Rattle.std.proofs.Common.{◌≡◌, ℕ, List, sym, ◌∙◌, subst, arith}
use Rattle.feeder.specs.declared.line.Line.{Line}
use Rattle.feeder.specs.declared.kind.Kind.{Kind}
use Rattle.feeder.specs.declared.kind.Kind.TheVariants.{Complete, Reduced}
use Rattle.feeder.specs.declared.map.Map.{Map}
use Rattle.feeder.specs.Table.{Table, Metered, Inverter, Yields, OfKind, SameButNumbers, LowestBelow, NoFeeder, Drawn}
use Rattle.feeder.specs.View.{lines_of, DrawnMap}

pub record Agree (S T : Table) : Type 0 where
  pub metered : S.metered ≡ T.metered
  pub has : (m : ℕ) → Metered S m → S.has m ≡ T.has m
  pub entries : (n m : ℕ) → Metered S n → Inverter S m → S.entry n m ≡ T.entry n m

module _ {S T : Table} (a : Agree S T) where
  pub metered_to : {n : ℕ} → Metered S n → Metered T n
  metered_to (p, q) = (p, omega (arith, a.metered))

  pub metered_from : {n : ℕ} → Metered T n → Metered S n
  metered_from (p, q) = (p, omega (arith, a.metered))

  pub inverter_to : {m : ℕ} → Inverter S m → Inverter T m
  inverter_to {m} (p, h) = (metered_to p, sym (a.has m p) ∙ h)

  pub inverter_from : {m : ℕ} → Inverter T m → Inverter S m
  inverter_from {m} (p, h) = (metered_from p, a.has m (metered_from p) ∙ h)

pub agree_back : {S T : Table} → Agree S T → Agree T S
agree_back a =
    record {
      metered = sym a.metered;
      has = λ m p. sym (a.has m (metered_from a p));
      entries = λ n m p q. sym (a.entries n m (metered_from a p) (inverter_from a q));
    }

pub yields_to : {S T : Table} → Agree S T → (F : List Line) → Yields S F → Yields T F
yields_to a F y =
    record {
      feeder = y.feeder;
      metered = omega (arith, a.metered, y.metered);
      responses = λ n m p q. sym (a.entries n m (metered_from a p) (inverter_from a q)) ∙ y.responses n m (metered_from a p) (inverter_from a q);
    }

pub kind_to : (K : Kind) {S T : Table} → Agree S T → (F : List Line) → OfKind K S F → OfKind K T F
kind_to Complete a F (count, ends) = (count ∙ a.metered, λ b e. inverter_to a (ends b e))
kind_to Reduced a F (count, each, ends) = (omega (arith, a.metered), λ n p. inverter_to a (each n (metered_from a p)), λ b e. inverter_to a (ends b e))

pub nowhere_to : (K : Kind) {S T : Table} → Agree S T → NoFeeder K S → NoFeeder K T
nowhere_to K a none F k y = none F (kind_to K (agree_back a) F k) (yields_to (agree_back a) F y)

lowest_back : {S T : Table} → Agree S T → (G : List Line) {b m : ℕ} → LowestBelow T G b m → LowestBelow S G b m
lowest_back a G l = record { inverter = inverter_from a l.inverter; below = l.below; lowest = λ k i o. l.lowest k (inverter_to a i) o }

pub drawn_to : (K : Kind) {S T : Table} → Agree S T → (G : List Line) → Drawn K S G → Drawn K T G
drawn_to K {S} {T} a G g =
    record {
      kind = kind_to K a G g.kind;
      yields = yields_to a G g.yields;
      fewest = λ F k y. g.fewest F (kind_to K (agree_back a) F k) (yields_to (agree_back a) F y);
      alone = λ F k y e. subst (λ (n : ℕ). SameButNumbers n G F) a.metered (g.alone F (kind_to K (agree_back a) F k) (yields_to (agree_back a) F y) e);
      numbered = λ c b i j p q r s t. g.numbered c b i j (omega (arith, a.metered)) q r (lowest_back a G s) (lowest_back a G t);
    }

pub drawn_map_to : (K : Kind) {S T : Table} → Agree S T → (m : Map) → DrawnMap K S m → DrawnMap K T m
drawn_map_to K a m (count, g) = (count ∙ a.metered, drawn_to K a (lines_of m) g)
