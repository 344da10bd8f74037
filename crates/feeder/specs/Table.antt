-- Tables of responses, the feeders of a kind that yield one, and what a drawing of a table may answer.
use Rattle.std.specs.Prelude.{◌≡◌, ℕ, ◌<◌, ◌≤◌, Bool, true, ◌⊎◌, List, length, ℤ, pos, Some, None, Option}
use Rattle.feeder.specs.declared.line.Line.{Line}
use Rattle.feeder.specs.declared.kind.Kind.{Kind}
use Rattle.feeder.specs.declared.kind.Kind.TheVariants.{Complete, Reduced}
use Rattle.feeder.specs.Feeder.{Feeder, Bus, End, OnWay, parent_of, resistance_of, distance, response}

-- a table of columns: the buses 1 to metered, which of them have inverters, and the entry of bus n in inverter m's column
pub record Table : Type 0 where
  pub metered : ℕ
  pub has : ℕ → Bool
  pub entry : ℕ → ℕ → ℤ

-- a bus of the table
abbrev pub Metered : Table → ℕ → Type 0
Metered T n = (0 < n) × (n ≤ T.metered)

-- a bus of the table that has an inverter
abbrev pub Inverter : Table → ℕ → Type 0
Inverter T m = Metered T m × (T.has m ≡ true)

-- a feeder yields a table: each metered bus has the table's response to each inverter
pub record Yields (T : Table) (F : List Line) : Type 0 where
  pub feeder : Feeder F
  pub metered : T.metered ≤ length F
  pub responses : (n m : ℕ) → Metered T n → Inverter T m → T.entry n m ≡ pos (response F n m)

-- every end has an inverter, so an unmetered bus is no end
abbrev pub EndsHaveInverters : Table → List Line → Type 0
EndsHaveInverters T F = (b : ℕ) → End F b → Inverter T b

-- complete: metered buses only; reduced: any number of unmetered ones besides, and an inverter at every metered bus
abbrev pub OfKind : Kind → Table → List Line → Type 0
OfKind Complete T F = (length F ≡ T.metered) × EndsHaveInverters T F
OfKind Reduced T F = (T.metered ≤ length F) × ((n : ℕ) → Metered T n → Inverter T n) × EndsHaveInverters T F

-- f pairs the buses of G one to one with those of F, keeps parents and resistances, and leaves the substation and the metered buses
pub record Pairs (metered : ℕ) (G F : List Line) (f : ℕ → ℕ) : Type 0 where
  pub substation : f 0 ≡ 0
  pub meters : (n : ℕ) → 0 < n → n ≤ metered → f n ≡ n
  pub buses : (b : ℕ) → Bus G b → Bus F (f b)
  pub apart : (b c : ℕ) → Bus G b → Bus G c → f b ≡ f c → b ≡ c
  pub onto : (c : ℕ) → Bus F c → (b : ℕ) × Bus G b × (f b ≡ c)
  pub parents : (b : ℕ) → Bus G b → parent_of F (f b) ≡ f (parent_of G b)
  pub resistances : (b : ℕ) → Bus G b → resistance_of F (f b) ≡ resistance_of G b

-- two feeders differ only in the numbers of unmetered buses
abbrev pub SameButNumbers : ℕ → List Line → List Line → Type 0
SameButNumbers metered G F = (f : ℕ → ℕ) × Pairs metered G F f

-- m is the lowest inverter that is at or below bus b
pub record LowestBelow (T : Table) (F : List Line) (b m : ℕ) : Type 0 where
  pub inverter : Inverter T m
  pub below : OnWay F b m
  pub lowest : (k : ℕ) → Inverter T k → OnWay F b k → m ≤ k

-- unmetered buses are numbered from metered + 1: first by the lowest inverter below, then by the smaller distance
abbrev pub Numbered : Table → List Line → Type 0
Numbered T F = (a b i j : ℕ) → T.metered < a → a < b → b ≤ length F → LowestBelow T F a i → LowestBelow T F b j → (i < j) ⊎ ((i ≡ j) × (distance F a < distance F b))

-- no feeder of the kind yields the table
abbrev pub NoFeeder : Kind → Table → Type 0
NoFeeder K T = (F : List Line) → OfKind K T F → Yields T F → ⊥

-- G is drawn from the table: of the kind, yields it, has the fewest buses, is alone but for unmetered numbers, and is numbered
pub record Drawn (K : Kind) (T : Table) (G : List Line) : Type 0 where
  pub kind : OfKind K T G
  pub yields : Yields T G
  pub fewest : (F : List Line) → OfKind K T F → Yields T F → length G ≤ length F
  pub alone : (F : List Line) → OfKind K T F → Yields T F → length F ≡ length G → SameButNumbers T.metered G F
  pub numbered : Numbered T G

-- what a drawing may answer: no feeder, where there is none, or a drawn one
abbrev pub Answers : Kind → Table → Option (List Line) → Type 0
Answers K T None = NoFeeder K T
Answers K T (Some G) = Drawn K T G

-- a table has one answer of a kind
abbrev pub AnswersAreAlone : Type 0
AnswersAreAlone = (K : Kind) (T : Table) (a b : Option (List Line)) → Answers K T a → Answers K T b → a ≡ b

-- a drawn complete feeder is the only complete one that yields the table
abbrev pub CompleteFeedersAreAlone : Type 0
CompleteFeedersAreAlone = (T : Table) (G F : List Line) → Drawn Complete T G → OfKind Complete T F → Yields T F → G ≡ F
