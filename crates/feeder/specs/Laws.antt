-- The laws of ways, distances and responses, for every feeder.
use Rattle.std.specs.Prelude.{◌≡◌, ℕ, ◌+◌, ◌<◌, ◌≤◌, true, ◌⊎◌, List, length}
use Rattle.feeder.specs.declared.line.Line.{Line}
use Rattle.feeder.specs.Way.{Way, is_in, shared, NoRepeats}
use Rattle.feeder.specs.Feeder.{Feeder, Bus, OnWay, parent_of, resistance_of, way, distance, response}
use Rattle.feeder.specs.Table.{Table, Inverter, EndsHaveInverters}

-- the list that is found by climbing is the bus's way
abbrev pub WaysAreClimbed : Type 0
WaysAreClimbed = (F : List Line) → Feeder F → (b : ℕ) → Way (parent_of F) b (way F b)

-- no bus stands twice on a way
abbrev pub WaysHaveNoRepeats : Type 0
WaysHaveNoRepeats = (F : List Line) → Feeder F → (b : ℕ) → NoRepeats (way F b)

-- the substation is at distance 0, and every bus lies one resistance beyond its parent
abbrev pub DistancesAddUp : Type 0
DistancesAddUp = (F : List Line) → Feeder F → (distance F 0 ≡ 0) × ((b : ℕ) → Bus F b → distance F b ≡ resistance_of F b + distance F (parent_of F b))

-- the common part of two ways is the way of one bus, the meet, or of the substation; so a response is its distance
abbrev pub WaysMeet : Type 0
WaysMeet = (F : List Line) → Feeder F → (n m : ℕ) → (a : ℕ) × ((a ≡ 0) ⊎ (OnWay F a n × OnWay F a m)) × (shared (way F n) (way F m) ≡ way F a) × (response F n m ≡ distance F a)

-- a bus responds to another as that one to it
abbrev pub ResponsesAreSymmetric : Type 0
ResponsesAreSymmetric = (F : List Line) → Feeder F → (n m : ℕ) → response F n m ≡ response F m n

-- a response is at most the bus's distance, and equal to it exactly when the bus lies on the other's way
abbrev pub ResponsesAreAtMostDistances : Type 0
ResponsesAreAtMostDistances = (F : List Line) → Feeder F → (n m : ℕ) → Bus F n → (response F n m ≤ distance F n) × (response F n m ≡ distance F n → OnWay F n m) × (OnWay F n m → response F n m ≡ distance F n)

-- a bus c on n's way lies on m's way exactly when its distance is at most the response of n to m
abbrev pub ResponsesTellWays : Type 0
ResponsesTellWays = (F : List Line) → Feeder F → (c n m : ℕ) → OnWay F c n → (OnWay F c m → distance F c ≤ response F n m) × (distance F c ≤ response F n m → OnWay F c m)

-- where every end has an inverter, every bus has one at or below it
abbrev pub InvertersStandBelow : Type 0
InvertersStandBelow = (F : List Line) → Feeder F → (T : Table) → EndsHaveInverters T F → (b : ℕ) → Bus F b → (i : ℕ) × Bus F i × Inverter T i × OnWay F b i

-- the pigeonhole: a list without repeats of numbers 1 to B has at most B elements, and with B elements it has them all
abbrev pub Pigeonhole : Type 0
Pigeonhole = (B : ℕ) (xs : List ℕ) → NoRepeats xs → ((c : ℕ) → is_in xs c ≡ true → (0 < c) × (c ≤ B)) → (length xs ≤ B) × (length xs ≡ B → (c : ℕ) → 0 < c → c ≤ B → is_in xs c ≡ true)

-- so a way has at most as many buses as the feeder
abbrev pub WaysAreShort : Type 0
WaysAreShort = (F : List Line) → Feeder F → (b : ℕ) (w : List ℕ) → Way (parent_of F) b w → length w ≤ length F
