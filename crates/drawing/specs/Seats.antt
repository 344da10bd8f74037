-- Where the buses of a drawing sit. A seat is a distance on the way of an inverter.
use Rattle.std.specs.Prelude.{◌≡◌, ℕ, ◌+◌, ◌<◌, ◌≤◌, Bool, true, ◌⊎◌, List, length, ◌≢◌}
use Rattle.feeder.specs.declared.line.Line.{Line}
use Rattle.feeder.specs.Feeder.{Bus, parent_of, resistance_of}

-- a table without negative entries: the buses 1 to metered, which of them have inverters, and the entry of bus n in inverter m's column
pub record Entries : Type 0 where
  pub metered : ℕ
  pub has : ℕ → Bool
  pub entry : ℕ → ℕ → ℕ

abbrev pub Meter : Entries → ℕ → Type 0
Meter T n = (0 < n) × (n ≤ T.metered)

abbrev pub Inverter : Entries → ℕ → Type 0
Inverter T m = Meter T m × (T.has m ≡ true)

module _ (T : Entries) (seat far : ℕ → ℕ) where
  -- a metered bus sits at the largest entry of its row, on the way of an inverter that has it
  pub record Metering : Type 0 where
    pub inverter : (n : ℕ) → Meter T n → Inverter T (seat n)
    pub reached : (n : ℕ) → Meter T n → T.entry n (seat n) ≡ far n
    pub most : (n m : ℕ) → Meter T n → Inverter T m → T.entry n m ≤ far n
    pub positive : (n : ℕ) → Meter T n → 0 < far n

  -- v is an entry of inverter m's column in the row of an inverter, farther than where m's way leaves those of lower inverters, and nearer than m
  pub record Branch (m v : ℕ) : Type 0 where
    pub inverter : Inverter T m
    pub other : (k : ℕ) × Inverter T k × (T.entry k m ≡ v)
    pub positive : 0 < v
    pub floor : (k : ℕ) → Inverter T k → k < m → T.entry k m < v
    pub below : v < T.entry m m
    pub free : (n : ℕ) → Meter T n → T.entry n m ≡ v → far n ≢ v

  -- the unmetered buses up to the last one sit at branches, by inverter and then by distance
  pub record Listing (last : ℕ) : Type 0 where
    pub metered : T.metered ≤ last
    pub branches : (x : ℕ) → T.metered < x → x ≤ last → Branch (seat x) (far x)
    pub order : (x y : ℕ) → T.metered < x → x < y → y ≤ last → (seat x < seat y) ⊎ ((seat x ≡ seat y) × (far x < far y))

  -- every branch is the seat of an unmetered bus
  abbrev pub Whole : ℕ → Type 0
  Whole last = (m v : ℕ) → Branch m v → (x : ℕ) × (T.metered < x) × (x ≤ last) × (seat x ≡ m) × (far x ≡ v)

  -- bus y sits above bus x
  abbrev pub Above : ℕ → ℕ → ℕ → Type 0
  Above last y x = (0 < y) × (y ≤ last) × (far y < far x) × (far y ≤ T.entry (seat y) (seat x))

  -- the lines of a drawing: each bus's parent is the farthest bus above it or else the substation, and resistances are differences of distances
  pub record Wiring (G : List Line) : Type 0 where
    pub substation : far 0 ≡ 0
    pub parents : (x : ℕ) → Bus G x → (parent_of G x ≡ 0) ⊎ Above (length G) (parent_of G x) x
    pub nearest : (x y : ℕ) → Bus G x → Above (length G) y x → far y ≤ far (parent_of G x)
    pub resistances : (x : ℕ) → Bus G x → resistance_of G x + far (parent_of G x) ≡ far x
