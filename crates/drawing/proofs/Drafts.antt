-- Drafts of a drawing over any quantity that can be compared: where its buses sit, and what the comparisons must say of a feeder.
use Rattle.std.proofs.Common.{◌≡◌, ℕ, ◌<◌, ◌≤◌, ◌⊎◌, List}
use Rattle.feeder.specs.Way.{Way, On}
use Rattle.feeder.proofs.Ways.{Meet}

-- c is the substation or lies on the way of b
abbrev pub Up : (ℕ → ℕ) → ℕ → ℕ → Type 0
Up p c b = (c ≡ 0) ⊎ On p c b

-- and is not b
abbrev pub Strictly : (ℕ → ℕ) → ℕ → ℕ → Type 0
Strictly p c b = Up p c b × (c ≡ b → ⊥)

-- a feeder of the buses 1 to B by its parents: the first N are metered, and each bus has an inverter at or below it
pub record Tree (p : ℕ → ℕ) (way : ℕ → List ℕ) (B N : ℕ) (Inv : ℕ → Type 0) : Type 0 where
  pub ways : (b : ℕ) → Way p b (way b)
  pub parents : (b : ℕ) → 0 < b → p b ≤ B
  pub metered : N ≤ B
  pub inverters : (m : ℕ) → Inv m → (0 < m) × (m ≤ N)
  pub decided : (m : ℕ) → Inv m ⊎ (Inv m → ⊥)
  pub below : (b : ℕ) → 0 < b → b ≤ B → (i : ℕ) × Inv i × On p b i

-- a quantity is a reading of the distance of a bus: the entries read meets, and for two buses of one way the comparisons of their readings say the order along it
pub record Faithful {p : ℕ → ℕ} {way : ℕ → List ℕ} {B N : ℕ} {Inv : ℕ → Type 0} (tree : Tree p way B N Inv) {Q : Type 0} (Reads : Q → ℕ → Type 0) (Nearer Within : Q → Q → Type 0) (start : Q) (entry : ℕ → ℕ → Q) : Type 0 where
  pub starts : Reads start 0
  pub entries : (n m q : ℕ) → 0 < n → n ≤ N → Inv m → Meet tree.ways n m q → Reads (entry n m) q
  pub within_up : (b : ℕ) {c d : ℕ} {x y : Q} → b ≤ B → Up p c b → Up p d b → Reads x c → Reads y d → Within x y → Up p c d
  pub up_within : (b : ℕ) {c d : ℕ} {x y : Q} → b ≤ B → Up p c b → Up p d b → Reads x c → Reads y d → Up p c d → Within x y
  pub nearer_up : (b : ℕ) {c d : ℕ} {x y : Q} → b ≤ B → Up p c b → Up p d b → Reads x c → Reads y d → Nearer x y → Strictly p c d
  pub up_nearer : (b : ℕ) {c d : ℕ} {x y : Q} → b ≤ B → Up p c b → Up p d b → Reads x c → Reads y d → Strictly p c d → Nearer x y

module _ {Q : Type 0} (Nearer Within : Q → Q → Type 0) (start : Q) (N : ℕ) (Inv : ℕ → Type 0) (entry : ℕ → ℕ → Q) (seat : ℕ → ℕ) (far : ℕ → Q) where
  -- the comparisons do not tell x from y
  abbrev pub Same : Q → Q → Type 0
  Same x y = Within x y × Within y x

  -- v is where the way of inverter m is left by another inverter's, beyond those of lower inverters, before m, and no metered bus sits there
  pub record Branch (m : ℕ) (v : Q) : Type 0 where
    pub inverter : Inv m
    pub other : (k : ℕ) × Inv k × (entry k m ≡ v)
    pub positive : Nearer start v
    pub floor : (k : ℕ) → Inv k → k < m → Nearer (entry k m) v
    pub below : Nearer v (entry m m)
    pub free : (n : ℕ) → 0 < n → n ≤ N → Same (entry n m) v → Same (far n) v → ⊥

  -- the seats of the buses 1 to last: of the metered ones by their rows, of the others at branches in order
  pub record Draft (last : ℕ) : Type 0 where
    pub metered : N ≤ last
    pub inverter : (n : ℕ) → 0 < n → n ≤ N → Inv (seat n)
    pub reached : (n : ℕ) → 0 < n → n ≤ N → entry n (seat n) ≡ far n
    pub most : (n m : ℕ) → 0 < n → n ≤ N → Inv m → Within (entry n m) (far n)
    pub branches : (x : ℕ) → N < x → x ≤ last → Branch (seat x) (far x)
    pub order : (x y : ℕ) → N < x → x < y → y ≤ last → (seat x < seat y) ⊎ ((seat x ≡ seat y) × Nearer (far x) (far y))

  -- at every branch sits an unmetered bus
  abbrev pub Whole : ℕ → Type 0
  Whole last = (m : ℕ) (v : Q) → Branch m v → (x : ℕ) × (N < x) × (x ≤ last) × (seat x ≡ m) × Same (far x) v

  -- bus y sits above bus x
  abbrev pub Above : ℕ → ℕ → ℕ → Type 0
  Above last y x = (0 < y) × (y ≤ last) × Nearer (far y) (far x) × Within (far y) (entry (seat y) (seat x))

  -- each bus's parent is a farthest bus above it, or the substation where there is none
  pub record Wired (last : ℕ) (parent : ℕ → ℕ) : Type 0 where
    pub parents : (x : ℕ) → 0 < x → x ≤ last → (parent x ≡ 0) ⊎ Above last (parent x) x
    pub nearest : (x y : ℕ) → 0 < x → x ≤ last → Above last y x → (0 < parent x) × Within (far y) (far (parent x))
