-- The seats of all buses of a drawing.
use Rattle.std.specs.Prelude.{◌≡◌, ℕ, ◌+◌, ◌-◌, ◌<◌, ◌≤◌, ◌⊎◌, List, length, slice_index_or}
use Rattle.feeder.specs.declared.line.Line.{Line}
use Rattle.feeder.specs.Feeder.{blank}
use Rattle.feeder.specs.declared.map.Map.{Map}
use Rattle.feeder.specs.View.{lines_of, metered_of}
use Rattle.drawing.specs.declared.seat.Seat.{Seat}
use Rattle.drawing.specs.Seats.{Entries, Metering, Listing, Whole, Above, Wiring, Meter}
use Rattle.drawing.specs.Places.{seat_of, far_of, EmptyRow}

-- the last bus that sits in its place, behind the substation at place 0
abbrev pub last_of : List Seat → ℕ
last_of s = length s - 1

-- every bus sits in its place: the metered ones, and an unmetered one at each branch
pub record Seated (E : Entries) (s : List Seat) : Type 0 where
  pub places : 0 < length s
  pub few : last_of s ≤ 127
  pub substation : far_of s 0 ≡ 0
  pub metering : Metering E (seat_of s) (far_of s)
  pub listing : Listing E (seat_of s) (far_of s) (last_of s)
  pub whole : Whole E (seat_of s) (far_of s) (last_of s)

-- more unmetered buses sit at branches than any feeder of 64 metered buses has
abbrev pub Overseated : Entries → Type 0
Overseated E = (E.metered ≤ 64) × ((seat : ℕ → ℕ) × (far : ℕ → ℕ) × Metering E seat far × Listing E seat far (E.metered + 64))

-- a metered bus responds to no inverter, or there are too many branches
abbrev pub Unseated : Entries → Type 0
Unseated E = ((n : ℕ) × Meter E n × EmptyRow E n) ⊎ Overseated E

-- bus y sits above bus x
abbrev pub SitsAbove : Entries → List Seat → ℕ → ℕ → Type 0
SitsAbove E s y x = Above E (seat_of s) (far_of s) (last_of s) y x

-- p is the farthest bus above bus x, or the substation where no bus is above
pub record ParentSeat (E : Entries) (s : List Seat) (x p : ℕ) : Type 0 where
  pub above : (p ≡ 0) ⊎ SitsAbove E s p x
  pub nearest : (y : ℕ) → SitsAbove E s y x → far_of s y ≤ far_of s p

-- the line of bus x: to its parent, with the difference of their distances
pub record SeatedLine (E : Entries) (s : List Seat) (x : ℕ) (l : Line) : Type 0 where
  pub parent : ParentSeat E s x l.parent
  pub resistance : l.resistance + far_of s l.parent ≡ far_of s x

-- the lines of all buses
pub record Wires (E : Entries) (s : List Seat) (lines : List Line) : Type 0 where
  pub places : length lines ≡ last_of s
  pub each : (x : ℕ) → 0 < x → x ≤ last_of s → SeatedLine E s x (slice_index_or lines (x - 1) blank)

-- the lines of a map are those of the seats
pub record MapSeated (E : Entries) (s : List Seat) (m : Map) : Type 0 where
  pub metered : metered_of m ≡ E.metered
  pub count : length (lines_of m) ≡ last_of s
  pub wiring : Wiring E (seat_of s) (far_of s) (lines_of m)
