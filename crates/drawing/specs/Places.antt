-- The seats of buses in places: bus b's at place b.
use Rattle.std.specs.Prelude.{◌≡◌, ℕ, ◌+◌, ◌<◌, ◌≤◌, ◌⊎◌, List, length, ◌≢◌, slice_index_or}
use Rattle.drawing.specs.declared.seat.Seat.{Seat}
use Rattle.drawing.specs.Seats.{Entries, Meter, Inverter, Metering, Branch}

-- the seat of the substation
abbrev pub start : Seat
start = record { inverter = 0; distance = 0 }

-- the inverter on whose way bus b sits
abbrev pub seat_of : List Seat → ℕ → ℕ
seat_of s b = (slice_index_or s b start).inverter

-- the distance at which bus b sits
abbrev pub far_of : List Seat → ℕ → ℕ
far_of s b = (slice_index_or s b start).distance

-- bus n responds to no inverter
abbrev pub EmptyRow : Entries → ℕ → Type 0
EmptyRow E n = (m : ℕ) → Inverter E m → E.entry n m ≡ 0

-- the seat has the largest entry of bus n's row, at the lowest inverter that has it
pub record SeatsRow (E : Entries) (n : ℕ) (s : Seat) : Type 0 where
  pub inverter : Inverter E s.inverter
  pub reached : E.entry n s.inverter ≡ s.distance
  pub most : (m : ℕ) → Inverter E m → E.entry n m ≤ s.distance
  pub positive : 0 < s.distance
  pub lowest : (m : ℕ) → Inverter E m → m < s.inverter → E.entry n m < s.distance

-- the substation and the metered buses sit in their places
pub record MeteredSeats (E : Entries) (s : List Seat) : Type 0 where
  pub places : length s ≡ E.metered + 1
  pub substation : far_of s 0 ≡ 0
  pub metering : Metering E (seat_of s) (far_of s)

-- no metered bus sits at the distance v on inverter m's way
abbrev pub Free : Entries → List Seat → ℕ → ℕ → Type 0
Free E s m v = (n : ℕ) → Meter E n → E.entry n m ≡ v → far_of s n ≢ v

-- v is how far inverter m's way goes with those of lower inverters
pub record FloorOf (E : Entries) (m v : ℕ) : Type 0 where
  pub most : (k : ℕ) → Inverter E k → k < m → E.entry k m ≤ v
  pub reached : (v ≡ 0) ⊎ ((k : ℕ) × Inverter E k × (k < m) × (E.entry k m ≡ v))

-- a branch at the distance v on inverter m's way
abbrev pub BranchAt : Entries → List Seat → ℕ → ℕ → Type 0
BranchAt E s m v = Branch E (seat_of s) (far_of s) m v

-- v is the nearest branch on inverter m's way that is farther than another distance
pub record BranchAfter (E : Entries) (s : List Seat) (m above v : ℕ) : Type 0 where
  pub farther : above < v
  pub branch : BranchAt E s m v
  pub nearest : (u : ℕ) → above < u → BranchAt E s m u → v ≤ u

-- the distance v on inverter m's way comes behind a seat
abbrev pub Later : Seat → ℕ → ℕ → Type 0
Later s m v = (s.inverter < m) ⊎ ((s.inverter ≡ m) × (s.distance < v))

-- no branch comes behind the seat
abbrev pub NoSeatAfter : Entries → List Seat → Seat → Type 0
NoSeatAfter E s last = (m v : ℕ) → BranchAt E s m v → Later last m v → ⊥

-- the seat is at the first branch on inverter m's way that comes behind another
pub record SeatOn (E : Entries) (s : List Seat) (last : Seat) (m : ℕ) (next : Seat) : Type 0 where
  pub inverter : next.inverter ≡ m
  pub later : Later last m next.distance
  pub branch : BranchAt E s m next.distance
  pub first : (v : ℕ) → BranchAt E s m v → Later last m v → next.distance ≤ v

-- the first branch behind a seat
pub record SeatAfter (E : Entries) (s : List Seat) (last next : Seat) : Type 0 where
  pub later : Later last next.inverter next.distance
  pub branch : BranchAt E s next.inverter next.distance
  pub first : (m v : ℕ) → BranchAt E s m v → Later last m v → Later next m v ⊎ ((next.inverter ≡ m) × (next.distance ≡ v))
