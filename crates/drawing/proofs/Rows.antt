-- The best seat of a row so far, and the seats of the first metered buses.
use Rattle.std.proofs.Common.{◌≡◌, ℕ, ◌<◌, ◌≤◌, ◌⊎◌, List, length, get_or}
use Rattle.drawing.specs.declared.seat.Seat.{Seat}
use Rattle.drawing.specs.Seats.{Entries, Inverter}
use Rattle.drawing.specs.Places.{start, SeatsRow}

-- the best seat of bus n's row among the inverters below i
pub record BestTo (E : Entries) (n i : ℕ) (s : Seat) : Type 0 where
  pub reached : (s.distance ≡ 0) ⊎ (Inverter E s.inverter × (E.entry n s.inverter ≡ s.distance))
  pub most : (m : ℕ) → Inverter E m → m < i → E.entry n m ≤ s.distance
  pub lowest : (m : ℕ) → Inverter E m → m < s.inverter → E.entry n m < s.distance
  pub below : s.inverter < i

-- the metered buses below i sit in their places
pub record SeatedTo (E : Entries) (i : ℕ) (s : List Seat) : Type 0 where
  pub places : length s ≡ i
  pub substation : get_or s 0 start ≡ start
  pub rows : (n : ℕ) → 0 < n → n < i → SeatsRow E n (get_or s n start)
