-- Responses without signs, next to the table that they were read from.
use Rattle.std.specs.Prelude.{◌≡◌, ℕ, ◌-◌, ◌<◌, ◌≤◌, true, ◌⊎◌, List, [], length, ℤ, pos, Option, None, is_some, unwrap_or, slice_index, slice_index_or}
use Rattle.feeder.specs.Table.{Table, Metered, Inverter}
use Rattle.drawing.specs.declared.columns.Columns.{Columns}
use Rattle.drawing.specs.declared.responses.Responses.{Responses}
use Rattle.drawing.specs.Seats as Seats
use Rattle.drawing.specs.Seats.{Entries, Meter}
use Rattle.drawing.specs.Yielded.{Natural}
use Rattle.drawing.specs.Columns.{Wrong}

-- the responses as a table, by the same places as the columns
unfoldable pub entries_of : Responses → Entries
entries_of r = record { metered = r.buses; has = λ m. is_some (slice_index_or r.columns (m - 1) None); entry = λ n m. slice_index (unwrap_or (slice_index_or r.columns (m - 1) None) []) (n - 1) }

-- no entry is larger than 1,000,000
abbrev pub Near : Entries → Type 0
Near E = (n m : ℕ) → Meter E n → Seats.Inverter E m → E.entry n m ≤ 1000000

-- the responses of a table: some bus, and its entries, none of them too large
pub record Reads (T : Table) (E : Entries) : Type 0 where
  pub natural : Natural T E
  pub some : 0 < E.metered
  pub few : E.metered ≤ 64
  pub near : Near E

-- a column is none where the other is, and its first entries are read
abbrev pub Read : ℕ → Option (List ℤ) → Option (List ℕ) → Type 0
Read buses c u = (is_some u ≡ is_some c) × (is_some c ≡ true → (n : ℕ) → n < buses → (slice_index_or (unwrap_or c []) n (pos 0) ≡ pos (slice_index (unwrap_or u []) n)) × (slice_index (unwrap_or u []) n ≤ 1000000))

-- the columns of the inverters at the first places are read
abbrev pub ReadTo : Columns → ℕ → List (Option (List ℕ)) → Type 0
ReadTo c i u = (length u ≡ 64) × ((k : ℕ) → k < i → Read c.buses (slice_index_or c.columns k None) (slice_index_or u k None))

-- an inverter's column has a negative entry, or one that is too large
abbrev pub WrongEntry : Columns → Type 0
WrongEntry c = (k : ℕ) × (n : ℕ) × (k < c.buses) × (n < c.buses) × (is_some (slice_index_or c.columns k None) ≡ true) × Wrong (slice_index_or (unwrap_or (slice_index_or c.columns k None) []) n (pos 0))

-- there is no bus or there are too many, or an entry is negative or too large
abbrev pub WrongColumns : Table → Type 0
WrongColumns T = (T.metered ≡ 0) ⊎ ((64 < T.metered) ⊎ ((n : ℕ) × (m : ℕ) × Metered T n × Inverter T m × Wrong (T.entry n m)))
