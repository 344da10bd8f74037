-- The feeders that yield a table without negative entries, and the table that it stands for.
use Rattle.std.specs.Prelude.{◌≡◌, ℕ, ◌≤◌, List, length, pos}
use Rattle.feeder.specs.declared.line.Line.{Line}
use Rattle.feeder.specs.Feeder.{Feeder, End, response}
use Rattle.feeder.specs.Table.{Table}
use Rattle.drawing.specs.Seats.{Entries, Meter, Inverter}

-- each metered bus of F has the table's response to each inverter, and every end has an inverter
pub record Yielded (T : Entries) (F : List Line) : Type 0 where
  pub feeder : Feeder F
  pub metered : T.metered ≤ length F
  pub ends : (b : ℕ) → End F b → Inverter T b
  pub responses : (n m : ℕ) → Meter T n → Inverter T m → T.entry n m ≡ response F n m

-- the table S has T's buses, inverters and entries
pub record Natural (S : Table) (T : Entries) : Type 0 where
  pub metered : S.metered ≡ T.metered
  pub has : (n : ℕ) → Meter T n → S.has n ≡ T.has n
  pub entries : (n m : ℕ) → Meter T n → Inverter T m → S.entry n m ≡ pos (T.entry n m)
