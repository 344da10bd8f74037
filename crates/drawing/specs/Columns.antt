-- Columns as a table.
use Rattle.std.specs.Prelude.{ℕ, ◌-◌, ◌≤◌, ◌⊎◌, [], ℤ, pos, ◌<ℤ◌, None, is_some, unwrap_or, slice_index_or}
use Rattle.feeder.specs.Table.{Table, Metered, Inverter}
use Rattle.drawing.specs.declared.columns.Columns.{Columns}

-- inverter m's column is at place m - 1, where bus m has an inverter; bus n's entry is at place n - 1 of the column
unfoldable pub table_of : Columns → Table
table_of c = record { metered = c.buses; has = λ m. is_some (slice_index_or c.columns (m - 1) None); entry = λ n m. slice_index_or (unwrap_or (slice_index_or c.columns (m - 1) None) []) (n - 1) (pos 0) }

-- no feeder has such a response, or it is farther than a map reaches
abbrev pub Wrong : ℤ → Type 0
Wrong z = (z <ℤ pos 0) ⊎ (pos 1000000 <ℤ z)

-- what maps have room for: at most 64 metered buses, and no response larger than 1,000,000
pub record Within (T : Table) : Type 0 where
  pub few : T.metered ≤ 64
  pub near : (n m : ℕ) → Metered T n → Inverter T m → pos 1000000 <ℤ T.entry n m → ⊥
