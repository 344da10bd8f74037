-- Columns that are copied from a campaign.
use Rattle.std.specs.Prelude.{◌≡◌, ℕ, ◌-◌, ◌≤◌, true, [], pos, None, is_some, unwrap_or, slice_index_or}
use Rattle.campaign.specs.declared.state.Campaign.{Campaign}
use Rattle.campaign.specs.Columns.{has_inverter, present, entry}
use Rattle.drawing.specs.declared.columns.Columns.{Columns}

-- the columns have the campaign's buses and inverters, and the entries of each inverter's column that is present
pub record Copy (c : Campaign) (columns : Columns) : Type 0 where
  pub buses : columns.buses ≡ c.buses
  pub has : (m : ℕ) → 1 ≤ m → m ≤ 64 → is_some (slice_index_or columns.columns (m - 1) None) ≡ has_inverter c m
  pub entries : (n m : ℕ) → 1 ≤ n → n ≤ 64 → 1 ≤ m → m ≤ 64 → has_inverter c m ≡ true → present c m ≡ true → slice_index_or (unwrap_or (slice_index_or columns.columns (m - 1) None) []) (n - 1) (pos 0) ≡ entry c n m
