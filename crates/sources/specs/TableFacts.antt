-- The facts of a source that answers from a response table.
use Rattle.std.specs.Prelude.{◌≡◌, ℕ, ◌-◌, ◌≤◌, Bool, false, cond, ◌&&◌, List, [], ℤ, pos, is_some, slice_index_or}
use Rattle.files.specs.declared.table.Table.{Table}
use Rattle.files.specs.Tables.{probe_of, response_in, mute_of}
use Rattle.probing.specs.Facts.{Plant, Facts}
use Rattle.sources.specs.GridFacts.{within, idle}
use Rattle.sources.specs.LineFacts.{marked}

-- the buses with inverters are those that the table has a record for
abbrev pub probed : Table → ℕ → Bool
probed t m = within t.buses m && is_some (probe_of t m)

-- the response of bus n to inverter m, as the table has it
abbrev pub table_response : Table → ℕ → ℕ → ℤ
table_response t n m = cond (probed t m && within t.buses n) (response_in (probe_of t m) n) (pos 0)

-- a table's plant has its responses and mute meters, with standing voltages 0
abbrev pub table_plant : Table → Plant
table_plant t =
    record {
      buses = t.buses;
      inverter = probed t;
      response = table_response t;
      standing = λ _. pos 0;
      mute = mute_of t;
    }

-- a table means its plant, with every inverter on its schedule
abbrev pub table_facts : Table → Facts
table_facts t = idle (table_plant t)

-- these are the responses to an inverter at bus m, bus n at place n - 1
pub record AreResponsesTo (t : Table) (m : ℕ) (row : List ℤ) : Type 0 where
  pub each : (n : ℕ) → 1 ≤ n → n ≤ 64 → slice_index_or row (n - 1) (pos 0) ≡ response_in (probe_of t m) n

-- these are the responses of a table, those to the inverter at bus m in row m - 1
abbrev pub AreResponsesOf : Table → List (List ℤ) → Type 0
AreResponsesOf t rows = (m : ℕ) → 1 ≤ m → m ≤ 64 → AreResponsesTo t m (slice_index_or rows (m - 1) [])

-- these marks are the mute meters of a table, bus n at place n - 1
abbrev pub AreMuteMetersOf : Table → List Bool → Type 0
AreMuteMetersOf t marks = (n : ℕ) → 1 ≤ n → n ≤ 64 → slice_index_or marks (n - 1) false ≡ mute_of t n

-- these marks are the buses with inverters of a table, bus m at place m - 1
abbrev pub AreInvertersOf : Table → List Bool → Type 0
AreInvertersOf t marks = (m : ℕ) → 1 ≤ m → m ≤ 64 → slice_index_or marks (m - 1) false ≡ is_some (probe_of t m)

-- the response of bus n to inverter m in rows of responses, 0 where one of them is none
abbrev pub worked_response : ℕ → List Bool → List (List ℤ) → ℕ → ℕ → ℤ
worked_response last inverters rows n m =
    cond (marked last inverters m && within last n)
    (slice_index_or (slice_index_or rows (m - 1) []) (n - 1) (pos 0)) (pos 0)

-- the plant that was worked out: its inverters, responses and mute meters in lists, with standing voltages 0
abbrev pub worked_plant : ℕ → List Bool → List (List ℤ) → List Bool → Plant
worked_plant last inverters rows mute =
    record {
      buses = last;
      inverter = marked last inverters;
      response = worked_response last inverters rows;
      standing = λ _. pos 0;
      mute = marked last mute;
    }
