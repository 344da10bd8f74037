-- What loading a table source from a response file leaves.
use Rattle.std.specs.Prelude.{◌≡◌, ℕ, List, Ok, Err, Result}
use Rattle.files.specs.declared.fault.FileFault.{FileFault}
use Rattle.files.specs.declared.table.Table.{Table}
use Rattle.files.specs.Responses.{Reading}
use Rattle.files.specs.Tables.{empty_table}
use Rattle.probing.specs.Facts.{Facts}
use Rattle.sources.specs.declared.grid_source.GridSource.{GridSource}
use Rattle.sources.specs.declared.table_source.TableGrid.{TableGrid}
use Rattle.sources.specs.TableFacts.{table_facts}

-- a new place: one metered bus reading 0, and no inverter
abbrev pub new_facts : Facts
new_facts = table_facts (empty_table 1)

-- what loading a file answers, by what sources mean: a source that means the file's table, or the file's fault
abbrev pub Loads : (GridSource TableGrid → Facts) → List ℕ →
    Result (GridSource TableGrid) FileFault → Type 0
Loads facts bytes (Ok source) = (t : Table) × Reading bytes (Ok t) × (facts source ≡ table_facts t)
Loads facts bytes (Err fault) = Reading bytes (Err fault)
