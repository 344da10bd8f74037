-- The laws of the two sources, as terms, since a ghost item names one: the plant of a table and that of a map's lines are within the
-- bounds of a source.
use Rattle.std.specs.Prelude.{Bool, false, ◌&&◌, List, length, ℕ, ℤ, pos, ◌-◌, is_some, nat_le, slice_index_or}
use Rattle.std.proofs.Common.{lit≤}
use Rattle.std.proofs.lemmas.Bool.{leb-true, and_parts}
use Rattle.feeder.specs.declared.map.Map.{Map}
use Rattle.feeder.specs.Feeder.{response}
use Rattle.feeder.specs.View.{lines_of}
use Rattle.feeder.proofs.Maps.{map_response_near}
use Rattle.files.specs.declared.table.Table.{Table}
use Rattle.files.specs.Tables.{probe_of, response_in}
use Rattle.files.proofs.Bounds.{response_moderate}
use Rattle.probing.specs.Facts.{PlantIsBounded}
use Rattle.probing.proofs.Settings.{within_where}
use Rattle.sources.specs.GridFacts.{within, IsBusCount}
use Rattle.sources.specs.TableFacts.{probed, table_plant}
use Rattle.sources.specs.LineFacts.{marked, feeder_plant, AreStandings}

pub table_is_bounded : (t : Table) → IsBusCount t.buses → PlantIsBounded (table_plant t)
table_is_bounded t few =
    record {
      some = few.0;
      few = few.1;
      placed = λ m e. (and_parts (within t.buses m) (is_some (probe_of t m)) e).0;
      responses = λ n m.
          within_where (probed t m && within t.buses n) (response_in (probe_of t m) n) 1000000
          (λ _. response_moderate (probe_of t m) n);
      standings = λ _. lit≤ tt;
    }

pub feeder_is_bounded :
    (map : Map) (marks : List Bool) (standing : List ℤ) →
    IsBusCount (length (lines_of map)) → AreStandings standing →
    PlantIsBounded (feeder_plant (lines_of map) marks standing)
feeder_is_bounded map marks standing few near =
    record {
      some = few.0;
      few = few.1;
      placed = λ m e. (and_parts (within last m) (slice_index_or marks (m - 1) false) e).0;
      responses = λ n m.
          within_where (marked last marks m && within last n) (pos (response (lines_of map) n m)) 1000000
          (λ e.
          let inside = (and_parts (marked last marks m) (within last n) e).1 in
          map_response_near map n m (leb-true n last (and_parts (nat_le 1 n) (nat_le n last) inside).1));
      standings = λ n.
          within_where (within last n) (slice_index_or standing (n - 1) (pos 0)) 1000000000
          (λ _. near (n - 1));
    }
  where
    last : ℕ
    last = length (lines_of map)
