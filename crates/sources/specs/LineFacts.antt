-- The facts of a source that walks the lines of a feeder.
use Rattle.std.specs.Prelude.{ℕ, ◌-◌, ◌≤◌, Bool, false, cond, ◌&&◌, List, length, ℤ, pos, slice_index_or, unsigned_abs}
use Rattle.feeder.specs.declared.line.Line.{Line}
use Rattle.feeder.specs.Feeder.{response}
use Rattle.probing.specs.Facts.{Plant}
use Rattle.sources.specs.GridFacts.{within}

-- the response of bus n to an inverter at m: the resistance that their ways share
abbrev pub line_response : List Line → (ℕ → Bool) → ℕ → ℕ → ℤ
line_response F inverter n m = cond (inverter m && within (length F) n) (pos (response F n m)) (pos 0)

-- a feeder's lines mean their responses; every bus is metered, and no meter is mute
abbrev pub line_plant : List Line → (ℕ → Bool) → (ℕ → ℤ) → Plant
line_plant F inverter standing =
    record {
      buses = length F;
      inverter = inverter;
      response = line_response F inverter;
      standing = standing;
      mute = λ _. false;
    }

-- whether bus m is marked in a list with a mark per bus
abbrev pub marked : ℕ → List Bool → ℕ → Bool
marked last marks m = within last m && slice_index_or marks (m - 1) false

-- the standing voltage of bus n, 0 where no bus is
abbrev pub standing_of : ℕ → List ℤ → ℕ → ℤ
standing_of last standing n = cond (within last n) (slice_index_or standing (n - 1) (pos 0)) (pos 0)

-- the plant, with a mark and a standing voltage per bus
abbrev pub feeder_plant : List Line → List Bool → List ℤ → Plant
feeder_plant F marks standing = line_plant F (marked (length F) marks) (standing_of (length F) standing)

-- no standing voltage beyond 1,000,000,000 either way
abbrev pub AreStandings : List ℤ → Type 0
AreStandings standing = (k : ℕ) → unsigned_abs (slice_index_or standing k (pos 0)) ≤ 1000000000
