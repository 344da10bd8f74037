-- What making a feeder source from a map and two lists leaves.
use Rattle.std.specs.Prelude.{◌≡◌, ℕ, zero, suc, ◌-◌, ◌<◌, ◌≤◌, ◌≢◌, Bool, false, cond, not, ◌&&◌, List, [], ◌∷◌, length, take, ℤ, pos, Some, None, Ok, Err, Option, Result, ◌==◌, nat_lt, slice_index, slice_index_or, unsigned_abs}
use Rattle.refusals.specs.Checks.{need, lacking}
use Rattle.feeder.specs.declared.line.Line.{Line}
use Rattle.feeder.specs.Feeder.{Bus, distance}
use Rattle.feeder.specs.Way.{is_in}
use Rattle.probing.specs.declared.fault.SourceFault.{SourceFault}
use Rattle.probing.specs.declared.fault.SourceFault.TheVariants.{MapSize, InverterEntry, StandingCount, StandingEntry}
use Rattle.probing.specs.Facts.{Facts}
use Rattle.sources.specs.declared.feeder_source.FeederGrid.{FeederGrid}
use Rattle.sources.specs.declared.grid_source.GridSource.{GridSource}
use Rattle.sources.specs.GridFacts.{within, idle}
use Rattle.sources.specs.LineFacts.{line_plant, standing_of}

-- the line of the new place's one bus, from the substation
abbrev pub lone_line : Line
lone_line = record { parent = 0; resistance = 1 }

-- a new place: one metered bus at distance 1 reading 0, and no inverter
abbrev pub new_feeder : Facts
new_feeder = idle (line_plant (lone_line ∷ []) (λ _. false) (λ _. pos 0))

-- the first index below the count that passes the test
unfoldable pub first_at : ℕ → (ℕ → Bool) → Option ℕ
first_at zero test = None
first_at (suc k) test = elim (first_at k test) [ Some i ↦ Some i | None ↦ cond (test k) (Some k) None ]

-- the inverter at an index of the list is no bus of 1 to last, or is listed before
abbrev pub misplaced : ℕ → List ℕ → ℕ → Bool
misplaced last inverters i =
    not (within last (slice_index inverters i) && not (is_in (take i inverters) (slice_index inverters i)))

abbrev pub first_misplaced : ℕ → List ℕ → Option ℕ
first_misplaced last inverters = first_at (length inverters) (misplaced last inverters)

-- the standing voltage at an index of the list is beyond 1,000,000,000 either way
abbrev pub too_far : List ℤ → ℕ → Bool
too_far standing i = nat_lt 1000000000 (unsigned_abs (slice_index_or standing i (pos 0)))

abbrev pub first_too_far : List ℤ → Option ℕ
first_too_far standing = first_at (length standing) (too_far standing)

-- the made source: inverters and standing voltages as listed, and every inverter on its schedule
abbrev pub made_facts : List Line → List ℕ → List ℤ → Facts
made_facts F inverters standing =
    idle (line_plant F (λ m. within (length F) m && is_in inverters m)
    (standing_of (length F) standing))

-- the refusal of the first condition that fails, or else the facts of the made source
abbrev pub make_of : List Line → List ℕ → List ℤ → Result Facts SourceFault
make_of F inverters standing =
    need (within 64 (length F)) (MapSize (length F))
    (lacking (first_misplaced (length F) inverters) InverterEntry
    (need (length standing == length F) (StandingCount (length standing))
    (lacking (first_too_far standing) StandingEntry
    (Ok (made_facts F inverters standing)))))

-- what making answers, by what sources mean: a source that means what was told, or the fault
abbrev pub Makes : (GridSource FeederGrid → Facts) → List Line → List ℕ → List ℤ →
    Result (GridSource FeederGrid) SourceFault → Type 0
Makes facts F inverters standing (Ok source) = make_of F inverters standing ≡ Ok (facts source)
Makes facts F inverters standing (Err fault) = make_of F inverters standing ≡ Err fault

-- a feeder within the limits, with an inverter at each listed bus and a standing voltage for each bus in billionths
pub record IsWithinLimits (F : List Line) (inverters : List ℕ) (standing : List ℤ) : Type 0 where
  pub some : 1 ≤ length F
  pub few : length F ≤ 64
  -- no bus is farther than this from the substation
  pub near : (b : ℕ) → Bus F b → distance F b ≤ 1000000
  pub placed : (i : ℕ) → i < length inverters → Bus F (slice_index inverters i)
  -- no inverter is listed twice
  pub once : (i j : ℕ) → i < j → j < length inverters →
      slice_index inverters i ≢ slice_index inverters j
  pub counted : length standing ≡ length F
  -- none is farther than this from 0
  pub standings : (i : ℕ) → i < length standing →
      unsigned_abs (slice_index_or standing i (pos 0)) ≤ 1000000000

-- a mark at each bus that is listed, and at no other
abbrev pub Marks : List ℕ → List Bool → Type 0
Marks inverters marks = (m : ℕ) → 1 ≤ m → m ≤ 64 → slice_index_or marks (m - 1) false ≡ is_in inverters m

-- the list, with 0 behind its last
abbrev pub Copies : List ℤ → List ℤ → Type 0
Copies standing places = (k : ℕ) → slice_index_or places k (pos 0) ≡ slice_index_or standing k (pos 0)
