-- What probing and drawing a made feeder answers.
use Rattle.std.specs.Prelude.{◌≡◌, ℕ, true, List, length, ℤ, pos, Ok, Err, Result}
use Rattle.feeder.specs.declared.line.Line.{Line}
use Rattle.feeder.specs.declared.kind.Kind.TheVariants.{Complete}
use Rattle.feeder.specs.declared.map.Map.{Map}
use Rattle.feeder.specs.Feeder.{End}
use Rattle.feeder.specs.Way.{is_in}
use Rattle.feeder.specs.Table.{NoFeeder}
use Rattle.feeder.specs.View.{lines_of, metered_of, DrawnMap}
use Rattle.files.specs.declared.fault.FileFault.{FileFault}
use Rattle.printing.specs.MapTexts.{map_text}
use Rattle.maps.specs.Reading.{MapReading}
use Rattle.maps.specs.RoundTrip.{ReadBack}
use Rattle.probing.specs.declared.fault.SourceFault.{SourceFault}
use Rattle.probing.specs.Facts.{Facts}
use Rattle.sources.specs.declared.feeder_source.FeederGrid.{FeederGrid}
use Rattle.sources.specs.declared.grid_source.GridSource.{GridSource}
use Rattle.sources.specs.LineMaking.{make_of}
use Rattle.campaign.specs.declared.drawing_fault.DrawingFault.TheVariants.{NoFeeder as Nowhere}
use Rattle.campaign.specs.Drawings.{responses_of}
use Rattle.survey.specs.declared.fault.ProgramFault.{ProgramFault}
use Rattle.survey.specs.declared.fault.ProgramFault.TheVariants.{Source, Drawing}

-- an inverter is listed for every end of the feeder
abbrev pub EveryEndIsListed : List Line → List ℕ → Type 0
EveryEndIsListed F inverters = (b : ℕ) → End F b → is_in inverters b ≡ true

-- From lines, inverters and standing voltages to a source's place and a map's place; facts is what sources mean. The source cannot
-- be made; or no complete feeder yields its responses; else it is in its place as it was made, with every inverter on its schedule,
-- and the drawn map is in the map's.
pub data Returns (facts : GridSource FeederGrid → Facts) (F : List Line) (inverters : List ℕ) (standing : List ℤ) (before : GridSource FeederGrid) (old : Map) : Result (Unit {0}) ProgramFault → GridSource FeederGrid → Map → Type 0 where
  unmade : (fault : SourceFault) → make_of F inverters standing ≡ Err fault → Returns facts F inverters standing before old (Err (Source fault)) before old
  nowhere : (f : Facts) → make_of F inverters standing ≡ Ok f → NoFeeder Complete (responses_of f.plant) →
      Returns facts F inverters standing before old (Err (Drawing Nowhere)) before old
  drawn : (source : GridSource FeederGrid) → make_of F inverters standing ≡ Ok (facts source) → (new : Map) →
      DrawnMap Complete (responses_of (facts source).plant) new → Returns facts F inverters standing before old (Ok tt) source new

-- The feeder came back.
pub record Returned (facts : GridSource FeederGrid → Facts) (map : Map) (r : Result (Unit {0}) ProgramFault) (source : GridSource FeederGrid) (new : Map) : Type 0 where
  pub accepted : r ≡ Ok tt
  -- the drawn feeder is the one that was probed, line by line
  pub lines : lines_of new ≡ lines_of map
  pub metered : metered_of new ≡ length (lines_of map)
  -- the very map, if all its buses are metered
  pub same : metered_of map ≡ length (lines_of map) → new ≡ map
  -- every inverter is back on its schedule
  pub settings : (m : ℕ) → (facts source).state.setting m ≡ pos 0
  -- whatever reading the drawn map's file answers, it gives the map back
  pub file : (answer : Result Map FileFault) → MapReading (map_text (lines_of new)) answer → ReadBack map answer
