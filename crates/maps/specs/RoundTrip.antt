-- A written map is read back.
use Rattle.std.specs.Prelude.{◌≡◌, ◌≤◌, length, Ok, Result}
use Rattle.feeder.specs.declared.map.Map.{Map}
use Rattle.feeder.specs.View.{lines_of, metered_of}
use Rattle.files.specs.declared.fault.FileFault.{FileFault}
use Rattle.printing.specs.MapTexts.{map_text}
use Rattle.maps.specs.Reading.{MapReading}

-- a map is read that has the lines of m and every bus metered, and where all of m's are, it is m itself
pub record ReadBack (m : Map) (r : Result Map FileFault) : Type 0 where
  pub read : Map
  pub accepted : r ≡ Ok read
  pub lines : lines_of read ≡ lines_of m
  pub metered : metered_of read ≡ length (lines_of m)
  pub same : metered_of m ≡ length (lines_of m) → read ≡ m

-- whatever reading the text of a map with 1 to 64 buses answers, it gives that map back
abbrev pub WrittenMapsAreRead : Type 0
WrittenMapsAreRead = (m : Map) (r : Result Map FileFault) → 1 ≤ length (lines_of m) → length (lines_of m) ≤ 64 → MapReading (map_text (lines_of m)) r → ReadBack m r
