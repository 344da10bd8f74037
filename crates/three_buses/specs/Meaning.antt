-- What a source of three buses means, and its log.
use Rattle.std.specs.Prelude.{List}
use Rattle.probing.specs.Facts.{Plant, Facts}
use Rattle.probing.specs.Settings.{with_kept}
use Rattle.three_buses.specs.declared.buses.ThreeBuses.{ThreeBuses}
use Rattle.three_buses.specs.declared.log.Entry.{Entry}
use Rattle.three_buses.specs.Buses.{plant_of}

-- its plant
abbrev pub plant_in : ThreeBuses → Plant
plant_in s = plant_of s.responses s.standing s.mute

-- its facts: that plant with the settings that it keeps
abbrev pub facts_of : ThreeBuses → Facts
facts_of s = with_kept (plant_in s) s.settings

-- the entries of its log, the first first
abbrev pub log_of : ThreeBuses → List Entry
log_of s = s.log.items
