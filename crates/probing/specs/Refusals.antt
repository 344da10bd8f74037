-- The number, the layer and the place of each fault of a source.
use Rattle.std.specs.Prelude.{ℕ}
use Rattle.refusals.specs.declared.Refusal.{Refusal}
use Rattle.refusals.specs.declared.Layer.TheVariants.{Source}
use Rattle.probing.specs.declared.fault.SourceFault.{SourceFault}
use Rattle.probing.specs.declared.fault.SourceFault.TheVariants.{NoInverter, BadStep, Unreadable, OffSchedule, MapSize, InverterEntry, StandingCount, StandingEntry}

-- a refusal of the layer "source"
abbrev pub of_source : ℕ → ℕ → Refusal
of_source number place = record { number = number; layer = Source; place = place }

-- each fault's number and place
abbrev pub refusal_of : SourceFault → Refusal
refusal_of (NoInverter bus) = of_source 9 bus
refusal_of (BadStep inverter) = of_source 10 inverter
refusal_of (Unreadable bus) = of_source 12 bus
refusal_of (OffSchedule inverter) = of_source 13 inverter
refusal_of (MapSize buses) = of_source 21 buses
refusal_of (InverterEntry index) = of_source 21 index
refusal_of (StandingCount length) = of_source 21 length
refusal_of (StandingEntry index) = of_source 21 index
