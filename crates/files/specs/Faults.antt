-- The number, layer and place of each fault of a file.
use Rattle.std.specs.Prelude.{ℕ}
use Rattle.rfc4180.specs.declared.fault.Fault.TheVariants.{TooLong, Syntax}
use Rattle.refusals.specs.declared.Layer.TheVariants.{File}
use Rattle.refusals.specs.declared.Refusal.{Refusal}
use Rattle.files.specs.declared.fault.FileFault.{FileFault}
use Rattle.files.specs.declared.fault.FileFault.TheVariants.{Bytes, Header, FieldCount, Form, Inverter, Step, Change, MapEntry, Unreached, ShortBuffer}

abbrev pub in_file : ℕ → ℕ → Refusal
in_file number place = record { number = number; layer = File; place = place }

abbrev pub refusal_of : FileFault → Refusal
refusal_of (Bytes (Syntax at)) = in_file 1 at
refusal_of (Bytes TooLong) = in_file 2 65536
refusal_of (Header at) = in_file 3 at
refusal_of (FieldCount at) = in_file 4 at
refusal_of (Form at) = in_file 5 at
refusal_of (Inverter at) = in_file 6 at
refusal_of (Step at) = in_file 7 at
refusal_of (Change at) = in_file 8 at
refusal_of (MapEntry at) = in_file 19 at
refusal_of (Unreached bus) = in_file 20 bus
refusal_of (ShortBuffer needed) = in_file 22 needed
