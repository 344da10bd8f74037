-- What the last check of a drawing holds against a list of lines.
use Rattle.std.specs.Prelude.{◌≡◌, ℕ, List, length}
use Rattle.feeder.specs.declared.line.Line.{Line}
use Rattle.feeder.specs.declared.kind.Kind.{Kind}
use Rattle.feeder.specs.declared.kind.Kind.TheVariants.{Complete, Reduced}
use Rattle.feeder.specs.Feeder.{End, response}
use Rattle.drawing.specs.Yielded.{Yielded}
use Rattle.drawing.specs.Seats.{Entries, Meter, Inverter}

-- the response of bus n to inverter m is the lines'
abbrev pub SameResponse : Entries → List Line → ℕ → ℕ → Type 0
SameResponse E F n m = E.entry n m ≡ response F n m

-- so is that of each metered bus to inverter m
abbrev pub SameColumn : Entries → List Line → ℕ → Type 0
SameColumn E F m = (n : ℕ) → Meter E n → SameResponse E F n m

-- and to each inverter
abbrev pub SameResponses : Entries → List Line → Type 0
SameResponses E F = (m : ℕ) → Inverter E m → SameColumn E F m

-- an end without an inverter
abbrev pub BareEnd : Entries → List Line → ℕ → Type 0
BareEnd E F b = End F b × (Inverter E b → ⊥)

-- every end has an inverter
abbrev pub EndsStand : Entries → List Line → Type 0
EndsStand E F = (b : ℕ) → End F b → Inverter E b

-- every metered bus has an inverter
abbrev pub Stand : Entries → Type 0
Stand E = (n : ℕ) → Meter E n → Inverter E n

-- what the kind of feeder asks of the metered buses and of the number of all buses
abbrev pub Allowed : Kind → Entries → ℕ → Type 0
Allowed Complete E buses = buses ≡ E.metered
Allowed Reduced E buses = Stand E

-- the lines are a feeder of the kind that yields the entries
abbrev pub Passes : Kind → Entries → List Line → Type 0
Passes K E F = Allowed K E (length F) × Yielded E F
