-- What a drawing of a campaign may answer.
use Rattle.std.specs.Prelude.{◌≡◌, ℕ, ◌≤◌, true, not, ◌&&◌, Some, None, Ok, Err, Option, Result, unsigned_abs}
use Rattle.refusals.specs.declared.Refusal.{Refusal}
use Rattle.refusals.specs.declared.Layer.TheVariants.{Drawing as InDrawing}
use Rattle.feeder.specs.declared.kind.Kind.{Kind}
use Rattle.feeder.specs.declared.kind.Kind.TheVariants.{Complete, Reduced}
use Rattle.feeder.specs.declared.map.Map.{Map}
use Rattle.feeder.specs.Table.{Table, NoFeeder}
use Rattle.feeder.specs.View.{DrawnMap}
use Rattle.probing.specs.Facts.{Plant}
use Rattle.probing.specs.Answers.{lowest}
use Rattle.campaign.specs.declared.drawing_fault.DrawingFault.{DrawingFault}
use Rattle.campaign.specs.declared.drawing_fault.DrawingFault.TheVariants.{ColumnMissing, InverterMissing, NoFeeder as Nowhere}
use Rattle.campaign.specs.declared.state.Campaign.{Campaign}
use Rattle.campaign.specs.Columns.{has_inverter, present, entry}

-- each fault's number and place
abbrev pub drawing_refusal : DrawingFault → Refusal
drawing_refusal (ColumnMissing inverter) = record { number = 16; layer = InDrawing; place = inverter }
drawing_refusal (InverterMissing bus) = record { number = 17; layer = InDrawing; place = bus }
drawing_refusal Nowhere = record { number = 18; layer = InDrawing; place = 0 }

-- a campaign's columns as a table of responses
abbrev pub columns_of : Campaign → Table
columns_of c = record { metered = c.buses; has = has_inverter c; entry = entry c }

-- the lowest inverter whose column is missing
abbrev pub missing : Campaign → Option ℕ
missing c = lowest c.buses (λ m. has_inverter c m && not (present c m))

-- the lowest metered bus without an inverter, if the kind wants one at each
abbrev pub bare : Kind → Campaign → Option ℕ
bare Complete c = None
bare Reduced c = lowest c.buses (λ n. not (has_inverter c n))

-- what every campaign keeps from its opening on: at most 64 buses, and no collected entry beyond 1,000,000 either way
pub record Moderate (c : Campaign) : Type 0 where
  pub few : c.buses ≤ 64
  pub entries : (n m : ℕ) → 1 ≤ n → n ≤ c.buses → present c m ≡ true → unsigned_abs (entry c n m) ≤ 1000000

-- Drawing a campaign into a map place, from old to new. The first that holds: a column is missing; the kind wants an
-- inverter where there is none; no feeder of the kind yields the columns, which is promised of a moderate campaign. Else the place
-- holds the drawn feeder.
pub data Draws (c : Campaign) (kind : Kind) (old : Map) : Result (Unit {0}) DrawingFault → Map → Type 0 where
  incomplete : (m : ℕ) → missing c ≡ Some m → Draws c kind old (Err (ColumnMissing m)) old
  unequipped : (n : ℕ) → missing c ≡ None → bare kind c ≡ Some n → Draws c kind old (Err (InverterMissing n)) old
  nowhere : missing c ≡ None → bare kind c ≡ None → (Moderate c → NoFeeder kind (columns_of c)) → Draws c kind old (Err Nowhere) old
  drawn : (new : Map) → missing c ≡ None → bare kind c ≡ None → DrawnMap kind (columns_of c) new → Draws c kind old (Ok tt) new

-- a drawing of a moderate campaign answers one thing, and leaves one map
abbrev pub DrawingsAreAlone : Type 0
DrawingsAreAlone =
    (c : Campaign) (kind : Kind) (old : Map) (a b : Result (Unit {0}) DrawingFault) (m n : Map) → Moderate c →
    Draws c kind old a m → Draws c kind old b n → (a ≡ b) × (m ≡ n)

-- a drawing as a call in a history: its kind, the map place before, the answer, the map place after
pub record Drawing : Type 0 where
  pub kind : Kind
  pub before : Map
  pub answer : Result (Unit {0}) DrawingFault
  pub after : Map

-- a drawing of a campaign answers as its relation says
abbrev pub IsDrawingOf : Campaign → Drawing → Type 0
IsDrawingOf c d = Draws c d.kind d.before d.answer d.after

-- a source's responses as a table
abbrev pub responses_of : Plant → Table
responses_of p = record { metered = p.buses; has = p.inverter; entry = p.response }
