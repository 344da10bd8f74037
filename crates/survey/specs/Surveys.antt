-- What a survey of a response file answers.
use Rattle.std.specs.Prelude.{◌≡◌, ℕ, not, List, Some, None, Ok, Err, Option, Result}
use Rattle.feeder.specs.declared.kind.Kind.{Kind}
use Rattle.feeder.specs.declared.kind.Kind.TheVariants.{Complete, Reduced}
use Rattle.feeder.specs.declared.map.Map.{Map}
use Rattle.feeder.specs.Table.{Table, NoFeeder}
use Rattle.feeder.specs.View.{DrawnMap}
use Rattle.files.specs.declared.fault.FileFault.{FileFault}
use Rattle.files.specs.declared.table.Table as responses
use Rattle.files.specs.Responses.{Reading}
use Rattle.files.specs.Tables.{mute_of}
use Rattle.probing.specs.declared.fault.SourceFault.TheVariants.{Unreadable}
use Rattle.probing.specs.Answers.{lowest}
use Rattle.sources.specs.TableFacts.{probed, table_plant}
use Rattle.campaign.specs.declared.fault.CampaignFault.TheVariants.{Source}
use Rattle.campaign.specs.declared.drawing_fault.DrawingFault.TheVariants.{InverterMissing, NoFeeder as Nowhere}
use Rattle.campaign.specs.Drawings.{responses_of}
use Rattle.survey.specs.declared.fault.ProgramFault.{ProgramFault}
use Rattle.survey.specs.declared.fault.ProgramFault.TheVariants.{File, Campaign, Drawing}

-- the file is refused so
abbrev pub Refuses : List ℕ → FileFault → Type 0
Refuses bytes fault = Reading bytes (Err fault)

-- the file holds the table t
abbrev pub Holds : List ℕ → responses.Table → Type 0
Holds bytes t = Reading bytes (Ok t)

-- the responses that a file's table tells
abbrev pub told : responses.Table → Table
told t = responses_of (table_plant t)

-- the lowest mute meter
abbrev pub mute : responses.Table → Option ℕ
mute t = lowest t.buses (mute_of t)

-- the lowest metered bus without an inverter, if the kind wants one at each
abbrev pub bare : Kind → responses.Table → Option ℕ
bare Complete t = None
bare Reduced t = lowest t.buses (λ n. not (probed t n))

-- From a file's bytes to a map place, from old to new. The first that holds: the file is refused; a meter is mute; the kind
-- wants an inverter where there is none; no feeder of the kind yields the file's responses. Else the place holds the drawn feeder.
pub data Surveys (bytes : List ℕ) (kind : Kind) (old : Map) : Result (Unit {0}) ProgramFault → Map → Type 0 where
  unread : (fault : FileFault) → Refuses bytes fault → Surveys bytes kind old (Err (File fault)) old
  muted : (t : responses.Table) → Holds bytes t → (bus m : ℕ) → mute t ≡ Some bus → lowest t.buses (probed t) ≡ Some m →
      Surveys bytes kind old (Err (Campaign (record { fault = Source (Unreadable bus); inverter = m }))) old
  unequipped : (t : responses.Table) → Holds bytes t → mute t ≡ None → (n : ℕ) → bare kind t ≡ Some n → Surveys bytes kind old (Err (Drawing (InverterMissing n))) old
  nowhere : (t : responses.Table) → Holds bytes t → mute t ≡ None → bare kind t ≡ None → NoFeeder kind (told t) → Surveys bytes kind old (Err (Drawing Nowhere)) old
  drawn : (t : responses.Table) → Holds bytes t → mute t ≡ None → bare kind t ≡ None → (new : Map) → DrawnMap kind (told t) new → Surveys bytes kind old (Ok tt) new
