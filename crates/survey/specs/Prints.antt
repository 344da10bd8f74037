-- What the programs print for a response file.
use Rattle.std.specs.Prelude.{◌≡◌, ℕ, List, Ok, Err, Result}
use Rattle.feeder.specs.declared.kind.Kind.{Kind}
use Rattle.feeder.specs.declared.map.Map.{Map}
use Rattle.feeder.specs.View.{lines_of}
use Rattle.files.specs.declared.fault.FileFault.{FileFault}
use Rattle.printing.specs.MapTexts.{map_text}
use Rattle.printing.specs.Texts.{Writing}
use Rattle.printing.specs.RefusalTexts.{refusal_text}
use Rattle.survey.specs.declared.fault.ProgramFault.{ProgramFault}
use Rattle.survey.specs.Faults.{refusal_of}
use Rattle.survey.specs.Surveys.{Surveys}

-- the text for a file: that of the map that its survey draws, or that of the refusal that ends its survey
pub data Text (bytes : List ℕ) (kind : Kind) : List ℕ → Type 0 where
  drawn : (old new : Map) → Surveys bytes kind old (Ok tt) new → Text bytes kind (map_text (lines_of new))
  refused : (old new : Map) (fault : ProgramFault) → Surveys bytes kind old (Err fault) new → Text bytes kind (refusal_text (refusal_of fault))

-- The text stands at the front of the buffer and the bytes behind it stay; or the buffer is too short for it and stays as it was.
abbrev pub Prints : List ℕ → Kind → List ℕ → List ℕ → Result ℕ FileFault → Type 0
Prints bytes kind old new r = (text : List ℕ) × Text bytes kind text × Writing text old new r

-- a file has one text of a kind
abbrev pub TextsAreAlone : Type 0
TextsAreAlone = (bytes : List ℕ) (kind : Kind) (a b : List ℕ) → Text bytes kind a → Text bytes kind b → a ≡ b
