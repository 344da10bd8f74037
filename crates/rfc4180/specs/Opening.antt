-- What opening a file answers.
use Rattle.std.specs.Prelude.{◌≡◌, ℕ, ◌<◌, ◌≤◌, List, length, Ok, Err, Result}
use Rattle.rfc4180.specs.declared.fault.Fault.{Fault}
use Rattle.rfc4180.specs.declared.fault.Fault.TheVariants.{TooLong, Syntax}
use Rattle.rfc4180.specs.declared.reader.Reader.{Reader}
use Rattle.rfc4180.specs.Grammar.{File, Impossible}
use Rattle.rfc4180.specs.Places.{Parse, records_of}
use Rattle.rfc4180.specs.Views.{left}

-- The reader has before it the records of the one file that the bytes write.
pub record Opened {kept : ℕ} (bytes : List ℕ) (reader : Reader kept) : Type 0 where
  pub file : File
  pub parse : Parse file bytes
  pub records : left reader ≡ records_of file
  pub only : (g : File) → Parse g bytes → g ≡ file

-- The first that holds: more than 65,536 bytes; a byte that no file has there, or an early end. Else a reader of the file.
abbrev pub Opening : {kept : ℕ} → List ℕ → Result (Reader kept) Fault → Type 0
Opening bytes (Ok reader) = (length bytes ≤ 65536) × Opened bytes reader
Opening bytes (Err TooLong) = 65536 < length bytes
Opening bytes (Err (Syntax i)) = (length bytes ≤ 65536) × Impossible bytes i
