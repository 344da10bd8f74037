-- What the check of a file answers, whatever it says of a file besides.
use Rattle.std.specs.Prelude.{◌≡◌, ℕ, ◌<◌, ◌≤◌, List, length, Ok, Err, Result}
use Rattle.rfc4180.specs.declared.fault.Fault.{Fault}
use Rattle.rfc4180.specs.declared.fault.Fault.TheVariants.{TooLong, Syntax}
use Rattle.rfc4180.specs.Grammar.{File, Csv, Impossible}
use Rattle.rfc4180.specs.Places.{Parse, records_of}
use Rattle.rfc4180.specs.Reading.{records_at}

-- The first that holds: more than 65,536 bytes; a byte that no file has there, or an early end. Else a file of the grammar.
abbrev pub Verdict : {A : Type 0} → List ℕ → Result A Fault → Type 0
Verdict bytes (Ok a) = (length bytes ≤ 65536) × Csv bytes
Verdict bytes (Err TooLong) = 65536 < length bytes
Verdict bytes (Err (Syntax i)) = (length bytes ≤ 65536) × Impossible bytes i

-- The bytes have one tree, and its records are found by reading.
pub record OneTree (bytes : List ℕ) : Type 0 where
  pub tree : File
  pub parse : Parse tree bytes
  pub read : records_at bytes 0 ≡ records_of tree
  pub only : (g : File) → Parse g bytes → g ≡ tree

-- A file that passes has one tree.
abbrev pub Parsed : {A : Type 0} → List ℕ → Result A Fault → Type 0
Parsed bytes (Ok a) = OneTree bytes
Parsed bytes (Err e) = Unit {0}
