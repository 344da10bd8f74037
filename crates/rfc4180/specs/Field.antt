-- What a field stands for.
use Rattle.std.specs.Prelude.{ℕ, ◌+◌, Bool, cond, not, List, length, Some, None, Option, ◌==◌}
use Rattle.rfc4180.specs.declared.field.Field.{Field}
use Rattle.rfc4180.specs.declared.field.Field.TheVariants.{Plain, Quoted, Blank}
use Rattle.rfc4180.specs.Grammar.{every}
use Rattle.rfc4180.specs.Places.{Content, Piece, plainly, quotedly, nothing}
use Rattle.rfc4180.specs.Reading.{undoubled}

-- a field with what it holds and where it starts and ends
abbrev pub piece : Field → Piece
piece (Plain bytes at) =
    record { content = plainly bytes.now; start = at; end = at + length bytes.now }
piece (Quoted bytes at) =
    record {
      content = quotedly (undoubled bytes.now);
      start = at;
      end = at + 1 + length bytes.now + 1;
    }
piece (Blank at) = record { content = nothing; start = at; end = at }

-- no quote stands among the bytes
abbrev pub quoteless : List ℕ → Bool
quoteless xs = every (λ b. not (b == 0x22)) xs

-- what a field holds, where the file has it just so: no blank, and no held quote, which stands twice
abbrev pub text_of : Content → Option (List ℕ)
text_of (plainly xs) = Some xs
text_of (quotedly xs) = cond (quoteless xs) (Some xs) None
text_of nothing = None
