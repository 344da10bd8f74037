-- Writing a text into a buffer.
use Rattle.std.specs.Prelude.{◌≡◌, ℕ, ◌<◌, ◌≤◌, List, [], ◌∷◌, ◌++◌, length, drop, Ok, Err, Result}
use Rattle.files.specs.declared.fault.FileFault.{FileFault}
use Rattle.files.specs.declared.fault.FileFault.TheVariants.{ShortBuffer}

-- the end of every line
abbrev pub new_line : List ℕ
new_line = 0x0D ∷ 0x0A ∷ []

-- The text stands at the front of the buffer and the bytes behind it stay; or the buffer is too
-- short and stays as it was.
abbrev pub Writing : List ℕ → List ℕ → List ℕ → Result ℕ FileFault → Type 0
Writing text old new (Ok n) =
    (n ≡ length text) × (length text ≤ length old) × (new ≡ text ++ drop n old)
Writing text old new (Err fault) =
    (fault ≡ ShortBuffer (length text)) × (length old < length text) × (new ≡ old)
