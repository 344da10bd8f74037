-- The text of a refusal: a header, and a record of its layer, number and place. CR LF ends both.
use Rattle.std.specs.Prelude.{◌≡◌, ℕ, ◌^◌, ◌<◌, ◌≤◌, List, ◌∷◌, ◌++◌, length, codes, decimal}
use Rattle.std.specs.Str.Parse.{digits_value}
use Rattle.refusals.specs.declared.Refusal.{Refusal}
use Rattle.refusals.specs.Texts.{layer_name}
use Rattle.printing.specs.Texts.{new_line}

-- the record of a refusal; numbers are in base ten without leading zeros
abbrev pub record_text : Refusal → List ℕ
record_text r =
    layer_name r.layer ++ 0x2C ∷ (decimal r.number ++ 0x2C ∷ (decimal r.place ++ new_line))

abbrev pub refusal_text : Refusal → List ℕ
refusal_text r = codes "layer,refusal,place" ++ (new_line ++ record_text r)

-- 56 bytes hold the text of any refusal whose number fits one byte and whose place fits eight
abbrev pub RefusalsAreShort : Type 0
RefusalsAreShort =
    (r : Refusal) → r.number < 2 ^ 8 → r.place < 2 ^ 64 → length (refusal_text r) ≤ 56

-- what is written for the number and the place of such a refusal has their values
abbrev pub RefusalsAreTold : Type 0
RefusalsAreTold =
    (r : Refusal) → r.number < 2 ^ 8 → r.place < 2 ^ 64 →
    (digits_value 10 (decimal r.number) ≡ r.number) × (digits_value 10 (decimal r.place) ≡ r.place)
