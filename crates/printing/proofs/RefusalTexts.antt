-- How long the text of a refusal is, and what its numbers say.
use Rattle.std.proofs.Common.{◌≤◌, ◌∷◌, ◌++◌, length, decimal, arith}
use Rattle.std.proofs.lemmas.List.{length-append}
use Rattle.std.proofs.lemmas.Fmt.{decimal_is_IsNumeral}
use Rattle.refusals.specs.declared.Layer.{Layer}
use Rattle.refusals.specs.declared.Layer.TheVariants.{File, Source, Campaign, Drawing}
use Rattle.printing.specs.Texts.{new_line}
use Rattle.refusals.specs.Texts.{layer_name}
use Rattle.printing.specs.RefusalTexts.{RefusalsAreShort, RefusalsAreTold}
use Rattle.printing.proofs.Numbers.{three_long, twenty_digits}

pub name_short : (l : Layer) → length (layer_name l) ≤ 8
name_short File = omega arith
name_short Source = omega arith
name_short Campaign = omega arith
name_short Drawing = omega arith

pub refusals_are_short : RefusalsAreShort
refusals_are_short r number place =
    omega (
      arith,
      name_short r.layer,
      three_long r.number (omega (arith, number)),
      twenty_digits r.place place,
      length-append (layer_name r.layer) (0x2C ∷ (decimal r.number ++ 0x2C ∷ (decimal r.place ++ new_line))),
      length-append (decimal r.number) (0x2C ∷ (decimal r.place ++ new_line)),
      length-append (decimal r.place) new_line,
    )

pub refusals_are_told : RefusalsAreTold
refusals_are_told r number place = ((decimal_is_IsNumeral r.number (omega arith)).1, (decimal_is_IsNumeral r.place place).1)
