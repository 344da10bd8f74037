use Rattle.std.proofs.Common.{sym}
use Rattle.rfc4180.specs.Places.{held}
use Rattle.rfc4180.specs.Views.{piece}
use Rattle.units.specs.Decimals.{places_of}
use Rattle.files.proofs.Texts.{text_none, odd_decimal}
use Rattle.files.proofs.numbers.decimal_field.Goals as goal

pub returns-in_err-text : goal.returns-in_err-text
returns-in_err-text c =
    let content = (piece c.args.field).content in
    rw c.from_residual.ensures (sym (odd_decimal (places_of c.args.scale) (held content) (text_none content c.in_err-text.ensures)))
