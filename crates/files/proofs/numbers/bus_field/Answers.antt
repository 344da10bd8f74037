use Rattle.std.proofs.Common.{sym, ap, ◌∙◌}
use Rattle.rfc4180.specs.Views.{piece}
use Rattle.files.proofs.Texts.{text_some}
use Rattle.units.specs.Decimals.{bus_of}
use Rattle.files.proofs.numbers.bus_field.Goals as goal

pub returns : goal.returns
returns c =
    let content = (piece c.args.field).content in
    c.bus_number.ensures.value ∙ ap bus_of (sym (text_some content c.in_ok-text.field-0.now c.in_ok-text.ensures))
