use Rattle.std.proofs.Common.{sym, ap, ◌∙◌}
use Rattle.std.specs.Str.{bytes_eq}
use Rattle.files.proofs.Names.{name_decimal}
use Rattle.files.proofs.columns.is_bus_name.Goals as goal

pub returns : goal.returns
returns c =
    let name = c.as_bytes.ensures.value ∙ c.format.ensures.text ∙ sym (name_decimal c.args.bus c.requires) in
    c.eq.ensures ∙ ap (bytes_eq c.args.text.now) name
