use Rattle.std.proofs.Common.{◌∙◌}
use Rattle.rfc4180.proofs.Quotes.{quote_found}
use Rattle.rfc4180.proofs.field.holds_quote.Goals as goal

pub returns : goal.returns
returns c = c.contains.ensures.value ∙ quote_found c.args.bytes.now
