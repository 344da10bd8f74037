use Rattle.rfc4180.specs.Reading.{held_at, quoted_at}
use Rattle.rfc4180.proofs.Pieces.{unquoted, plain_found}
use Rattle.rfc4180.proofs.place.Place.field.Goals as goal

pub returns-in_default-plain-clause-value : goal.returns-in_default-plain-clause-value
returns-in_default-plain-clause-value c =
    let file = c.args.self.file.now in
    let at = c.args.self.at in
    plain_found file at c.plain.result.now c.plain.ensures c.in_default-plain.len_at_least (unquoted (quoted_at file at) (held_at file at) c.in_default.ensures)
