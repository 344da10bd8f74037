use Rattle.std.proofs.Common.{◌-◌, rules}
use Rattle.drawing.specs.Responses.{entries_of}
use Rattle.drawing.proofs.Reading.{entry_told}
use Rattle.drawing.proofs.responses.Responses.entry.Goals as goal

pub returns : goal.returns
unfolding entries_of
returns c = entry_told c.as_ref.result _ _ (c.args.bus - 1) c.map_or.result c.as_ref.ensures.value (λ x h. search rules) c.map_or.ensures
