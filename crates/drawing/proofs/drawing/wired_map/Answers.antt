use Rattle.drawing.specs.Responses.{entries_of}
use Rattle.drawing.proofs.Reading.{some}
use Rattle.drawing.proofs.Outcomes.{is_made}
use Rattle.drawing.proofs.drawing.wired_map.Goals as goal

pub unwrap-requires : goal.unwrap-requires
unwrap-requires c =
    let seating = c.args.seating.now in
    is_made (entries_of seating.responses.now) seating.seats.now c.wires-lines.result.items c.requires.seated c.wires-lines.ensures (some seating.responses.now) c.requires.near c.from_lines.ensures.accepts c.buses.ensures.value c.deref.ensures.0 c.from_lines.result _ c.from_lines.ensures.value
