use Rattle.maps.proofs.Outcomes.{drawn_lines}
use Rattle.maps.proofs.reading.draw_lines.Goals as goal

pub returns : goal.returns
returns c =
    drawn_lines c.args.lines.now c.from_lines.result c.map_err.result c.requires.few c.requires.sound c.from_lines.ensures.value c.map_err.ensures.cases
