use Rattle.printing.proofs.MapTexts.{maps_are_short, numbers_read_back}
use Rattle.printing.proofs.map_text.write_map.Goals as goal

pub returns-clause-short : goal.returns-clause-short
returns-clause-short c = maps_are_short

pub returns-clause-numbers : goal.returns-clause-numbers
returns-clause-numbers c = numbers_read_back
