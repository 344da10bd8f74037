use Rattle.std.proofs.Common.{ap, ◌∙◌}
use Rattle.files.specs.Tables.{empty_table}
use Rattle.probing.specs.Settings.{with_kept}
use Rattle.sources.specs.TableFacts.{table_plant}
use Rattle.sources.proofs.Making.{idle_kept}
use Rattle.sources.proofs.Working.{nothing_worked}
use Rattle.sources.proofs.table_source.making.TableSource.new.Goals as goal

pub returns : goal.returns
returns c =
    ap (λ p. with_kept p c.new.result.thousandths) nothing_worked ∙
    ap (with_kept (table_plant (empty_table 1))) c.new.ensures ∙
    idle_kept (table_plant (empty_table 1))
