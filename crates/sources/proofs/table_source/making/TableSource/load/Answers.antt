use Rattle.std.proofs.Common.{refl, ap, ◌∙◌}
use Rattle.std.proofs.lemmas.Result.{err_from_is_err_and}
use Rattle.files.specs.declared.table.Table.{Table}
use Rattle.files.proofs.Bounds.{accepted_few}
use Rattle.probing.specs.Settings.{with_kept}
use Rattle.sources.specs.TableFacts.{table_plant}
use Rattle.sources.proofs.Making.{idle_kept}
use Rattle.sources.proofs.table_source.making.TableSource.load.Goals as goal

pub of-requires : goal.of-requires
of-requires c = accepted_few c.args.file.now c.read.new.self c.in_ok-read.ensures.reads

pub returns-in_err-read : goal.returns-in_err-read
returns-in_err-read c =
    let p = err_from_is_err_and c.from_residual.result c.from_residual.ensures.1 in
    rw (p.1, p.2) (c.in_err-read.ensures.reads.0, refl)

pub returns : goal.returns
returns c =
    let table : Table = c.read.new.self in
    let means =
    ap (λ p. with_kept p c.new.result.thousandths) c.of.ensures ∙
    ap (with_kept (table_plant table)) c.new.ensures ∙
    idle_kept (table_plant table) in
    (table, c.in_ok-read.ensures.reads, means)
