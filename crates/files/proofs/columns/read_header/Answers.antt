use Rattle.std.proofs.Common.{sym, arith}
use Rattle.rfc4180.specs.Views.{pieces}
use Rattle.files.proofs.Headers.{columns_few}
use Rattle.files.proofs.columns.read_header.Goals as goal

pub returns-clause-buses : goal.returns-clause-buses
returns-clause-buses c =
    let few = columns_few (pieces c.args.header.now) c.in_ok-columns.columns (sym c.in_ok-columns.ensures) in
    (omega arith, omega arith)
