use Rattle.std.proofs.Common.{ap, ◌∙◌}
use Rattle.rfc4180.specs.Views.{pieces}
use Rattle.files.specs.Columns.{right_column, columns_of}
use Rattle.files.proofs.Headers.{columns_of_kept}
use Rattle.files.proofs.columns.read_response_columns.Goals as goal

pub returns : goal.returns
returns c =
    c.read_columns.ensures ∙ ap (columns_of right_column) c.fields.ensures.pieces ∙ columns_of_kept (pieces c.args.header.now)
