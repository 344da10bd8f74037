use Rattle.std.proofs.Common.{ap, ◌∙◌}
use Rattle.rfc4180.specs.Views.{pieces}
use Rattle.files.specs.Columns.{columns_of}
use Rattle.maps.specs.Columns.{right_map_column}
use Rattle.maps.proofs.Headers.{columns_of_kept}
use Rattle.maps.proofs.columns.read_map_columns.Goals as goal

pub returns : goal.returns
returns c =
    c.read_columns.ensures ∙ ap (columns_of right_map_column) c.fields.ensures.pieces ∙ columns_of_kept (pieces c.args.header.now)
