use Rattle.std.proofs.Common.{of_calls}
use Rattle.rfc4180.specs.Views.{piece}
use Rattle.files.specs.Columns.{column_name}
use Rattle.files.proofs.Texts.{name_some, name_quoteless, is_column}
use Rattle.files.proofs.columns.ResponseColumnsColumns.is_right.Goals as goal

pub returns : goal.returns
returns c =
    let k = c.args.k in
    is_column 66 k (column_name k) (name_some k) (name_quoteless k) (piece c.args.field).content c.text.result c.is_some_and.result _ c.text.ensures (λ x p. search of_calls) c.is_some_and.ensures
