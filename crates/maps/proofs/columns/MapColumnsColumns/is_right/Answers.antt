use Rattle.std.proofs.Common.{of_calls}
use Rattle.rfc4180.specs.Views.{piece}
use Rattle.files.proofs.Texts.{is_column}
use Rattle.maps.specs.Columns.{map_column}
use Rattle.maps.proofs.Names.{name_some, name_quoteless}
use Rattle.maps.proofs.columns.MapColumnsColumns.is_right.Goals as goal

pub returns : goal.returns
returns c =
    let k = c.args.k in
    is_column 3 k (map_column k) (name_some k) (name_quoteless k) (piece c.args.field).content c.text.result c.is_some_and.result _ c.text.ensures (λ x p. search of_calls) c.is_some_and.ensures
