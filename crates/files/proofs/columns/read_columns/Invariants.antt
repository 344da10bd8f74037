use Rattle.std.proofs.Common.{◌≡◌, map, drop}
use Rattle.rfc4180.specs.Views.{piece}
use Rattle.files.specs.Columns.{columns_of, columns_from}
use Rattle.files.proofs.columns.read_columns.Given as goal

abbrev pub invariant-loop-k : goal.invariant-loop-k
invariant-loop-k g l = columns_of g.C.Columns.right (map piece l.header) ≡ columns_from g.C.Columns.right l.k (map piece (drop l.k l.header))
