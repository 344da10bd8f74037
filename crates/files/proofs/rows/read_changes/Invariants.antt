use Rattle.std.proofs.Common.{◌≡◌, map, drop}
use Rattle.rfc4180.specs.Views.{piece}
use Rattle.files.specs.Rows.{changes_from, no_changes}
use Rattle.files.proofs.rows.read_changes.Given as goal

abbrev pub invariant-loop-n : goal.invariant-loop-n
invariant-loop-n l = changes_from l.step 0 no_changes (map piece l.fields) ≡ changes_from l.step l.n l.changes (map piece (drop l.n l.fields))
