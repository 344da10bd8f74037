use Rattle.std.proofs.Common.{◌≡◌, ◌+◌, ◌-◌, false, get_or, is_some, subst, arith, rules}
use Rattle.files.specs.Tables.{probe_of}
use Rattle.probing.proofs.Arrays.{each_made}
use Rattle.sources.proofs.table_source.inverters.Goals as goal

pub returns : goal.returns
returns c m a b =
    let t = c.args.table.now in
    let mark = each_made _ (λ i y. y ≡ is_some (probe_of t (i + 1))) _ (λ i y q h. search (rules, h)) _ _ c.from_fn.ensures.items (m - 1) false (omega arith) in
    let bus : m - 1 + 1 ≡ m = omega arith in
    subst (λ j. get_or c.from_fn.result (m - 1) false ≡ is_some (probe_of t j)) bus mark
