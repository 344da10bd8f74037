use Rattle.std.proofs.Common.{◌≡◌, ◌+◌, ◌-◌, false, get_or, subst, arith, rules}
use Rattle.files.specs.Tables.{mute_of}
use Rattle.probing.proofs.Arrays.{each_made}
use Rattle.sources.proofs.table_source.mute_meters.Goals as goal

pub returns : goal.returns
returns c n a b =
    let t = c.args.table.now in
    let mark = each_made _ (λ i y. y ≡ mute_of t (i + 1)) _ (λ i y q h. search rules) _ _ c.from_fn.ensures.items (n - 1) false (omega arith) in
    let bus : n - 1 + 1 ≡ n = omega arith in
    subst (λ j. get_or c.from_fn.result (n - 1) false ≡ mute_of t j) bus mark
