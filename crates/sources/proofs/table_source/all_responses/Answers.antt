use Rattle.std.proofs.Common.{◌≡◌, ◌+◌, ◌-◌, [], get_or, subst, arith, rules}
use Rattle.probing.proofs.Arrays.{each_made}
use Rattle.sources.specs.TableFacts.{AreResponsesTo}
use Rattle.sources.proofs.table_source.all_responses.Goals as goal

pub returns : goal.returns
returns c m a b =
    let t = c.args.table.now in
    let row = each_made _ (λ i ys. AreResponsesTo t (i + 1) ys) _ (λ i y q h. search (rules, h)) _ _ c.from_fn.ensures.items (m - 1) [] (omega arith) in
    let bus : m - 1 + 1 ≡ m = omega arith in
    subst (λ j. AreResponsesTo t j (get_or c.from_fn.result (m - 1) [])) bus row
