use Rattle.std.proofs.Common.{◌≡◌, ◌∙◌, ◌+◌, ◌-◌, not, get_or, pos, ap, subst, arith, rules}
use Rattle.files.specs.Tables.{response_to}
use Rattle.files.proofs.Bounds.{response_there}
use Rattle.probing.proofs.Arrays.{each_made}
use Rattle.sources.proofs.Working.{unprobed_row}
use Rattle.sources.proofs.table_source.responses_to.Goals as goal

pub returns : goal.returns
returns c =
    let t = c.args.table.now in
    let m = c.args.inverter in
    record {
      each = λ n a b.
          let made = each_made _ (λ i y. y ≡ response_to t (i + 1) m) _ (λ i y q h. search rules) _ _ c.from_fn.ensures.items (n - 1) (pos 0) (omega arith) in
          let bus : n - 1 + 1 ≡ n = omega arith in
          subst (λ j. get_or c.from_fn.result (n - 1) (pos 0) ≡ response_to t j m) bus made ∙ response_there t n m a c.requires.0;
    }

pub returns-then-is_none : goal.returns-then-is_none
returns-then-is_none c = unprobed_row c.args.table.now c.args.inverter (c.is_none.ensures ∙ ap not c.if-is_none.true)
