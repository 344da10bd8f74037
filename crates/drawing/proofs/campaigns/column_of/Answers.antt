use Rattle.std.proofs.Common.{◌≡◌, ◌+◌, pos, is_some, unwrap_or, ap, ◌∙◌, rules}
use Rattle.campaign.specs.Columns.{response_in}
use Rattle.probing.proofs.Arrays.{each_made}
use Rattle.drawing.proofs.Copying.{some_if, entries_told}
use Rattle.drawing.proofs.campaigns.column_of.Goals as goal

pub returns-clause-has : goal.returns-clause-has
returns-clause-has c = ap is_some c.then_some.ensures ∙ some_if _ _ ∙ c.has_inverter.ensures

pub returns-clause-entries : goal.returns-clause-entries
returns-clause-entries c p =
    entries_told c.args.campaign.now c.args.inverter _ _ _ c.then_some.ensures p
    (λ k l. each_made _ (λ k y. y ≡ unwrap_or (response_in c.args.campaign.now (k + 1) c.args.inverter) (pos 0)) _ (λ i y q h. search rules) _ _ c.from_fn-entries.ensures.items k (pos 0) l)
