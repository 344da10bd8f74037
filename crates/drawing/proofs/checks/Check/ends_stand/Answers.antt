use Rattle.std.proofs.Common.{length, ◌∙◌, rules}
use Rattle.std.proofs.lemmas.Bool.Decides.{Decides-like, Decides-not}
use Rattle.feeder.specs.View.{lines_of}
use Rattle.drawing.specs.Responses.{entries_of}
use Rattle.drawing.specs.Checks.{BareEnd}
use Rattle.drawing.proofs.Checked.{ends_stand}
use Rattle.drawing.proofs.Ranges.{any_decided}
use Rattle.drawing.proofs.checks.Check.ends_stand.Goals as goal

pub returns : goal.returns
returns c =
    let entries = entries_of c.args.self.now.responses.now in
    let lines = lines_of c.args.self.now.map.now in
    Decides-like _ (ends_stand entries lines) (λ h t. t.3.1 (h t.0 t.3.0))
    (Decides-not c.any.result (any_decided c.new.result 1 (length lines) c.new.ensures.start (c.new.ensures.end ∙ c.buses.ensures) c.new.ensures.exhausted _ _ (λ a b q h. search rules) (BareEnd entries lines) (λ n t low high h. search rules) _ c.any.ensures.runs))
