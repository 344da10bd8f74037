use Rattle.std.proofs.Common.{◌∙◌, rules}
use Rattle.std.proofs.lemmas.Bool.Decides.{Decides-like}
use Rattle.feeder.specs.View.{lines_of}
use Rattle.drawing.specs.Seats.{Inverter}
use Rattle.drawing.specs.Responses.{entries_of}
use Rattle.drawing.specs.Checks.{SameColumn}
use Rattle.drawing.proofs.Ranges.{all_decided}
use Rattle.drawing.proofs.checks.Check.same_responses.Goals as goal

pub returns : goal.returns
returns c =
    let entries = entries_of c.args.self.now.responses.now in
    Decides-like c.all.result (λ h m i. h m i.0.0 i.0.1 i) (λ h m low high i. h m i)
    (all_decided c.new.result 1 entries.metered c.new.ensures.start (c.new.ensures.end ∙ c.buses.ensures.value) c.new.ensures.exhausted _ _ (λ a b q h. search rules) (λ m. Inverter entries m → SameColumn entries (lines_of c.args.self.now.map.now) m) (λ n t low high h. search rules) _ c.all.ensures.runs)
