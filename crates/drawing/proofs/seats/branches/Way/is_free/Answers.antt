use Rattle.std.proofs.Common.{◌≡◌, ◌∙◌, rules}
use Rattle.std.proofs.lemmas.Bool.Decides.{Decides-like, Decides-not}
use Rattle.drawing.specs.Responses.{entries_of}
use Rattle.drawing.specs.Places.{far_of}
use Rattle.drawing.proofs.Ranges.{any_decided}
use Rattle.drawing.proofs.seats.branches.Way.is_free.Goals as goal

pub returns : goal.returns
returns c =
    let entries = entries_of c.args.self.now.metered.responses.now in
    Decides-like _ (λ none n h e f. none (n, h.0, h.1, (e, f))) (λ free t. free t.0 (t.1, t.2) t.3.0 t.3.1)
    (Decides-not c.any.result (any_decided c.new.result 1 entries.metered c.new.ensures.start (c.new.ensures.end ∙ c.buses.ensures.value) c.new.ensures.exhausted _ _ (λ a b q h. search rules) (λ n. (entries.entry n c.args.self.now.inverter ≡ c.args.distance) × (far_of c.args.self.now.metered.seats.now n ≡ c.args.distance)) (λ n t low high h. search rules) _ c.any.ensures.runs))
