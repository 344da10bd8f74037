use Rattle.std.proofs.Common.{◌∙◌, rules}
use Rattle.drawing.specs.Responses.{entries_of}
use Rattle.drawing.specs.Places.{SeatOn}
use Rattle.drawing.proofs.Listings.{NoneOn, next_is}
use Rattle.drawing.proofs.Ranges.{found_map}
use Rattle.drawing.proofs.seats.branches.Metered.next_seat.Goals as goal

pub returns : goal.returns
returns c =
    let entries = entries_of c.args.self.now.responses.now in
    let seats = c.args.self.now.seats.now in
    next_is entries seats c.args.last c.find_map.result
    (found_map c.new.result c.args.last.inverter entries.metered c.new.ensures.start (c.new.ensures.end ∙ c.buses.ensures.value) c.new.ensures.exhausted _ _ (λ a b q h. search rules) (NoneOn entries seats c.args.last) (λ m s. SeatOn entries seats c.args.last m s) (λ n t low high h. search rules) _ c.find_map.ensures.runs)
