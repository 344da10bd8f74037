-- What the last check tells of a map's lines.
use Rattle.std.proofs.Common.{◌≡◌, ℕ, ◌<◌, ◌≤◌, List, length, ⊎_elim, arith}
use Rattle.feeder.specs.declared.line.Line.{Line}
use Rattle.feeder.specs.declared.map.Map.{Map}
use Rattle.feeder.specs.View.{lines_of, metered_of}
use Rattle.feeder.proofs.Maps.{map_stands}
use Rattle.drawing.specs.Seats.{Entries}
use Rattle.drawing.specs.Checks.{SameResponses, BareEnd, EndsStand}
use Rattle.drawing.specs.Yielded.{Yielded}
use Rattle.drawing.proofs.Exact.{decided}

-- where no end is bare, every end has an inverter
pub ends_stand : (E : Entries) (F : List Line) → ((b : ℕ) × (1 ≤ b) × (b ≤ length F) × BareEnd E F b → ⊥) → EndsStand E F
ends_stand E F none b e = ⊎_elim (λ i. i) (λ n. absurd (none (b, e.0.0, e.0.1, (e, n)))) (decided E b)

pub right_from : (E : Entries) (map : Map) → 0 < E.metered → metered_of map ≡ E.metered → SameResponses E (lines_of map) → EndsStand E (lines_of map) → Yielded E (lines_of map)
right_from E map some metered same ends =
    let S = map_stands map in
    record { feeder = S.feeder (omega (arith, S.metered)); metered = omega (arith, S.metered); ends = ends; responses = λ n m hn hm. same m hm n hn }
