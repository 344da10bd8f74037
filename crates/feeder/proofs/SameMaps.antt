-- Maps of the same lines and as many metered buses are equal.
use Rattle.std.proofs.Common.{◌≡◌, ℕ, ◌<◌, length, sym, ap, ◌∙◌, arith}
use Rattle.std.proofs.lemmas.List.{ext_get_or}
use Rattle.feeder.specs.declared.line.Line.{Line}
use Rattle.feeder.specs.declared.map.Map.{Map}
use Rattle.feeder.specs.Feeder.{distance}
use Rattle.feeder.specs.View.{lines_of, MapsAreTheirLines}
use Rattle.feeder.proofs.Maps.{held, map_distance}
use denote.Struct.Cover.{Cover-one}
use Rattle.feeder.specs.contracts.map.Map.{the_type}

-- a line is its parent and its resistance
pub same_line : (a b : Line) → a.parent ≡ b.parent → a.resistance ≡ b.resistance → a ≡ b
same_line a b p r = λ i. record { parent = p i; resistance = r i }

-- maps of the same lines hold the same distances
same_distances : (a b : Map) → lines_of a ≡ lines_of b → a.distances.items ≡ b.distances.items
same_distances a b lines = ext_get_or 0 a.distances.items b.distances.items (omega (arith, a.placed, b.placed, ap length lines)) far
  where
    far : (k : ℕ) → k < length a.distances.items → held a k ≡ held b k
    far k h = map_distance a k (omega (arith, a.placed)) ∙ ap (λ t. distance t k) lines ∙ sym (map_distance b k (omega (arith, a.placed, ap length lines)))

pub maps_are_their_lines : MapsAreTheirLines
maps_are_their_lines a b e lines =
    let distances = same_distances a b lines in
    Cover-one the_type.cover the_type.propositions a b (λ i. (e i, (record { items = lines i }, (record { items = distances i }, tt))))
