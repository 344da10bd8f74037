use Rattle.std.proofs.Common.{◌≡◌, ◌^◌, ◌<◌, drop, fold}
use Rattle.units.specs.Decimals.{digits, push, number}
use Rattle.units.proofs.numbers.number.Given as goal

abbrev pub invariant-loop-b : goal.invariant-loop-b
invariant-loop-b l =
    (digits l.text ≡ digits (drop l.b-index l.text)) ×
    (number l.text ≡ fold push l.n (drop l.b-index l.text)) ×
    (l.n < 10 ^ l.b-index)
