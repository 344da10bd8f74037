use Rattle.std.proofs.Common.{◌^◌, ◌≤◌, arith}
use native.Mathlib.Nat.{pow-le-pow_right}
use Rattle.std.proofs.lemmas.Nat.{mul-le}
use Rattle.units.proofs.decimals.scaled.Goals as goal

pub returns-clause-small : goal.returns-clause-small
returns-clause-small c =
    let power : 10 ^ c.args.k ≤ 10 ^ 9 = pow-le-pow_right {n = 10} (omega arith) {j = 9} (omega arith) in
    let product = mul-le c.args.n (10 ^ c.args.k) c.args.n 1000000000 (omega arith) power in
    grind (arith, product)
