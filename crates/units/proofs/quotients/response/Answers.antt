use Rattle.std.proofs.Common.{◌≡◌, ℤ, Option, sym, subst, rules}
use Rattle.units.specs.Quotients.{response_of, Divides}
use Rattle.units.proofs.Division.{divides}
use Rattle.units.proofs.quotients.response.Goals as goal

pub returns-clause-divides : goal.returns-clause-divides
returns-clause-divides c = λ some.
    let same : c.then_some.result ≡ response_of c.args.change c.args.step = search rules in
    let P : Option ℤ → Type 0 = Divides c.args.change c.args.step in
    subst P (sym same) (divides c.args.change c.args.step some)
