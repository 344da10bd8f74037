use Rattle.std.proofs.Common.{◌≡◌, ◌*ℤ◌, sym, ap, subst, w64, SFits, rules}
use Rattle.std.proofs.lemmas.Int.{to_z-of_z}
use Rattle.probing.proofs.Voltages.{product_fits}
use Rattle.sources.proofs.grid_source.product.Goals as goal

pub returns : goal.returns
returns c =
    let a = c.args.response in
    let b = c.args.setting in
    let response : SFits w64 a = c.ranges.response in
    let setting : SFits w64 c.from.result = search rules in
    let same : c.from.result ≡ b = search rules in
    let whole : SFits w64 (a *ℤ c.from.result) = subst (λ z. SFits w64 (a *ℤ z)) (sym same) (product_fits a b c.requires.0 c.requires.1) in
    simp to_z-of_z (ap (λ z. a *ℤ z) same)
