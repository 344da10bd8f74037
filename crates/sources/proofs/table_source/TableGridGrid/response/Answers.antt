use Rattle.std.proofs.Common.{◌≡◌, ◌-◌, ◌≤◌, true, [], ℤ, pos, negsuc, get_or, nat_abs, sym, ◌∙◌, subst, arith, w64, SFits}
use Rattle.std.proofs.lemmas.Bool.{and_from, cond-true}
use Rattle.std.proofs.lemmas.Int.{to_z-of_z}
use Rattle.sources.specs.GridFacts.{within}
use Rattle.sources.specs.LineFacts.{marked}
use Rattle.sources.proofs.table_source.TableGridGrid.response.Goals as goal

fitting : (z : ℤ) → nat_abs z ≤ 1000000 → SFits w64 z
fitting (pos n) h = record { sfits = omega arith }
fitting (negsuc n) h = record { sfits = omega arith }

pub returns : goal.returns
returns c =
    let g = c.args.self.now in
    let n = c.args.bus in
    let m = c.args.inverter in
    let x = get_or (get_or g.responses (m - 1) []) (n - 1) (pos 0) in
    let there : marked g.buses g.inverters m ≡ true = sym c.has_inverter.ensures ∙ c.if-not-has_inverter.false in
    let near : within g.buses n ≡ true = sym c.is_metered.ensures ∙ c.if-not-is_metered.false in
    let counts = cond-true _ x (pos 0) (and_from (marked g.buses g.inverters m) (within g.buses n) there near) in
    let fits : SFits w64 x = fitting x (subst (λ z. nat_abs z ≤ 1000000) counts (g.bounds.responses n m)) in
    simp to_z-of_z (sym counts)
