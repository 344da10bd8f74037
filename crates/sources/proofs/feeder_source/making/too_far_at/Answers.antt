use Rattle.std.proofs.Common.{◌≡◌, ltb, nat_abs, sym, ◌∙◌, w64, SFits, rules, tests}
use Rattle.std.proofs.lemmas.Iterator.{YieldsList-from_slice}
use Rattle.std.proofs.lemmas.Iterator.Search.{position_from_yields_List}
use Rattle.std.specs.List.{position}
use Rattle.sources.proofs.Entries.{first_position}
use Rattle.sources.proofs.feeder_source.making.too_far_at.Goals as goal

pub returns : goal.returns
returns c =
    let found : c.position.result ≡ position (λ v. ltb 1000000000 (nat_abs v)) c.args.standing.now =
    position_from_yields_List (λ v. ltb 1000000000 (nat_abs v)) _ _ c.position.result c.position.ensures.ran (YieldsList-from_slice _ c.iter.ensures.rest)
    (λ x b q k. let fits : SFits w64 x.now = search rules in search (rules, tests)) in
    found ∙ sym (first_position (λ v. ltb 1000000000 (nat_abs v)) c.args.standing.now)
