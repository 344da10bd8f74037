use Rattle.std.proofs.Common.{◌++◌, length, drop, replicate, pos, sym, subst, refl, rules}
use Rattle.sources.specs.LineMaking.{Copies}
use Rattle.sources.proofs.Entries.{copies_before}
use Rattle.sources.proofs.feeder_source.making.stand.Goals as goal

pub returns : goal.returns
returns c =
    let xs = c.args.standing.now in (
      search rules,
      subst (λ ys. Copies xs (ys ++ drop (length xs) (replicate 64 (pos 0)))) (sym c.copy_from_slice.ensures.after) (copies_before xs (length xs) refl),
    )
