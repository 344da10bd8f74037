use Rattle.std.proofs.Common.{◌≡◌, ℕ, List, take, Some, None, Option, IfSome, ap, ◌∙◌, arith}
use Rattle.std.specs.Option.{option_map}
use Rattle.std.proofs.lemmas.List.{take-take}
use Rattle.rfc4180.proofs.input.read_input.Goals as goal

-- of known bytes those up to the limit are read, and a cut at the limit leaves them
kept_first : (known : Option (List ℕ)) (read kept : List ℕ) → IfSome (option_map (take 65537) known) (λ xs. read ≡ xs) → kept ≡ take 65537 read → IfSome known (λ xs. kept ≡ take 65537 xs)
kept_first None read kept is cut = tt
kept_first (Some xs) read kept is cut = cut ∙ ap (take 65537) is ∙ take-take 65537 65537 xs (omega arith)

pub returns-clause-bytes : goal.returns-clause-bytes
returns-clause-bytes g c =
    let read = rw (c.take.ensures.limit, c.take.ensures.inner, c.new-bytes.ensures.items) at c.in_ok-read_to_end.ensures.bytes in
    kept_first (g.R.Read.remaining c.args.input) _ _ read c.truncate.ensures.items
