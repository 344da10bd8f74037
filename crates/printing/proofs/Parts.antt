-- A text put together part by part.
use Rattle.std.proofs.Common.{◌≡◌, ℕ, List, ◌++◌}
use Rattle.std.proofs.lemmas.List.{append_assoc}

pub six_parts : (f a b c d e g : List ℕ) → (((((f ++ a) ++ b) ++ c) ++ d) ++ e) ++ g ≡ f ++ (a ++ (b ++ (c ++ (d ++ (e ++ g)))))
six_parts f a b c d e g = simp append_assoc
