-- How many bytes stand before a closing quote, one byte other than a quote on.
use Rattle.std.proofs.Common.{◌≡◌, ℕ, ◌+◌, ◌-◌, ◌<◌, false, eqb, ◌≢◌, List, [], ◌∷◌, length, get_or, take, drop, ap, ◌∙◌, add-zero}
use Rattle.std.proofs.lemmas.List.{drop_more, get_or-drop, take_rest}
use Rattle.std.proofs.lemmas.Bool.{ne_eqb}
use Rattle.rfc4180.specs.Reading.{held_length}

on_pass : (x : ℕ) (xs : List ℕ) → eqb x 0x22 ≡ false → held_length (x ∷ xs) ≡ held_length xs + 1
on_pass x [] e = rw e
on_pass x (y ∷ ys) e = rw e

first_of_rest : (bytes : List ℕ) (at : ℕ) → get_or (take (length bytes - at) (drop at bytes)) 0 0 ≡ get_or bytes at 0
first_of_rest bytes at =
    ap (λ l. get_or l 0 0) (take_rest bytes at) ∙ get_or-drop at bytes 0 0 ∙ ap (λ k. get_or bytes k 0) (add-zero at)

pub held_pass : (bytes : List ℕ) (at : ℕ) → at < length bytes → get_or (take (length bytes - at) (drop at bytes)) 0 0 ≢ 0x22 →
    held_length (drop at bytes) ≡ held_length (drop (at + 1) bytes) + 1
held_pass bytes at l n =
    ap held_length (drop_more bytes at 0 l)
    ∙ on_pass (get_or bytes at 0) (drop (at + 1) bytes) (ne_eqb (get_or bytes at 0) 0x22 (λ e. n (first_of_rest bytes at ∙ e)))
