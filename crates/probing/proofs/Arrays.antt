-- What `array::from_fn` leaves, where the calls leave the closure as it was.
use Rattle.std.proofs.Common.{◌≡◌, ℕ, zero, suc, ◌+◌, ◌<◌, ◌≤◌, List, get_or, sym, subst, inl, inr, arith}
use Rattle.std.specs.Array.{IsFromFnResultFrom, IsFromFnResult}
use Rattle.std.specs.Fn.{Called}
use Rattle.std.proofs.lemmas.Bool.{cases_eq}
use denote.Param.Members.{Mut}

module _ {F B : Type 0} (g : Mut F (ℕ × Unit {0}) B) (P : ℕ → B → Type 0) (f : F) (told : (i : ℕ) (y : B) (q : F) → Called g f (i, tt) y q → P i y × (q ≡ f)) where
  each_from : (ys : List B) (i n : ℕ) → IsFromFnResultFrom g f ys i n → (k : ℕ) (d : B) → i ≤ k → k < i + n → P k (get_or ys k d)
  each_from ys i zero h k d le lt = absurd (omega arith)
  each_from ys i (suc n) (q, y, at, call, rest) k d le lt =
      let here = told i y q call in
      elim (cases_eq k i) [
        | inl same ↦ subst (λ j. P j (get_or ys j d)) (sym same) (subst (P i) (sym (at.1 d)) here.0)
        | inr other ↦ each_from ys (i + 1) n (subst (λ p. IsFromFnResultFrom g p ys (i + 1) n) here.1 rest) k d (omega arith) (omega arith)
      ]

  -- what each call tells holds of each element
  pub each_made : (ys : List B) (n : ℕ) → IsFromFnResult g f ys n → (k : ℕ) (d : B) → k < n → P k (get_or ys k d)
  each_made ys n h k d lt = each_from ys 0 n h.each k d (omega arith) (omega arith)
