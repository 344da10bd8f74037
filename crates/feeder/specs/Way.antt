-- Ways up to the substation, over any numbering of buses by a function that gives each bus its parent.
use Rattle.std.specs.Prelude.{◌≡◌, ℕ, zero, suc, ◌<◌, Bool, true, false, cond, List, [], ◌∷◌, filter, ◌==◌}

-- the way of a bus: the bus, its parent, and so on up to the substation 0, which is not part of it
pub data Way (parent : ℕ → ℕ) : ℕ → List ℕ → Type 0 where
  top : Way parent 0 []
  up : {b : ℕ} {w : List ℕ} → 0 < b → Way parent (parent b) w → Way parent b (b ∷ w)

-- the bus c lies on the way of another: it is that bus, or lies on the way of its parent
pub data On (parent : ℕ → ℕ) (c : ℕ) : ℕ → Type 0 where
  here : 0 < c → On parent c c
  above : {b : ℕ} → 0 < b → On parent c (parent b) → On parent c b

-- the way of b as a list, found by going up at most k lines
abbrev pub climb : ℕ → (ℕ → ℕ) → ℕ → List ℕ
climb zero parent b = []
climb (suc k) parent b = cond (b == 0) [] (b ∷ climb k parent (parent b))

-- whether the bus c stands in a list
abbrev pub is_in : List ℕ → ℕ → Bool
is_in [] c = false
is_in (b ∷ w) c = cond (c == b) true (is_in w c)

-- the buses of v that stand in w too
abbrev pub shared : List ℕ → List ℕ → List ℕ
shared v w = filter (is_in w) v

-- no number stands twice in the list
abbrev pub NoRepeats : List ℕ → Type 0
NoRepeats [] = Unit {0}
NoRepeats (b ∷ w) = (is_in w b ≡ false) × NoRepeats w
