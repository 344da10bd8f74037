-- The farthest bus above another so far, the lines so far, and the wiring that they make.
use Rattle.std.proofs.Common.{◌≡◌, ℕ, ◌+◌, ◌-◌, ◌<◌, ◌≤◌, ◌⊎◌, List, [], ◌∷◌, ◌++◌, length, get_or, sym, subst, ⊎_elim, arith}
use Rattle.std.proofs.lemmas.List.{length_push, get_or_push, get_or_append_left}
use Rattle.std.proofs.lemmas.Bool.{cases_eq}
use Rattle.feeder.specs.declared.line.Line.{Line}
use Rattle.feeder.specs.Feeder.{blank, Bus, line_of, parent_of}
use Rattle.drawing.specs.declared.seat.Seat.{Seat}
use Rattle.drawing.specs.Seats.{Entries, Wiring, Above}
use Rattle.drawing.specs.Places.{seat_of, far_of}
use Rattle.drawing.specs.Seating.{last_of, Seated, SitsAbove, SeatedLine, Wires}

-- the farthest bus below i that sits above bus x
pub record ParentTo (E : Entries) (s : List Seat) (x i p : ℕ) : Type 0 where
  pub above : (p ≡ 0) ⊎ SitsAbove E s p x
  pub nearest : (y : ℕ) → y < i → SitsAbove E s y x → far_of s y ≤ far_of s p
  pub below : p ≤ last_of s

-- the lines of the buses below i
pub record WiredTo (E : Entries) (s : List Seat) (i : ℕ) (lines : List Line) : Type 0 where
  pub places : length lines + 1 ≡ i
  pub each : (x : ℕ) → 0 < x → x < i → SeatedLine E s x (get_or lines (x - 1) blank)

pub wired_more : (E : Entries) (s : List Seat) (i : ℕ) (lines : List Line) (line : Line) → WiredTo E s i lines → SeatedLine E s i line → WiredTo E s (i + 1) (lines ++ line ∷ [])
wired_more E s i lines line W L = record { places = omega (arith, length_push lines line, W.places); each = λ x p k. ⊎_elim (λ e. subst (λ z. SeatedLine E s z (get_or (lines ++ line ∷ []) (z - 1) blank)) (sym e) (subst (SeatedLine E s i) (sym (get_or_push lines line blank (i - 1) (omega (arith, W.places)))) L)) (λ n. subst (SeatedLine E s x) (sym (get_or_append_left lines (line ∷ []) blank (x - 1) (omega (arith, W.places)))) (W.each x p (omega arith))) (cases_eq x i) }

-- the lines of all buses are wired
module _ (E : Entries) (s : List Seat) (lines : List Line) (S : Seated E s) (W : Wires E s lines) where
  drawn_line : (x : ℕ) → Bus lines x → SeatedLine E s x (line_of lines x)
  drawn_line x b = W.each x b.0 (omega (arith, b.1, W.places))

  pub wired : Wiring E (seat_of s) (far_of s) lines
  wired = record { substation = S.substation; parents = λ x b. subst (λ n. (parent_of lines x ≡ 0) ⊎ Above E (seat_of s) (far_of s) n (parent_of lines x) x) (sym W.places) (drawn_line x b).parent.above; nearest = λ x y b a. (drawn_line x b).parent.nearest y (subst (λ n. Above E (seat_of s) (far_of s) n y x) W.places a); resistances = λ x b. (drawn_line x b).resistance }
