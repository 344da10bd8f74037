-- A text reads as a bus number exactly where it is one to four digits.
use Rattle.std.proofs.Common.{◌≡◌, ℕ, Bool, true, false, cond, List, Some, None, Option, refl, ap, ◌∙◌, sym}
use Rattle.std.proofs.lemmas.Bool.{both_ways}
use Rattle.units.specs.Decimals.{number, is_number, bus_of, ReadsBus}
use Rattle.units.proofs.Forms.{is_number-true, number-true}

pub bus_reads : (text : List ℕ) → ReadsBus text (bus_of text)
bus_reads text = go (is_number 4 text) refl
  where
    go : (t : Bool) → is_number 4 text ≡ t → ReadsBus text (cond t (Some (number text)) None)
    go true e = let form = is_number-true 4 text e in record { digital = form.digital; some = form.some; four = form.few; is = refl }
    go false e = λ n bus. both_ways (is_number 4 text) e (number-true 4 text bus.some bus.four bus.digital)

-- A text is one bus number alone.
pub bus_unique : (text : List ℕ) (a b : Option ℕ) → ReadsBus text a → ReadsBus text b → a ≡ b
bus_unique text (Some m) (Some n) p q = ap Some (p.is ∙ sym q.is)
bus_unique text (Some m) None p none = absurd (none m p)
bus_unique text None (Some n) none q = absurd (none n q)
bus_unique text None None p q = refl
