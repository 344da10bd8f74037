-- A drawing of a moderate campaign has one answer.
use Rattle.std.proofs.Common.{◌≡◌, ℕ, Some, None, Err, Option, sym, refl, ap, ◌∙◌, arith}
use Rattle.feeder.specs.View.{lines_of}
use Rattle.feeder.proofs.Alone.{drawn_alone}
use Rattle.feeder.proofs.SameMaps.{maps_are_their_lines}
use Rattle.campaign.specs.declared.drawing_fault.DrawingFault.TheVariants.{ColumnMissing, InverterMissing}
use Rattle.campaign.specs.Drawings.{columns_of, incomplete, unequipped, nowhere, drawn, DrawingsAreAlone}

-- what is missing is one bus
one : {o : Option ℕ} {m n : ℕ} → o ≡ Some m → o ≡ Some n → m ≡ n
one e f = cc

some_or_none : {o : Option ℕ} {m : ℕ} → o ≡ Some m → o ≡ None → ⊥
some_or_none e f = let z : ◌≡◌ {A = ℕ} 0 1 = cc in omega arith

pub drawings_are_alone : DrawingsAreAlone
drawings_are_alone c kind old a b m n moderate (incomplete i e) (incomplete j f) = (ap (λ k. Err (ColumnMissing k)) (one e f), refl)
drawings_are_alone c kind old a b m n moderate (incomplete i e) (unequipped j f g) = absurd (some_or_none e f)
drawings_are_alone c kind old a b m n moderate (incomplete i e) (nowhere f g none) = absurd (some_or_none e f)
drawings_are_alone c kind old a b m n moderate (incomplete i e) (drawn new f g d) = absurd (some_or_none e f)
drawings_are_alone c kind old a b m n moderate (unequipped i e h) (incomplete j f) = absurd (some_or_none f e)
drawings_are_alone c kind old a b m n moderate (unequipped i e h) (unequipped j f g) = (ap (λ k. Err (InverterMissing k)) (one h g), refl)
drawings_are_alone c kind old a b m n moderate (unequipped i e h) (nowhere f g none) = absurd (some_or_none h g)
drawings_are_alone c kind old a b m n moderate (unequipped i e h) (drawn new f g d) = absurd (some_or_none h g)
drawings_are_alone c kind old a b m n moderate (nowhere e h some) (incomplete j f) = absurd (some_or_none f e)
drawings_are_alone c kind old a b m n moderate (nowhere e h some) (unequipped j f g) = absurd (some_or_none g h)
drawings_are_alone c kind old a b m n moderate (nowhere e h some) (nowhere f g none) = (refl, refl)
drawings_are_alone c kind old a b m n moderate (nowhere e h some) (drawn new f g d) = absurd (some moderate (lines_of new) d.1.kind d.1.yields)
drawings_are_alone c kind old a b m n moderate (drawn new e h d) (incomplete j f) = absurd (some_or_none f e)
drawings_are_alone c kind old a b m n moderate (drawn new e h d) (unequipped j f g) = absurd (some_or_none g h)
drawings_are_alone c kind old a b m n moderate (drawn new e h d) (nowhere f g none) = absurd (none moderate (lines_of new) d.1.kind d.1.yields)
drawings_are_alone c kind old a b m n moderate (drawn new e h d) (drawn other f g k) =
    (refl, maps_are_their_lines new other (d.0 ∙ sym k.0) (drawn_alone kind (columns_of c) (lines_of new) (lines_of other) d.1 k.1))
