-- The worked cases, each by its seats and lines.
use Rattle.std.proofs.Common.{ℕ, [], ◌∷◌, refl, arith}
use Rattle.feeder.specs.declared.line.Line.{Line}
use Rattle.feeder.specs.declared.kind.Kind.TheVariants.{Complete, Reduced}
use Rattle.drawing.specs.declared.seat.Seat.{Seat}
use Rattle.drawing.specs.Places.{start}
use Rattle.drawing.specs.Cases.{CasesStand}
use Rattle.drawing.proofs.Certified.{certified, refuted, negative, unmoved}

abbrev at : ℕ → ℕ → Seat
at m d = record { inverter = m; distance = d }

abbrev from : ℕ → ℕ → Line
from p r = record { parent = p; resistance = r }

pub cases_stand : CasesStand
cases_stand = (
  certified _ (start ∷ at 1 300 ∷ []) _ refl Complete refl,
  (
    unmoved Complete _ 1 refl (omega arith, omega arith) refl,
    (
      negative Complete _ 1 1 (omega arith, omega arith) ((omega arith, omega arith), refl) refl,
      (
        refuted _ (start ∷ at 1 300 ∷ at 1 300 ∷ []) (from 0 300 ∷ from 0 300 ∷ []) refl Complete refl,
        (
          certified _ (start ∷ at 2 300 ∷ at 2 500 ∷ []) _ refl Complete refl,
          (
            certified _ (start ∷ at 1 300 ∷ at 2 400 ∷ []) _ refl Complete refl,
            (
              refuted _ (start ∷ at 1 500 ∷ at 2 800 ∷ at 1 300 ∷ []) (from 3 200 ∷ from 0 800 ∷ from 0 300 ∷ []) refl Complete refl,
              (
                refuted _ (start ∷ at 1 500 ∷ at 2 800 ∷ at 1 300 ∷ []) (from 3 200 ∷ from 3 500 ∷ from 0 300 ∷ []) refl Complete refl,
                (
                  certified _ (start ∷ at 1 500 ∷ at 2 800 ∷ at 1 300 ∷ []) _ refl Reduced refl,
                  (
                    certified _ (start ∷ at 1 300 ∷ at 2 500 ∷ []) _ refl Reduced refl,
                    (
                      refuted _ (start ∷ at 1 900 ∷ at 2 900 ∷ at 3 900 ∷ at 1 100 ∷ at 1 500 ∷ []) (from 5 400 ∷ from 5 400 ∷ from 4 800 ∷ from 0 100 ∷ from 4 400 ∷ []) refl Reduced refl,
                      (
                        certified _ (start ∷ at 1 400 ∷ at 2 400 ∷ at 3 400 ∷ at 1 300 ∷ []) _ refl Reduced refl,
                        tt,
                      ),
                    ),
                  ),
                ),
              ),
            ),
          ),
        ),
      ),
    ),
  ),
)
