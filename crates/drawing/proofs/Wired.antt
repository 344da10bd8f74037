-- The lines of a drawing by themselves: they are a feeder, and every bus stands at the distance at which it sits.
use Rattle.std.proofs.Common.{◌≡◌, ℕ, ◌+◌, ◌<◌, ◌≤◌, List, length, ap, ⊎_elim, arith}
use Rattle.std.proofs.lemmas.Bool.{cases_eq}
use Rattle.feeder.specs.declared.line.Line.{Line}
use Rattle.feeder.specs.Feeder.{Feeder, Bus, parent_of, resistance_of, distance}
use Rattle.feeder.proofs.Feeders.{grown_feeder, grown_distance}
use Rattle.drawing.specs.Seats.{Entries, Inverter, Metering, Listing, Wiring}
use Rattle.drawing.proofs.Drafts.{Wired}
use Rattle.drawing.proofs.Exact.{seated_positive}

module _ {T : Entries} {seat far : ℕ → ℕ} {G : List Line} (W : Wiring T seat far G) where
  -- where every bus sits at a positive distance
  module _ (some : 0 < length G) (positive : (x : ℕ) → Bus G x → 0 < far x) where
    parents : (x : ℕ) → Bus G x → parent_of G x ≤ length G
    parents x b = ⊎_elim (λ e. omega arith) (λ a. a.1) (W.parents x b)

    resists : (x : ℕ) → Bus G x → 1 ≤ resistance_of G x
    resists x b = ⊎_elim (λ e. omega (arith, W.resistances x b, ap far e, W.substation, positive x b)) (λ a. omega (arith, W.resistances x b, a.2)) (W.parents x b)

    grow : (x : ℕ) → Bus G x → far x ≡ far (parent_of G x) + resistance_of G x
    grow x b = omega (arith, W.resistances x b)

    pub wired_feeder : Feeder G
    wired_feeder = grown_feeder G far some parents resists W.substation grow

    pub wired_distance : (x : ℕ) → x ≤ length G → distance G x ≡ far x
    wired_distance = grown_distance G far some parents resists W.substation grow

    pub wired : Wired (λ x y. x < y) (λ x y. x ≤ y) 0 T.metered (Inverter T) T.entry seat far (length G) (parent_of G)
    wired = record { parents = λ x a l. W.parents x (a, l); nearest = λ x y a l k. (⊎_elim (λ e. absurd (omega (arith, W.nearest x y (a, l) k, ap far e, W.substation, positive y (k.0, k.1)))) (λ z. omega arith) (cases_eq (parent_of G x) 0), W.nearest x y (a, l) k) }

  pub drawn_distance : Metering T seat far → Listing T seat far (length G) → (x : ℕ) → Bus G x → distance G x ≡ far x
  drawn_distance M L x b = wired_distance (omega (arith, b.0, b.1)) (λ y c. seated_positive M L y c.0 c.1) x b.1
