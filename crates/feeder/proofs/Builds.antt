-- Lines without a flaw, with their distances, make the fields of a map.
use Rattle.std.proofs.Common.{ℕ, ◌≤◌, List, length, get_or, sym, refl, ap, subst, ⊎_elim, arith}
use Rattle.std.proofs.lemmas.Bool.{cases_eq}
use Rattle.feeder.specs.declared.line.Line.{Line}
use Rattle.feeder.specs.declared.fault.Fault.TheVariants.{TooMany, Overmetered, Flawed, Beyond}
use Rattle.feeder.specs.Feeder.{parent_of, Bus, Feeder, way, distance}
use Rattle.feeder.specs.Build.{Reaches, IsFlawed, Tabled, FeedersMakeMaps}
use Rattle.feeder.specs.Sound.{Wired, Near, Measured}
use Rattle.feeder.proofs.Feeders.{is_way}
use Rattle.feeder.proofs.Reach.{reaches_top, reaches_down, reaches_unique, sound_parent, sound_resistance}

module _ (F : List Line) (ds : List ℕ) (sound : (b : ℕ) → Bus F b → IsFlawed F b → ⊥) (T : Tabled F ds) where
  pub built_wired : Wired F
  built_wired b h = (sound_parent F sound b h, sound_resistance F sound b h)

  pub built_near : Near F ds
  built_near b l = ⊎_elim (λ e. omega (arith, ap (λ t. get_or ds t 0) e, T.start)) (λ z. T.near b (omega arith, l)) (cases_eq b 0)

  reaches : (b : ℕ) → b ≤ length F → Reaches F b (get_or ds b 0)
  reaches b l = ⊎_elim (λ e. subst (λ t. Reaches F t (get_or ds t 0)) (sym e) (subst (Reaches F 0) (sym T.start) (reaches_top F))) (λ z. T.buses b (omega arith, l)) (cases_eq b 0)

  pub built_measured : Measured F ds
  built_measured b h =
      let t = reaches_down F b (get_or ds b 0) h.0 (T.buses b h) in
      let e = reaches_unique F (parent_of F b) t.0 (get_or ds (parent_of F b) 0) t.1 (reaches (parent_of F b) (sound_parent F sound b h)) in
      omega (arith, t.2, e)

-- a bus of a feeder reaches the substation at its distance
pub feeder_reaches : (F : List Line) → Feeder F → (b : ℕ) → Reaches F b (distance F b)
unfolding distance
feeder_reaches F f b = (way F b, is_way F f b, refl)

pub feeders_make_maps : FeedersMakeMaps
feeders_make_maps metered F f short metered-few near TooMany r = omega arith
feeders_make_maps metered F f short metered-few near Overmetered r = omega (arith, r.1)
feeders_make_maps metered F f short metered-few near (Flawed b) r = let t = r.2 in ⊎_elim (λ l. omega (arith, f.parents b t.0)) (λ e. omega (arith, f.resists b t.0)) t.1
feeders_make_maps metered F f short metered-few near (Beyond b) r = let t = r.3 in t.1 (distance F b) (feeder_reaches F f b) (near b t.0)
