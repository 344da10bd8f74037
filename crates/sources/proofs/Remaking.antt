-- A map's own lines make a map again, and so does one line from the substation.
use Rattle.std.proofs.Common.{◌≡◌, ℕ, ◌≤◌, true, List, [], ◌∷◌, length, is_ok, Ok, Err, Result, refl, subst, ⊎_elim, arith, MatchResult}
use Rattle.feeder.specs.declared.fault.Fault.{Fault}
use Rattle.feeder.specs.declared.fault.Fault.TheVariants.{TooMany, Overmetered, Flawed, Beyond}
use Rattle.feeder.specs.declared.line.Line.{Line}
use Rattle.feeder.specs.declared.map.Map.{Map}
use Rattle.feeder.specs.Build.{Refused, IsBeyond, IsFlawed}
use Rattle.feeder.specs.Feeder.{Bus}
use Rattle.feeder.specs.Way.{top, up}
use Rattle.feeder.specs.View.{lines_of}
use Rattle.feeder.proofs.Builds.{feeders_make_maps}
use Rattle.feeder.proofs.Maps.{map_stands}

pub ok_since : {T E : Type 0} (r : Result T E) (P : T → Type 0) (Q : E → Type 0) → MatchResult r P Q → ((e : E) → Q e → ⊥) → is_ok r ≡ true
ok_since (Ok x) P Q h never = refl
ok_since (Err e) P Q h never = absurd (never e h)

pub same_made :
    (map : Map) (metered : ℕ) (lines : List Line) → metered ≡ length (lines_of map) → lines ≡ lines_of map → 1 ≤ length (lines_of map) →
    (e : Fault) → Refused metered lines e → ⊥
same_made map metered lines p q some e r =
    let F = lines_of map in
    let stands = map_stands map in
    feeders_make_maps (length F) F (stands.feeder some) stands.counted (omega arith) (λ b h. stands.near b h.1) e
    (subst (λ n. Refused n F e) p (subst (λ ls. Refused metered ls e) q r))

-- one line from the substation
abbrev lone : ℕ → List Line
lone n = record { parent = 0; resistance = n } ∷ []

only_bus : (n b : ℕ) → Bus (lone n) b → b ≡ 1
only_bus n b h = omega (arith, h.0, h.1)

not_flawed : (n : ℕ) → 1 ≤ n → IsFlawed (lone n) 1 → ⊥
not_flawed n some h = ⊎_elim (λ l. omega arith) (λ e. omega arith) h

not_beyond : (n : ℕ) → n ≤ 1000000 → IsBeyond (lone n) 1 → ⊥
not_beyond n near h = h n (1 ∷ [], up (omega arith) top, omega arith) near

pub one_made : {n : ℕ} → 1 ≤ n → n ≤ 1000000 → (e : Fault) → Refused 1 (record { parent = 0; resistance = n } ∷ []) e → ⊥
one_made some near TooMany r = omega arith
one_made some near Overmetered r = omega (arith, r.1)
one_made {n} some near (Flawed b) r = let t = r.2 in not_flawed n some (subst (IsFlawed (lone n)) (only_bus n b t.0) t.1)
one_made {n} some near (Beyond b) r = let t = r.3 in not_beyond n near (subst (IsBeyond (lone n)) (only_bus n b t.0) t.1)
