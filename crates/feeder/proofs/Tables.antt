-- A table of distances that is filled bus by bus.
use Rattle.std.proofs.Common.{◌≡◌, ℕ, ◌+◌, ◌<◌, ◌≤◌, List, [], ◌∷◌, ◌++◌, length, get_or, sym, ◌∙◌, subst, ⊎_elim, below_more, arith}
use Rattle.std.proofs.lemmas.List.{get_or_append_left, get_or_push, length_push}
use Rattle.std.proofs.lemmas.Bool.{cases_eq}
use Rattle.feeder.specs.declared.line.Line.{Line}
use Rattle.feeder.specs.Build.{Reaches, IsBeyond, Lowest, Tabled}
use Rattle.feeder.proofs.Reach.{reaches_top, reaches_unique}

-- the table has the distances of the substation and of the buses below `to`, and ends there
pub record TabledTo (F : List Line) (to : ℕ) (distances : List ℕ) : Type 0 where
  pub places : length distances ≡ to
  pub reach : (b : ℕ) → b < to → Reaches F b (get_or distances b 0)
  pub near : (b : ℕ) → b < to → get_or distances b 0 ≤ 1000000

pub tabled_more : (F : List Line) (to d : ℕ) (ds : List ℕ) → TabledTo F to ds → (d ≤ 1000000) × Reaches F to d → TabledTo F (to + 1) (ds ++ d ∷ [])
tabled_more F to d ds k (n, x) = record { places = omega (arith, length_push ds d, k.places); reach = grown (Reaches F) x k.reach; near = grown (λ b t. t ≤ 1000000) n k.near }
  where
    grown : (P : ℕ → ℕ → Type 0) → P to d → ((b : ℕ) → b < to → P b (get_or ds b 0)) → (b : ℕ) → b < to + 1 → P b (get_or (ds ++ d ∷ []) b 0)
    grown P here below = below_more _ _ (λ b l. subst (P b) (sym (get_or_append_left ds (d ∷ []) 0 b (omega (arith, k.places)))) (below b l)) (subst (P to) (sym (get_or_push ds d 0 to k.places)) here)

pub tabled_all : (F : List Line) (to : ℕ) (ds : List ℕ) → to ≡ length F + 1 → TabledTo F to ds → Tabled F ds
tabled_all F to ds e k = record { places = k.places ∙ e; start = reaches_unique F 0 (get_or ds 0 0) 0 (k.reach 0 (omega arith)) (reaches_top F); buses = λ b h. k.reach b (omega (arith, h.1)); near = λ b h. k.near b (omega (arith, h.1)) }

-- where the buses before it have their distances, one that lies beyond is the lowest
pub lowest_beyond : (F : List Line) (b : ℕ) (ds : List ℕ) → TabledTo F b ds → b ≤ length F → IsBeyond F b → Lowest F (IsBeyond F) b
lowest_beyond F b ds k l far = ((⊎_elim (λ e. absurd (subst (IsBeyond F) e far 0 (reaches_top F) (omega arith))) (λ z. omega arith) (cases_eq b 0), l), far, λ c a m z. z (get_or ds c 0) (k.reach c m) (k.near c m))
