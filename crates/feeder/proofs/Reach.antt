-- Which buses of a list of lines reach the substation, and at which distance, whether or not the list is a feeder.
use Rattle.std.proofs.Common.{◌≡◌, ℕ, ◌+◌, ◌-◌, ◌<◌, ◌≤◌, List, [], ◌∷◌, length, get_or, sum_by, sym, refl, ap, ◌∙◌, subst, inl, inr, ⊎_elim, arith}
use Rattle.std.proofs.lemmas.List.{get_or_default}
use Rattle.std.proofs.lemmas.List.Sums.{sum_by-cons}
use Rattle.std.proofs.lemmas.Bool.{cases_lt, cases_eq}
use Rattle.feeder.specs.declared.line.Line.{Line}
use Rattle.feeder.specs.Way.{top, up}
use Rattle.feeder.specs.Feeder.{blank, line_of, parent_of, resistance_of, Bus}
use Rattle.feeder.specs.Build.{Reaches, IsBeyond, IsFlawed}
use Rattle.feeder.proofs.Ways.{way_unique, way_down}

module _ (F : List Line) where
  -- the line that is read at a bus's place, whatever the default
  pub read_line : (b : ℕ) → Bus F b → (d : Line) → get_or F (b - 1) d ≡ line_of F b
  read_line b h d = get_or_default F (b - 1) d blank (omega arith)

  pub reaches_top : Reaches F 0 0
  reaches_top = ([], top, refl)

  pub reaches_up : (b d : ℕ) → 0 < b → Reaches F (parent_of F b) d → Reaches F b (resistance_of F b + d)
  reaches_up b d h (w, x, e) = (b ∷ w, up h x, sum_by-cons (resistance_of F) b w ∙ ap (λ t. resistance_of F b + t) e)

  pub reaches_down : (b d : ℕ) → 0 < b → Reaches F b d → (e : ℕ) × Reaches F (parent_of F b) e × (d ≡ resistance_of F b + e)
  reaches_down b d h (w, x, e) = let t = way_down x h in (sum_by (resistance_of F) t.0, (t.0, t.1, refl), sym e ∙ ap (sum_by (resistance_of F)) t.2 ∙ sum_by-cons (resistance_of F) b t.0)

  pub reaches_unique : (b d e : ℕ) → Reaches F b d → Reaches F b e → d ≡ e
  reaches_unique b d e (v, x, p) (w, y, q) = sym p ∙ ap (sum_by (resistance_of F)) (way_unique x y) ∙ q

  -- the way of bus was followed as far as the bus at, over lines whose resistances add up to sum
  pub record Passed (bus at sum : ℕ) : Type 0 where
    pub near : sum ≤ 1000000
    pub small : at ≤ length F
    pub back : (d : ℕ) → Reaches F at d → Reaches F bus (sum + d)
    pub onward : (d : ℕ) → Reaches F bus d → (e : ℕ) × Reaches F at e × (d ≡ sum + e)

  pub passed_all : (bus at sum : ℕ) → Passed bus at sum → at ≡ 0 → Reaches F bus sum
  passed_all bus at sum k z = let e : sum + 0 ≡ sum = omega arith in subst (Reaches F bus) e (k.back 0 (subst (λ t. Reaches F t 0) (sym z) reaches_top))

  module _ (sound : (b : ℕ) → Bus F b → IsFlawed F b → ⊥) where
    pub sound_parent : (b : ℕ) → Bus F b → parent_of F b ≤ length F
    sound_parent b h = ⊎_elim (λ l. absurd (sound b h (inl l))) (λ l. l) (cases_lt (length F) (parent_of F b))

    pub sound_resistance : (b : ℕ) → Bus F b → 1 ≤ resistance_of F b
    sound_resistance b h = ⊎_elim (λ e. absurd (sound b h (inr e))) (λ z. omega arith) (cases_eq (resistance_of F b) 0)

    module _ (bus at sum : ℕ) (k : Passed bus at sum) (h : at ≡ 0 → ⊥) (l : Line) where
      there : Bus F at
      there = (omega arith, k.small)

      read : get_or F (at - 1) l ≡ line_of F at
      read = read_line at there l

      pub passed_more : (get_or F (at - 1) l).resistance ≤ 1000000 - sum → Passed bus (get_or F (at - 1) l).parent (sum + (get_or F (at - 1) l).resistance)
      passed_more fits = rw read (record { near = omega (arith, k.near, ap (λ t. t.resistance) read); small = sound_parent at there; back = back; onward = onward })
        where
          back : (d : ℕ) → Reaches F (parent_of F at) d → Reaches F bus ((sum + resistance_of F at) + d)
          back d x = let e : sum + (resistance_of F at + d) ≡ (sum + resistance_of F at) + d = omega arith in subst (Reaches F bus) e (k.back (resistance_of F at + d) (reaches_up at d there.0 x))

          onward : (d : ℕ) → Reaches F bus d → (e : ℕ) × Reaches F (parent_of F at) e × (d ≡ (sum + resistance_of F at) + e)
          onward d x = let u = k.onward d x in let v = reaches_down at u.0 there.0 u.1 in (v.0, v.1, omega (arith, u.2, v.2))

      pub passed_beyond : 1000000 - sum < (get_or F (at - 1) l).resistance → IsBeyond F bus
      passed_beyond far d x near = let u = k.onward d x in let v = reaches_down at u.0 there.0 u.1 in omega (arith, u.2, v.2, ap (λ t. t.resistance) read)

  -- the line at place i is that of bus i + 1
  pub line_next : (i : ℕ) → i < length F → (d : Line) → get_or F i d ≡ line_of F (i + 1)
  line_next i h d = let e : i ≡ (i + 1) - 1 = omega arith in ap (λ t. get_or F t d) e ∙ read_line (i + 1) (omega arith, omega arith) d
