-- A drawing is right: where some feeder yields the table, the drawing yields it with the fewest buses, and is that feeder but for unmetered numbers if both have as many.
use Rattle.std.proofs.Common.{◌≡◌, ℕ, ◌<◌, ◌≤◌, List, length, sym, ap, ◌∙◌, subst, ⊎_elim, arith}
use Rattle.std.proofs.lemmas.Bool.{cases_eq}
use Rattle.feeder.specs.declared.line.Line.{Line}
use Rattle.feeder.specs.Feeder.{Feeder, Bus, OnWay, parent_of, distance, response}
use Rattle.feeder.specs.Table.{Pairs, SameButNumbers}
use Rattle.feeder.proofs.Ways.{meet, Meet}
use Rattle.feeder.proofs.Feeders.{is_way, parent_small}
use Rattle.feeder.proofs.Laws.{distance_top, distance_up, response_meet}
use Rattle.feeder.proofs.Pigeonhole.{Into, into_le, onto}
use Rattle.drawing.specs.Seats.{Entries, Meter, Inverter, Metering, Listing, Whole, Wiring}
use Rattle.drawing.specs.Yielded.{Yielded}
use Rattle.drawing.proofs.Drafts.{Wired}
use Rattle.drawing.proofs.Shape.{Embeds, parent_kept, meet_kept}
use Rattle.drawing.proofs.Spots as S
use Rattle.drawing.proofs.Meets as M
use Rattle.drawing.proofs.Exact.{faithful, no_inverter, Draft', draft, whole, seated_positive}
use Rattle.drawing.proofs.Wired as Wires

-- what the drawing G is next to a feeder F that yields the table
pub record Right (T : Entries) (F G : List Line) : Type 0 where
  pub yielded : Yielded T G
  pub fewest : length G ≤ length F
  pub alone : length F ≡ length G → SameButNumbers T.metered G F
  pub complete : length F ≡ T.metered → length G ≡ T.metered

module _ {T : Entries} {F : List Line} (Y : Yielded T F) {seat far : ℕ → ℕ} (K : Metering T seat far) {G : List Line} (L : Listing T seat far (length G)) (W : Wiring T seat far G) where
  abbrev N : ℕ
  N = T.metered

  abbrev D : Draft' T seat far (length G)
  D = draft K L

  some : 0 < length G
  some = omega (arith, (no_inverter Y).1.0, L.metered)

  positive : (x : ℕ) → Bus G x → 0 < far x
  positive x b = seated_positive K L x b.0 b.1

  pub feeder : Feeder G
  feeder = Wires.wired_feeder W some positive

  stands : (x : ℕ) → x ≤ length G → distance G x ≡ far x
  stands = Wires.wired_distance W some positive

  wired : Wired (λ x y. x < y) (λ x y. x ≤ y) 0 N (Inverter T) T.entry seat far (length G) (parent_of G)
  wired = Wires.wired W some positive

  -- the bus of F at which x sits, at the same distance
  φ : ℕ → ℕ
  φ = S.φ (faithful Y) D

  E : Embeds (parent_of F) (parent_of G) (length G) φ
  unfolding φ
  E = S.embeds (faithful Y) D wired

  fixed : (n : ℕ) → Meter T n → φ n ≡ n
  unfolding φ
  fixed n h = S.fixed (faithful Y) D n h.0 h.1

  sits : (x : ℕ) → x ≤ length G → far x ≡ distance F (φ x)
  unfolding φ
  sits x l = ⊎_elim (λ e. ap far e ∙ W.substation ∙ sym (ap (λ t. distance F (φ t)) e ∙ ap (distance F) (S.φ_root (faithful Y) D) ∙ distance_top F Y.feeder)) (λ z. (S.φ_spot (faithful Y) D x (omega arith) l).reads) (cases_eq x 0)

  into : Into φ (length G) (length F)
  unfolding φ
  into = record { inside = λ x a l. (S.φ_pos (faithful Y) D x a l, S.φ_in (faithful Y) D x a l); apart = S.apart (faithful Y) D }

  fewest : length G ≤ length F
  fewest = into_le φ (length G) (length F) into

  pairs : length F ≡ length G → Pairs N G F φ
  pairs e = record { substation = E.root; meters = λ n a l. fixed n (a, l); buses = λ x b. into.inside x b.0 b.1; apart = λ x y b c q. into.apart x y b.0 b.1 c.0 c.1 q; onto = λ c b. let t = every c b.0 b.1 in (t.0, (t.1, t.2), t.3); parents = parents; resistances = λ x b. omega (arith, distance_up F Y.feeder (φ x) (into.inside x b.0 b.1).0, ap (distance F) (parents x b), sits x b.1, sits (parent_of G x) (feeder.parents x b), W.resistances x b) }
    where
      every : (c : ℕ) → 0 < c → c ≤ length F → (x : ℕ) × (0 < x) × (x ≤ length G) × (φ x ≡ c)
      every = onto φ (length G) (length F) into (omega arith)

      parents : (x : ℕ) → Bus G x → parent_of F (φ x) ≡ φ (parent_of G x)
      parents x b = sym (parent_kept (is_way F Y.feeder) (is_way G feeder) E (length F) (parent_small F Y.feeder) every x b.0 b.1)

  -- the seat of an unmetered bus is the lowest inverter below it
  pub on_seat : (x : ℕ) → Bus G x → OnWay G x (seat x)
  on_seat x b = M.on_seat (faithful Y) D (is_way G feeder) wired x b.0 b.1

  pub on_lowest : (x k : ℕ) → N < x → x ≤ length G → Inverter T k → OnWay G x k → seat x ≤ k
  on_lowest = M.on_lowest (faithful Y) D (is_way G feeder) wired

  module _ (H : Whole T seat far (length G)) where
    responses : (n m : ℕ) → Meter T n → Inverter T m → T.entry n m ≡ response G n m
    unfolding φ
    responses n m h i = Y.responses n m h i ∙ response_meet F Y.feeder k ∙ sym (ap (distance F) z.2) ∙ sym (sits z.0 z.1) ∙ sym (stands z.0 z.1) ∙ sym (ap (distance G) same) ∙ sym (response_meet G feeder j)
      where
        k : Meet (is_way F Y.feeder) n m (meet (is_way F Y.feeder) n m).0
        k = (meet (is_way F Y.feeder) n m).1

        j : Meet (is_way G feeder) n m (meet (is_way G feeder) n m).0
        j = (meet (is_way G feeder) n m).1

        z : (z : ℕ) × (z ≤ length G) × (φ z ≡ (meet (is_way F Y.feeder) n m).0)
        z = M.meet_drawn (faithful Y) D (whole H) n m (meet (is_way F Y.feeder) n m).0 h.0 h.1 i k

        at : Meet (is_way F Y.feeder) (φ n) (φ m) (φ z.0)
        at = subst (λ t. Meet (is_way F Y.feeder) t (φ m) (φ z.0)) (sym (fixed n h)) (subst (λ t. Meet (is_way F Y.feeder) n t (φ z.0)) (sym (fixed m i.0)) (subst (Meet (is_way F Y.feeder) n m) (sym z.2) k))

        same : (meet (is_way G feeder) n m).0 ≡ z.0
        same = meet_kept (is_way F Y.feeder) (is_way G feeder) E n m z.0 (meet (is_way G feeder) n m).0 (omega (arith, h.1, L.metered)) (omega (arith, i.0.1, L.metered)) z.1 at j

    yielded : Yielded T G
    yielded = record { feeder = feeder; metered = L.metered; ends = λ b e. M.end_inverter (faithful Y) D (is_way G feeder) wired b e.0.0 e.0.1 (λ c a l q. e.1 c (a, l) q); responses = responses }

    next_to : Right T F G
    next_to = record { yielded = yielded; fewest = fewest; alone = λ e. (φ, pairs e); complete = λ e. omega (arith, fewest, L.metered) }

pub right : {T : Entries} {F : List Line} {seat far : ℕ → ℕ} {last : ℕ} → Yielded T F → Metering T seat far → Listing T seat far last → Whole T seat far last → (G : List Line) → length G ≡ last → Wiring T seat far G → Right T F G
right {T} {seat = seat} {far = far} Y M L H G e W = next_to Y M (subst (Listing T seat far) (sym e) L) W (subst (Whole T seat far) (sym e) H)
