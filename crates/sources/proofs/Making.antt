-- What a source that was made means, and which feeders are made.
use Rattle.std.proofs.Common.{◌≡◌, ◌↔◌, ℕ, ◌-◌, ◌≤◌, Bool, true, false, cond, not, ◌&&◌, eqb, leb, List, length, get_or, take, replicate, ℤ, pos, nat_abs, None, Ok, Err, Option, Result, is_ok, IsOk, refl, sym, ap, ◌∙◌, inl, inr, arith}
use Rattle.std.proofs.Math.Path.{fun_ext}
use Rattle.std.proofs.lemmas.Bool.{cases_Bool, le-leb, le-ltb, ltb-false, not-false, and_parts, and_from, eq-eqb, eqb-true}
use Rattle.refusals.specs.Checks.{need, lacking}
use Rattle.refusals.proofs.Checks.{clash, need_ok, lacking_ok}
use Rattle.feeder.specs.declared.line.Line.{Line}
use Rattle.feeder.specs.declared.map.Map.{Map}
use Rattle.feeder.specs.Feeder.{Bus, distance}
use Rattle.feeder.specs.Way.{is_in}
use Rattle.feeder.specs.View.{lines_of}
use Rattle.feeder.proofs.Maps.{map_stands}
use Rattle.probing.specs.declared.fault.SourceFault.{SourceFault}
use Rattle.probing.specs.declared.fault.SourceFault.TheVariants.{MapSize, InverterEntry, StandingCount, StandingEntry}
use Rattle.probing.specs.Facts.{Plant, Facts}
use Rattle.probing.specs.Settings.{with_kept}
use Rattle.probing.proofs.Settings.{zeros_in}
use Rattle.sources.specs.GridFacts.{within, idle}
use Rattle.sources.specs.LineFacts.{line_plant, marked, standing_of, feeder_plant}
use Rattle.sources.specs.LineMaking.{misplaced, first_misplaced, too_far, first_too_far, made_facts, make_of, IsWithinLimits, Marks, Copies}
use Rattle.sources.proofs.Entries.{first_unpassed, first_fails, within_le, placed_entry, in_take, none_in_take}

-- what a source means with every setting 0

pub idle_kept : (p : Plant) → with_kept p (replicate 64 (pos 0)) ≡ idle p
idle_kept p = ap (λ s. record { plant = p; state = s }) (zeros_in p.inverter 64)

same_plant :
    (F : List Line) (marks : List Bool) (places : List ℤ) (inverter : ℕ → Bool) (standing : ℕ → ℤ) →
    ((m : ℕ) → marked (length F) marks m ≡ inverter m) → ((n : ℕ) → standing_of (length F) places n ≡ standing n) →
    feeder_plant F marks places ≡ line_plant F inverter standing
same_plant F marks places inverter standing h g =
    ap (λ i. line_plant F i (standing_of (length F) places)) (fun_ext h) ∙ ap (line_plant F inverter) (fun_ext g)

pub made_means :
    (F : List Line) (xs : List ℕ) (ys : List ℤ) (marks : List Bool) (places : List ℤ) → length F ≤ 64 → Marks xs marks → Copies ys places →
    with_kept (feeder_plant F marks places) (replicate 64 (pos 0)) ≡ made_facts F xs ys
made_means F xs ys marks places few h g =
    idle_kept (feeder_plant F marks places) ∙
    ap idle (same_plant F marks places _ _
    (λ m. elim (cases_Bool (within (length F) m)) [
      | inl t ↦ let p = within_le (length F) m t in ap (λ q. within (length F) m && q) (h m p.0 (omega (arith, p.1)))
      | inr f ↦ ap (λ q. q && get_or marks (m - 1) false) f ∙ sym (ap (λ q. q && is_in xs m) f)
    ])
    (λ n. ap (λ z. cond (within (length F) n) z (pos 0)) (g (n - 1))))

-- what is made

-- what an accepted making tells
pub record Made (F : List Line) (xs : List ℕ) (ys : List ℤ) (f : Facts) : Type 0 where
  pub few : within 64 (length F) ≡ true
  pub placed : first_misplaced (length F) xs ≡ None
  pub counted : length ys ≡ length F
  pub near : first_too_far ys ≡ None
  pub means : f ≡ made_facts F xs ys

pub make_tells : (F : List Line) (xs : List ℕ) (ys : List ℤ) (f : Facts) → make_of F xs ys ≡ Ok f → Made F xs ys f
make_tells F xs ys f e =
    let sized = need_ok (within 64 (length F)) (MapSize (length F)) _ f e in
    let placed = lacking_ok (first_misplaced (length F) xs) InverterEntry _ f sized.1 in
    let counted = need_ok (eqb (length ys) (length F)) (StandingCount (length ys)) _ f placed.1 in
    let near = lacking_ok (first_too_far ys) StandingEntry _ f counted.1 in
    record { few = sized.0; placed = placed.0; counted = eqb-true _ _ counted.0; near = near.0; means = let same = near.1 in cc }

-- where no condition fails, the source is made
pub make_accepted :
    (F : List Line) (xs : List ℕ) (ys : List ℤ) → 1 ≤ length F → length F ≤ 64 → first_misplaced (length F) xs ≡ None → length ys ≡ length F → first_too_far ys ≡ None →
    make_of F xs ys ≡ Ok (made_facts F xs ys)
make_accepted F xs ys some few placed long near =
    ap (λ t. need t (MapSize (length F)) (lacking (first_misplaced (length F) xs) InverterEntry (rest (eqb (length ys) (length F)) (first_too_far ys))))
    (and_from (leb 1 (length F)) (leb (length F) 64) (le-leb 1 (length F) some) (le-leb (length F) 64 few)) ∙
    ap (λ o. lacking o InverterEntry (rest (eqb (length ys) (length F)) (first_too_far ys))) placed ∙
    ap (λ t. rest t (first_too_far ys)) (eq-eqb (length ys) (length F) long) ∙
    ap (λ o. rest true o) near
  where
    rest : Bool → Option ℕ → Result Facts SourceFault
    rest t o = need t (StandingCount (length ys)) (lacking o StandingEntry (Ok (made_facts F xs ys)))

-- the limits

far : (ys : List ℤ) (i : ℕ) → too_far ys i ≡ false → nat_abs (get_or ys i (pos 0)) ≤ 1000000000
far ys i e = ltb-false 1000000000 (nat_abs (get_or ys i (pos 0))) e

-- an entry that is in its place was not listed before
new_entry : (last b : ℕ) (seen : Bool) → not (within last b && not seen) ≡ false → seen ≡ false
new_entry last b true e = clash (let out : within last b && false ≡ true = not-false (within last b && false) e in let f = (and_parts (within last b) false out).1 in cc)
new_entry last b false e = refl

-- a feeder is within the limits if its source is made, and no bus is too far from the substation
pub made_is_within : (F : List Line) (xs : List ℕ) (ys : List ℤ) (f : Facts) → ((b : ℕ) → Bus F b → distance F b ≤ 1000000) → make_of F xs ys ≡ Ok f → IsWithinLimits F xs ys
made_is_within F xs ys f near e =
    record {
      some = (within_size).0;
      few = (within_size).1;
      near = near;
      placed = λ i lt. let bus = placed_entry last (get_or xs i 0) (not (is_in (take i xs) (get_or xs i 0))) (first_fails (length xs) i (misplaced last xs) made.placed lt) in (omega (arith, bus.0), bus.1);
      once = λ i j before lt same.
          let unseen = new_entry last (get_or xs j 0) (is_in (take j xs) (get_or xs j 0)) (first_fails (length xs) j (misplaced last xs) made.placed lt) in
          let seen = in_take xs i j before (omega arith) in
          let both = sym (ap (is_in (take j xs)) same ∙ unseen) ∙ seen in
          clash cc;
      counted = made.counted;
      standings = λ i lt. far ys i (first_fails (length ys) i (too_far ys) made.near lt);
    }
  where
    last : ℕ
    last = length F

    made : Made F xs ys f
    made = make_tells F xs ys f e

    within_size : (1 ≤ length F) × (length F ≤ 64)
    within_size = within_le 64 (length F) made.few

-- a feeder within the limits is made
pub within_is_made : (F : List Line) (xs : List ℕ) (ys : List ℤ) → IsWithinLimits F xs ys → make_of F xs ys ≡ Ok (made_facts F xs ys)
within_is_made F xs ys limits =
    make_accepted F xs ys limits.some limits.few
    (first_unpassed (length xs) (misplaced (length F) xs) (λ i lt.
    let bus = limits.placed i lt in
    let there = and_from (leb 1 (get_or xs i 0)) (leb (get_or xs i 0) (length F)) (le-leb 1 (get_or xs i 0) (omega (arith, bus.0))) (le-leb (get_or xs i 0) (length F) bus.1) in
    let new = none_in_take xs i (get_or xs i 0) (λ j before _ same. limits.once j i before lt same) in
    ap (λ t. not (t && not (is_in (take i xs) (get_or xs i 0)))) there ∙ ap (λ t. not (not t)) new))
    limits.counted
    (first_unpassed (length ys) (too_far ys) (λ i lt. le-ltb 1000000000 (nat_abs (get_or ys i (pos 0))) (limits.standings i lt)))

-- of a map's lines, what is made is what is within the limits
pub made_just_within : (map : Map) (xs : List ℕ) (ys : List ℤ) → IsOk (make_of (lines_of map) xs ys) ↔ IsWithinLimits (lines_of map) xs ys
made_just_within map xs ys = (made (make_of (lines_of map) xs ys) refl, λ limits. ap is_ok (within_is_made (lines_of map) xs ys limits))
  where
    made : (r : Result Facts SourceFault) → make_of (lines_of map) xs ys ≡ r → IsOk r → IsWithinLimits (lines_of map) xs ys
    made (Ok f) e _ = made_is_within (lines_of map) xs ys f (λ b bus. (map_stands map).near b bus.1) e
    made (Err fault) e ok = clash cc
