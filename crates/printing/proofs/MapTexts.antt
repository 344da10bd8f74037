-- The text of a map, put together part by part, and how long it is.
use Rattle.std.proofs.Common.{◌≡◌, ℕ, ◌+◌, ◌-◌, ◌*◌, ◌<◌, ◌≤◌, ltb, List, [], ◌∷◌, ◌++◌, length, get_or, refl, arith}
use Rattle.std.proofs.lemmas.List.{length-append}
use Rattle.std.proofs.lemmas.Bool.{cond_both}
use Rattle.feeder.specs.declared.line.Line.{Line}
use Rattle.feeder.specs.declared.map.Map.{Map}
use Rattle.feeder.specs.View.{lines_of}
use Rattle.feeder.specs.Feeder.{Bus, parent_of, resistance_of}
use Rattle.feeder.proofs.Maps.{parents, map_stands}
use Rattle.printing.specs.Texts.{new_line}
use Rattle.printing.specs.MapTexts.{short_number, per_unit, line_text, lines_text, map_text, MapsAreShort, NumbersReadBack}
use Rattle.printing.proofs.Digits.{short_back, per_unit_reads}

short_length : (n : ℕ) → length (short_number n) ≤ 3
short_length n =
    cond_both (ltb n 10) _ _ (λ (xs : List ℕ). length xs ≤ 3) (λ h. omega arith)
    (λ h. cond_both (ltb n 100) _ _ (λ (xs : List ℕ). length xs ≤ 3) (λ h. omega arith) (λ h. omega arith))

line_length : (b : ℕ) (line : Line) → length (line_text b line) ≡ length (short_number b) + length (short_number line.parent) + 12
line_length b line =
    let first = length-append (short_number b) (0x2C ∷ (short_number line.parent ++ 0x2C ∷ (per_unit line.resistance ++ new_line))) in
    let second = length-append (short_number line.parent) (0x2C ∷ (per_unit line.resistance ++ new_line)) in
    omega (arith, first, second)

lines_length : (b : ℕ) (lines : List Line) → length (lines_text b lines) ≤ 18 * length lines
lines_length b [] = omega arith
lines_length b (line ∷ lines) =
    let both = length-append (line_text b line) (lines_text (b + 1) lines) in
    omega (arith, both, line_length b line, short_length b, short_length line.parent, lines_length (b + 1) lines)

one_digit : (n : ℕ) → n < 10 → length (short_number n) ≡ 1
one_digit n h = cond_both (ltb n 10) _ _ (λ (xs : List ℕ). length xs ≡ 1) (λ t. refl) (λ f. absurd (grind arith))

one_line : (lines : List Line) → ((b : ℕ) → (0 < b) × (b ≤ length lines) → (get_or lines (b - 1) (record { parent = 0; resistance = 1 })).parent ≤ length lines) → length lines ≡ 1 → length (map_text lines) ≡ 28
one_line [] up one = absurd (omega arith)
one_line (line ∷ []) up one =
    omega (arith, length-append (line_text 1 line) [], line_length 1 line, one_digit line.parent (omega (arith, up 1 (omega arith, omega arith))))
one_line (line ∷ next ∷ lines) up one = absurd (omega arith)

pub maps_are_short : MapsAreShort
maps_are_short m = (omega (arith, lines_length 1 (lines_of m), (map_stands m).counted), one_line (lines_of m) (parents m))

-- no line of a map has a resistance beyond 1,000,000
pub resistance_most : (m : Map) (b : ℕ) → Bus (lines_of m) b → resistance_of (lines_of m) b ≤ 1000000
resistance_most m b bus = omega (arith, m.measured b bus, m.near b bus.1)

pub numbers_read_back : NumbersReadBack
numbers_read_back m b bus =
    let counted = (map_stands m).counted in
    record {
      bus = short_back b (omega (arith, bus.1));
      parent = short_back (parent_of (lines_of m) b) (omega (arith, parents m b bus));
      resistance = per_unit_reads (resistance_of (lines_of m) b) (omega (arith, resistance_most m b bus));
    }
