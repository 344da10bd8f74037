-- What is printed of a value in per unit.
use Rattle.std.proofs.Common.{◌≡◌, ℕ, zero, suc, ◌+◌, ◌-◌, ◌*◌, ◌/◌, ◌%◌, ◌^◌, ◌<◌, ◌≤◌, Bool, true, false, cond, leb, List, [], ◌∷◌, ◌++◌, length, replicate, ℤ, pos, negsuc, neg_ℤ, unsigned_abs, Some, sym, refl, ap, ◌∙◌, arith}
use native.Mathlib.Nat.{pow-le-pow_right}
use Rattle.std.specs.Fmt.{padded_integral, char_count, format_spec, decimal}
use Rattle.std.proofs.lemmas.Bool.{and_from, le-leb}
use Rattle.std.proofs.lemmas.Fmt.{decimal_by_steps, length-decimal-le}
use Rattle.std.proofs.lemmas.List.{append-nil, length-append, length-replicate}
use Rattle.std.proofs.lemmas.List.Folds.{list_all-append}
use Rattle.std.proofs.lemmas.List.Sums.{fold_push}
use Rattle.units.specs.Decimals.{places_of, digit, digits, push, number, Decimal, pointed, size, Reads}
use Rattle.units.specs.PerUnits.{minus_text, padded, per_unit_text}
use Rattle.units.specs.declared.scale.Scale.{Scale}
use Rattle.units.specs.declared.scale.Scale.TheVariants.{Thousandths, Millionths, Billionths}
use Rattle.units.proofs.Forms.{pointed_some}

-- What the code writes.

-- what `{:0places$}` writes
pub filled : (places : ℕ) (numeral : List ℕ) → padded_integral (format_spec 32 0 4 places (2 ^ 64 - 1)) false [] numeral ≡ replicate (places - length numeral) 0x30 ++ numeral
unfolding padded_integral char_count
filled places numeral =
    let zeros : places - length numeral - 0 - 0 ≡ places - length numeral = omega arith in
    ap (λ k. replicate k 0x30 ++ (numeral ++ [])) zeros ∙ ap (λ t. replicate (places - length numeral) 0x30 ++ t) (append-nil numeral)

-- What is printed reads as the value.

-- digits that count n
record Numerals (n : ℕ) (ds : List ℕ) : Type 0 where
  digital : digits ds ≡ true
  counts : number ds ≡ n
  some : 1 ≤ length ds

in_base_ten : (n : ℕ) → n < 2 ^ 64 → Numerals n (decimal n)
in_base_ten n small = decimal_by_steps Numerals one more n small
  where
    glyph : (d : ℕ) → d < 10 → digit (48 + d) ≡ true
    glyph d h = and_from (leb 0x30 (48 + d)) (leb (48 + d) 0x39) (le-leb 0x30 (48 + d) (omega arith)) (le-leb (48 + d) 0x39 (omega arith))

    one : (n : ℕ) → n < 10 → Numerals n ((48 + n) ∷ [])
    one n h = record { digital = and_from (digit (48 + n)) true (glyph n h) refl; counts = omega arith; some = omega arith }

    more : (n : ℕ) (ds : List ℕ) → 10 ≤ n → Numerals (n / 10) ds → Numerals n (ds ++ ((48 + n % 10) ∷ []))
    more n ds h before = record {
      digital = list_all-append digit ds ((48 + n % 10) ∷ []) ∙ and_from (digits ds) (digits ((48 + n % 10) ∷ [])) before.digital (and_from (digit (48 + n % 10)) true (glyph (n % 10) (omega arith)) refl);
      counts = fold_push push 0 ds (48 + n % 10) ∙ ap (λ k. push k (48 + n % 10)) before.counts ∙ omega arith;
      some = omega (arith, length-append ds ((48 + n % 10) ∷ []));
    }

zeros_digital : (k : ℕ) (ds : List ℕ) → digits ds ≡ true → digits (replicate k 0x30 ++ ds) ≡ true
zeros_digital zero ds h = h
zeros_digital (suc k) ds h = zeros_digital k ds h

zeros_number : (k : ℕ) (ds : List ℕ) → number (replicate k 0x30 ++ ds) ≡ number ds
zeros_number zero ds = refl
zeros_number (suc k) ds = zeros_number k ds

padded_length : (width n : ℕ) → length (decimal n) ≤ width → length (padded width n) ≡ width
padded_length width n short = omega (arith, length-append (replicate (width - length (decimal n)) 0x30) (decimal n), length-replicate {A = ℕ} (width - length (decimal n)) 0x30)

abbrev below_zero : ℤ → Bool
below_zero (pos n) = false
below_zero (negsuc n) = true

-- a value by the size and the minus
signed : (v : ℤ) (n : ℕ) → n ≡ unsigned_abs v → v ≡ cond (below_zero v) (neg_ℤ (pos n)) (pos n)
signed (pos m) n h = ap pos (sym h)
signed (negsuc m) n h = ap (λ k. neg_ℤ (pos k)) (sym h)

-- the minus that is written is the decimal's
minus_same : (v : ℤ) → cond (below_zero v) (0x2D ∷ []) [] ≡ minus_text v
minus_same (pos n) = refl
minus_same (negsuc n) = refl

-- a value by its whole part and what is left
text_reads : (places whole part : ℕ) (v : ℤ) → 1 ≤ places → places ≤ 9 → whole < 10000 → part < 10 ^ places → whole * 10 ^ places + part ≡ unsigned_abs v →
    Reads places (minus_text v ++ (decimal whole ++ (0x2E ∷ padded places part))) (Some v)
text_reads places whole part v some few four less sum = (
  d,
  record {
    whole = front.digital;
    some = front.some;
    four = length-decimal-le 4 whole (omega arith) four (omega arith);
    fraction = zeros_digital (places - length (decimal part)) (decimal part) back.digital;
    fine = omega (arith, wide);
  },
  ap (λ t. t ++ (decimal whole ++ pointed (padded places part))) (minus_same v) ∙ ap (λ t. minus_text v ++ (decimal whole ++ t)) (pointed_some (padded places part) (omega (arith, wide))),
  signed v (size places d) total,
)
  where
    power : 10 ^ places ≤ 10 ^ 9
    power = pow-le-pow_right {n = 10} (omega arith) {j = 9} few

    front : Numerals whole (decimal whole)
    front = in_base_ten whole (omega arith)

    back : Numerals part (decimal part)
    back = in_base_ten part (omega (arith, power))

    wide : length (padded places part) ≡ places
    wide = padded_length places part (length-decimal-le places part some less (omega (arith, power)))

    none : places - length (padded places part) ≡ 0
    none = omega (arith, wide)

    d : Decimal
    d = record { minus = below_zero v; whole = decimal whole; fraction = padded places part }

    total : size places d ≡ unsigned_abs v
    total =
        ap (λ w. w * 10 ^ places + number (padded places part) * 10 ^ (places - length (padded places part))) front.counts ∙
        ap (λ f. whole * 10 ^ places + f * 10 ^ (places - length (padded places part))) (zeros_number (places - length (decimal part)) (decimal part) ∙ back.counts) ∙
        ap (λ k. whole * 10 ^ places + part * 10 ^ k) none ∙ omega arith ∙ sum

-- what is printed of a value smaller than 10,000 per unit reads as the value
pub per_unit_reads : (scale : Scale) (v : ℤ) → unsigned_abs v < 10000 * 10 ^ places_of scale → Reads (places_of scale) (per_unit_text scale v) (Some v)
per_unit_reads Thousandths v h = text_reads 3 (unsigned_abs v / 1000) (unsigned_abs v % 1000) v (omega arith) (omega arith) (omega arith) (omega arith) (omega arith)
per_unit_reads Millionths v h = text_reads 6 (unsigned_abs v / 1000000) (unsigned_abs v % 1000000) v (omega arith) (omega arith) (omega arith) (omega arith) (omega arith)
per_unit_reads Billionths v h = text_reads 9 (unsigned_abs v / 1000000000) (unsigned_abs v % 1000000000) v (omega arith) (omega arith) (omega arith) (omega arith) (omega arith)
