-- The numbers of a map's text, read back digit by digit.
use Rattle.std.proofs.Common.{◌≡◌, ℕ, ◌+◌, ◌*◌, ◌/◌, ◌%◌, ◌<◌, ◌≤◌, true, false, ltb, leb, List, [], ◌∷◌, map, length, pos, Some, fold, sym, refl, ap, ◌∙◌, div-add-mod', arith}
use native.Mathlib.Nat.{div-div-eq-div-mul}
use Rattle.std.proofs.lemmas.Bool.{and_parts, and_from, cond_both, ltb-true, le-leb}
use Rattle.rfc4180.specs.Grammar.{text_data, every}
use Rattle.units.specs.Decimals.{digit, digits, push, number, Decimal, Form, size, Reads, bus_of, decimal_of}
use Rattle.units.proofs.Forms.{form_number, reads_value}
use Rattle.printing.specs.MapTexts.{digit_at, short_number, per_unit}

-- Every byte is text.

pub digit_at_lem : (n unit : ℕ) → digit (digit_at n unit) ≡ true
digit_at_lem n unit =
    let d = n / unit % 10 in
    let h : d < 10 = omega arith in
    and_from (leb 0x30 (0x30 + d)) (leb (0x30 + d) 0x39) (le-leb 0x30 (0x30 + d) (omega arith)) (le-leb (0x30 + d) 0x39 (omega arith))

digit_text : (b : ℕ) → digit b ≡ true → text_data b ≡ true
digit_text b h = grind arith

digits_text : (xs : List ℕ) → digits xs ≡ true → every text_data xs ≡ true
digits_text [] h = refl
digits_text (x ∷ xs) h = let parts = and_parts (digit x) (digits xs) h in and_from (text_data x) (every text_data xs) (digit_text x parts.0) (digits_text xs parts.1)

all_digits : (n : ℕ) (units : List ℕ) → digits (map (digit_at n) units) ≡ true
all_digits n [] = refl
all_digits n (u ∷ units) = and_from (digit (digit_at n u)) (digits (map (digit_at n) units)) (digit_at_lem n u) (all_digits n units)

short_digits : (n : ℕ) → digits (short_number n) ≡ true
short_digits n =
    cond_both (ltb n 10) _ _ (λ (xs : List ℕ). digits xs ≡ true) (λ h. all_digits n (1 ∷ []))
    (λ h. cond_both (ltb n 100) _ _ (λ (xs : List ℕ). digits xs ≡ true) (λ h. all_digits n (10 ∷ 1 ∷ [])) (λ h. all_digits n (100 ∷ 10 ∷ 1 ∷ [])))

pub short_text : (n : ℕ) → every text_data (short_number n) ≡ true
short_text n = digits_text (short_number n) (short_digits n)

-- what the digits behind the point count
abbrev pub behind : List ℕ
behind = 100000 ∷ 10000 ∷ 1000 ∷ 100 ∷ 10 ∷ 1 ∷ []

pub per_unit_text : (n : ℕ) → every text_data (per_unit n) ≡ true
per_unit_text n =
    and_from (text_data (digit_at n 1000000)) (every text_data (map (digit_at n) behind)) (digit_text (digit_at n 1000000) (digit_at_lem n 1000000)) (digits_text (map (digit_at n) behind) (all_digits n behind))

-- The numbers.

short_some : (n : ℕ) → (1 ≤ length (short_number n)) × (length (short_number n) ≤ 4)
short_some n =
    cond_both (ltb n 10) _ _ (λ (xs : List ℕ). (1 ≤ length xs) × (length xs ≤ 4)) (λ h. (omega arith, omega arith))
    (λ h. cond_both (ltb n 100) _ _ (λ (xs : List ℕ). (1 ≤ length xs) × (length xs ≤ 4)) (λ h. (omega arith, omega arith)) (λ h. (omega arith, omega arith)))

-- the number that digits write, by what each counts
abbrev counted : ℕ → ℕ → List ℕ → ℕ
counted n k [] = k
counted n k (u ∷ units) = counted n (k * 10 + n / u % 10) units

number_counted : (n k : ℕ) (units : List ℕ) → fold push k (map (digit_at n) units) ≡ counted n k units
number_counted n k [] = refl
number_counted n k (u ∷ units) =
    let d = n / u % 10 in
    let same : push k (0x30 + d) ≡ k * 10 + d = omega arith in
    ap (λ j. fold push j (map (digit_at n) units)) same ∙ number_counted n (k * 10 + d) units

-- one digit, and the digits before it
split : (n unit : ℕ) → n / unit ≡ n / (unit * 10) * 10 + n / unit % 10
split n unit = sym (div-add-mod' (n / unit) 10) ∙ ap (λ t. t * 10 + n / unit % 10) (div-div-eq-div-mul n unit 10)

one : (n : ℕ) → n < 10 → counted n 0 (1 ∷ []) ≡ n
one n small = omega arith

two : (n : ℕ) → n < 100 → counted n 0 (10 ∷ 1 ∷ []) ≡ n
two n small = omega (arith, split n 1, split n 10)

three : (n : ℕ) → n < 1000 → counted n 0 (100 ∷ 10 ∷ 1 ∷ []) ≡ n
three n small = omega (arith, split n 1, split n 10, split n 100)

short_number_lem : (n : ℕ) → n < 1000 → number (short_number n) ≡ n
short_number_lem n small =
    cond_both (ltb n 10) _ _ (λ (xs : List ℕ). number xs ≡ n) (λ h. number_counted n 0 (1 ∷ []) ∙ one n (ltb-true n 10 h))
    (λ h. cond_both (ltb n 100) _ _ (λ (xs : List ℕ). number xs ≡ n) (λ h. number_counted n 0 (10 ∷ 1 ∷ []) ∙ two n (ltb-true n 100 h)) (λ h. number_counted n 0 (100 ∷ 10 ∷ 1 ∷ []) ∙ three n small))

pub short_back : (n : ℕ) → n < 1000 → bus_of (short_number n) ≡ Some n
short_back n small = form_number 4 (short_number n) (short_some n).0 (short_some n).1 (short_digits n) ∙ ap Some (short_number_lem n small)

abbrev parts : ℕ → Decimal
parts n = record { minus = false; whole = map (digit_at n) (1000000 ∷ []); fraction = map (digit_at n) behind }

seven : (q0 q1 q2 q3 q4 q5 q6 d0 d1 d2 d3 d4 d5 d6 : ℕ) → q0 ≡ q1 * 10 + d0 → q1 ≡ q2 * 10 + d1 → q2 ≡ q3 * 10 + d2 → q3 ≡ q4 * 10 + d3 → q4 ≡ q5 * 10 + d4 → q5 ≡ q6 * 10 + d5 → q6 ≡ d6 → (0 * 10 + d6) * 1000000 + ((((((0 * 10 + d5) * 10 + d4) * 10 + d3) * 10 + d2) * 10 + d1) * 10 + d0) * 1 ≡ q0
seven q0 q1 q2 q3 q4 q5 q6 d0 d1 d2 d3 d4 d5 d6 e0 e1 e2 e3 e4 e5 e6 = omega arith

whole_and_behind : (n : ℕ) → n < 10000000 → counted n 0 (1000000 ∷ []) * 1000000 + counted n 0 behind * 1 ≡ n
whole_and_behind n small =
    let top : n / 1000000 ≡ n / 1000000 % 10 = omega arith in
    let all : n / 1 ≡ n = omega arith in
    seven (n / 1) (n / 10) (n / 100) (n / 1000) (n / 10000) (n / 100000) (n / 1000000) _ _ _ _ _ _ _ (split n 1) (split n 10) (split n 100) (split n 1000) (split n 10000) (split n 100000) top ∙ all

size_back : (n : ℕ) → n < 10000000 → size 6 (parts n) ≡ n
size_back n small =
    ap (λ w. w * 1000000 + number (map (digit_at n) behind) * 1) (number_counted n 0 (1000000 ∷ []))
    ∙ ap (λ f. counted n 0 (1000000 ∷ []) * 1000000 + f * 1) (number_counted n 0 behind)
    ∙ whole_and_behind n small

per_unit_form : (n : ℕ) → Form 6 (parts n)
per_unit_form n = record { whole = all_digits n (1000000 ∷ []); some = omega arith; four = omega arith; fraction = all_digits n behind; fine = omega arith }

pub per_unit_reads : (n : ℕ) → n < 10000000 → Reads 6 (per_unit n) (Some (pos n))
per_unit_reads n small = (parts n, per_unit_form n, refl, ap pos (sym (size_back n small)))

pub per_unit_back : (n : ℕ) → n < 10000000 → decimal_of 6 (per_unit n) ≡ Some (pos n)
per_unit_back n small = reads_value 6 (parts n) (per_unit_form n) ∙ ap (λ k. Some (pos k)) (size_back n small)
