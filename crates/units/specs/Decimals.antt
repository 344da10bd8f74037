-- Decimals and bus numbers: how they are written, and the exact whole number of a unit that each stands for.
use Rattle.std.specs.Prelude.{◌≡◌, ℕ, ◌+◌, ◌-◌, ◌*◌, ◌^◌, ◌≤◌, Bool, true, false, cond, ◌&&◌, List, [], ◌∷◌, ◌++◌, length, drop, ℤ, pos, neg_ℤ, ◌<ℤ◌, Some, None, fold, Option, option_and_then, ◌==◌, ◌≢◌, nat_le, slice_index}
use Rattle.std.specs.List.{list_all, before_first, after_first}
use Rattle.std.specs.Str.{bytes_eq}
use Rattle.units.specs.declared.scale.Scale.{Scale}
use Rattle.units.specs.declared.scale.Scale.TheVariants.{Thousandths, Millionths, Billionths}

-- how many digits may stand behind the point: three in a step, six in a resistance, nine in a voltage change
abbrev pub places_of : Scale → ℕ
places_of Thousandths = 3
places_of Millionths = 6
places_of Billionths = 9

abbrev pub digit : ℕ → Bool
digit b = nat_le 0x30 b && nat_le b 0x39

abbrev pub digits : List ℕ → Bool
digits bs = list_all digit bs

-- a number with one more digit behind it
abbrev pub push : ℕ → ℕ → ℕ
push n b = n * 10 + (b - 0x30)

-- the number that digits write
abbrev pub number : List ℕ → ℕ
number bs = fold push 0 bs

-- Decimals.

-- a decimal by its parts; no digit behind the point stands for no point
pub record Decimal : Type 0 where
  pub minus : Bool
  pub whole : List ℕ
  pub fraction : List ℕ

-- an optional minus, one to four digits, and optionally a point with one to `places` digits
pub record Form (places : ℕ) (d : Decimal) : Type 0 where
  pub whole : digits d.whole ≡ true
  pub some : 1 ≤ length d.whole
  pub four : length d.whole ≤ 4
  pub fraction : digits d.fraction ≡ true
  pub fine : length d.fraction ≤ places

abbrev pub pointed : List ℕ → List ℕ
pointed [] = []
pointed (b ∷ bs) = 0x2E ∷ b ∷ bs

abbrev pub written : Decimal → List ℕ
written d = cond d.minus (0x2D ∷ []) [] ++ (d.whole ++ pointed d.fraction)

-- no decimal with at most `places` digits behind the point is written so
abbrev pub IsNoDecimal : ℕ → List ℕ → Type 0
IsNoDecimal places text = (d : Decimal) → Form places d → written d ≢ text

-- the size in units of 10 to the minus `places`
abbrev pub size : ℕ → Decimal → ℕ
size places d = number d.whole * 10 ^ places + number d.fraction * 10 ^ (places - length d.fraction)

-- the sign goes with the whole size, so minus a quarter is below 0
abbrev pub value : ℕ → Decimal → ℤ
value places d = cond d.minus (neg_ℤ (pos (size places d))) (pos (size places d))

-- r is what the text reads as: the value of the decimal that is written so, or none where no decimal is
abbrev pub Reads : ℕ → List ℕ → Option ℤ → Type 0
Reads places text (Some v) = (d : Decimal) × Form places d × (written d ≡ text) × (v ≡ value places d)
Reads places text None = IsNoDecimal places text

-- some digit is not 0
abbrev pub nonzero : List ℕ → Bool
nonzero [] = false
nonzero (b ∷ bs) = cond (b == 0x30) (nonzero bs) true

-- a value is below 0 exactly when the minus is there and some digit is not 0
pub record Sign (places : ℕ) (d : Decimal) : Type 0 where
  pub below : value places d <ℤ pos 0 → (d.minus ≡ true) × (nonzero (d.whole ++ d.fraction) ≡ true)
  pub only : d.minus ≡ true → nonzero (d.whole ++ d.fraction) ≡ true → value places d <ℤ pos 0

-- Bus numbers.

-- n is the number that the text writes in one to four digits
pub record IsBusNumber (text : List ℕ) (n : ℕ) : Type 0 where
  pub digital : digits text ≡ true
  pub some : 1 ≤ length text
  pub four : length text ≤ 4
  pub is : n ≡ number text

-- r is what the text reads as: the bus number that it writes, or none where it writes none
abbrev pub ReadsBus : List ℕ → Option ℕ → Type 0
ReadsBus text (Some n) = IsBusNumber text n
ReadsBus text None = (n : ℕ) → ¬ IsBusNumber text n

-- The same as functions of the text.

-- one to `most` digits
abbrev pub is_number : ℕ → List ℕ → Bool
is_number most text = (nat_le 1 (length text) && nat_le (length text) most) && digits text

-- the number that one to `most` digits write
abbrev pub number_of : ℕ → List ℕ → Option ℕ
number_of most text = cond (is_number most text) (Some (number text)) None

-- the number of a bus
abbrev pub bus_of : List ℕ → Option ℕ
bus_of text = number_of 4 text

abbrev pub is_minus : List ℕ → Bool
is_minus text = slice_index text 0 == 0x2D

abbrev pub unsigned : List ℕ → List ℕ
unsigned text = cond (is_minus text) (drop 1 text) text

abbrev pub is_point : ℕ → Bool
is_point b = b == 0x2E

-- a text's minus, and what stands before and behind its first point
abbrev pub cut : List ℕ → Decimal
cut text = record { minus = is_minus text; whole = before_first is_point (unsigned text); fraction = after_first is_point (unsigned text) }

-- the cut is a decimal, with any number of digits behind the point, and is written as the text
abbrev pub is_decimal : List ℕ → Bool
is_decimal text = (is_number 4 (cut text).whole && digits (cut text).fraction) && bytes_eq (written (cut text)) text

-- the parts of the decimal that the text writes
abbrev pub parts_of : List ℕ → Option Decimal
parts_of text = cond (is_decimal text) (Some (cut text)) None

-- the value, where no more than `places` digits stand behind the point
abbrev pub in_units : ℕ → Decimal → Option ℤ
in_units places d = cond (nat_le (length d.fraction) places) (Some (value places d)) None

-- the value of the decimal that the text writes
abbrev pub decimal_of : ℕ → List ℕ → Option ℤ
decimal_of places text = option_and_then (in_units places) (parts_of text)
