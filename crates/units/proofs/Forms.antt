-- Cutting a text at its minus and its first point reads exactly the decimals.
use Rattle.std.proofs.Common.{◌≡◌, ℕ, ◌+◌, ◌<◌, ◌≤◌, Bool, true, false, cond, ◌&&◌, eqb, leb, List, [], ◌∷◌, ◌++◌, length, get_or, take, drop, ℤ, Some, None, Option, sym, refl, ap, ◌∙◌, subst, ⊎_elim, one-add, arith}
use Rattle.std.specs.Option.{option_and_then}
use Rattle.std.specs.List.{position_or_len, before_first, after_first}
use Rattle.std.specs.Str.{bytes_eq}
use Rattle.std.proofs.lemmas.List.{take_at, drop_at, drop-drop, append-nil, take_all}
use Rattle.std.proofs.lemmas.List.Sums.{split_at_first, passes_at_first}
use Rattle.std.proofs.lemmas.Bool.{cases_lt, both_ways, eqb-true, leb-true, le-leb, lt-leb, and_parts, and_from, cond-true, cond-false}
use Rattle.std.proofs.lemmas.Option.{cond_some, option_and_then_some}
use Rattle.std.proofs.lemmas.Slice.Eq.{bytes_eq-Decides}
use Rattle.units.specs.Views.{parts}
use Rattle.units.specs.declared.decimals.Decimal.{Decimal as Held}
use Rattle.units.specs.Decimals.{digit, digits, number, Decimal, Form, pointed, written, IsNoDecimal, value, Reads, is_number, number_of, is_minus, unsigned, is_point, cut, is_decimal, parts_of, in_units, decimal_of}

-- 0 is not 1, so no two constructors are one
clash : {P : Type 0} → ◌≡◌ {A = ℕ} 0 1 → P
clash e = absurd (omega arith)

-- Numbers.

-- one to `most` digits
pub record Numeral (most : ℕ) (text : List ℕ) : Type 0 where
  pub some : 1 ≤ length text
  pub few : length text ≤ most
  pub digital : digits text ≡ true

pub is_number-true : (most : ℕ) (text : List ℕ) → is_number most text ≡ true → Numeral most text
is_number-true most text e =
    let outer = and_parts (leb 1 (length text) && leb (length text) most) (digits text) e in
    let inner = and_parts (leb 1 (length text)) (leb (length text) most) outer.0 in
    record { some = leb-true 1 (length text) inner.0; few = leb-true (length text) most inner.1; digital = outer.1 }

pub number-true : (most : ℕ) (text : List ℕ) → 1 ≤ length text → length text ≤ most → digits text ≡ true → is_number most text ≡ true
number-true most text l m d =
    and_from _ _ (and_from _ _ (le-leb 1 (length text) l) (le-leb (length text) most m)) d

pub form_number : (most : ℕ) (text : List ℕ) → 1 ≤ length text → length text ≤ most → digits text ≡ true → number_of most text ≡ Some (number text)
form_number most text l m d = cond-true _ _ _ (number-true most text l m d)

-- The cut.

-- no digit is a point or a minus
digit_no_point : (b : ℕ) → digit b ≡ true → is_point b ≡ false
digit_no_point b h = grind arith

digit_no_minus : (b : ℕ) → digit b ≡ true → eqb b 0x2D ≡ false
digit_no_minus b h = grind arith

-- digits in front, then the end or a point
cut_at : (xs ys : List ℕ) → digits xs ≡ true → position_or_len is_point ys ≡ 0 → position_or_len is_point (xs ++ ys) ≡ length xs
cut_at [] ys d e = e
cut_at (x ∷ xs) ys d e =
    let parts = and_parts (digit x) (digits xs) d in
    rw (digit_no_point x parts.0, cut_at xs ys parts.1 e) (one-add (length xs))

first_digit : (xs ys : List ℕ) → digits xs ≡ true → 1 ≤ length xs → is_minus (xs ++ ys) ≡ false
first_digit [] ys d l = absurd (omega arith)
first_digit (x ∷ xs) ys d l = digit_no_minus x (and_parts (digit x) (digits xs) d).0

sign_read : (minus : Bool) (body : List ℕ) → is_minus body ≡ false → is_minus (cond minus (0x2D ∷ []) [] ++ body) ≡ minus
sign_read true body h = refl
sign_read false body h = h

body_read : (minus : Bool) (body : List ℕ) → is_minus body ≡ false → unsigned (cond minus (0x2D ∷ []) [] ++ body) ≡ body
body_read true body h = refl
body_read false body h = cond-false _ _ _ h

no_point : (fraction : List ℕ) → position_or_len is_point (pointed fraction) ≡ 0
no_point [] = refl
no_point (b ∷ bs) = refl

behind : (fraction : List ℕ) → drop 1 (pointed fraction) ≡ fraction
behind [] = refl
behind (b ∷ bs) = refl

abbrev made : Bool → List ℕ → List ℕ → Decimal
made minus whole fraction = record { minus = minus; whole = whole; fraction = fraction }

-- the cut of what a decimal writes is the decimal
pub cut-written : (d : Decimal) → digits d.whole ≡ true → 1 ≤ length d.whole → cut (written d) ≡ d
cut-written d digital some =
    let body = d.whole ++ pointed d.fraction in
    let plain = first_digit d.whole (pointed d.fraction) digital some in
    let at = cut_at d.whole (pointed d.fraction) digital (no_point d.fraction) in
    let front : before_first is_point body ≡ d.whole = ap (λ n. take n body) at ∙ take_at d.whole (pointed d.fraction) (length d.whole) refl in
    let back : after_first is_point body ≡ d.fraction =
    ap (λ n. drop (n + 1) body) at ∙ sym (drop-drop 1 (length d.whole) body) ∙ ap (drop 1) (drop_at d.whole (pointed d.fraction) (length d.whole) refl) ∙ behind d.fraction in
    ap (λ minus. made minus (before_first is_point (unsigned (written d))) (after_first is_point (unsigned (written d)))) (sign_read d.minus body plain) ∙
    ap (λ text. made d.minus (before_first is_point text) (after_first is_point text)) (body_read d.minus body plain) ∙
    ap (λ whole. made d.minus whole (after_first is_point body)) front ∙
    ap (λ fraction. made d.minus d.whole fraction) back

-- a text is written by one decimal alone
pub written_injective : (m n : ℕ) (d e : Decimal) → Form m d → Form n e → written d ≡ written e → d ≡ e
written_injective m n d e p q h = sym (cut-written d p.whole p.some) ∙ ap cut h ∙ cut-written e q.whole q.some

-- The parts of a text.

-- whether a text writes the parts
abbrev fits : Decimal → List ℕ → Bool
fits d text = (is_number 4 d.whole && digits d.fraction) && bytes_eq (written d) text

-- the text that a decimal writes has its parts
pub parts_of-written : (places : ℕ) (d : Decimal) → Form places d → parts_of (written d) ≡ Some d
parts_of-written places d form =
    let same = cut-written d form.whole form.some in
    let shape = and_from (is_number 4 d.whole) (digits d.fraction) (number-true 4 d.whole form.some form.four form.whole) form.fraction in
    let fit : fits d (written d) ≡ true = and_from (is_number 4 d.whole && digits d.fraction) (bytes_eq (written d) (written d)) shape ((bytes_eq-Decides (written d) (written d)).1 refl) in
    cond-true _ _ _ (ap (λ e. fits e (written d)) same ∙ fit) ∙ ap Some same

-- the parts of the decimal that a text writes
pub record Parts (text : List ℕ) (d : Decimal) : Type 0 where
  pub form : (places : ℕ) → length d.fraction ≤ places → Form places d
  pub same : written d ≡ text

pub parts_of-some : (text : List ℕ) (d : Decimal) → parts_of text ≡ Some d → Parts text d
parts_of-some text d e =
    let found = cond_some (is_decimal text) (cut text) d e in
    let fit : fits d text ≡ true = ap (λ c. fits c text) (sym found.1) ∙ found.0 in
    let outer = and_parts (is_number 4 d.whole && digits d.fraction) (bytes_eq (written d) text) fit in
    let inner = and_parts (is_number 4 d.whole) (digits d.fraction) outer.0 in
    let whole = is_number-true 4 d.whole inner.0 in
    record {
      form = λ places fine. record { whole = whole.digital; some = whole.some; four = whole.few; fraction = inner.1; fine = fine };
      same = (bytes_eq-Decides (written d) text).0 outer.1;
    }

-- What the code cuts.

signed_text : (text : List ℕ) → cond (is_minus text) (0x2D ∷ []) [] ++ unsigned text ≡ text
signed_text [] = refl
signed_text (x ∷ xs) = go (eqb x 0x2D) refl
  where
    go : (t : Bool) → eqb x 0x2D ≡ t → cond t (0x2D ∷ []) [] ++ cond t xs (x ∷ xs) ≡ x ∷ xs
    go true e = ap (λ b. b ∷ xs) (sym (eqb-true x 0x2D e))
    go false e = refl

pub pointed_some : (xs : List ℕ) → 1 ≤ length xs → pointed xs ≡ 0x2E ∷ xs
pointed_some [] l = absurd (omega arith)
pointed_some (x ∷ xs) l = refl

-- a text with digits behind its point is written by its cut
pub cut_with_point : (text : List ℕ) → position_or_len is_point (unsigned text) < length (unsigned text) → is_number 9 (cut text).fraction ≡ true → written (cut text) ≡ text
cut_with_point text goes digital =
    let body = unsigned text in
    let at = eqb-true (get_or body (position_or_len is_point body) 0) 0x2E (passes_at_first is_point body 0 goes) in
    let split = split_at_first is_point body 0 goes ∙ ap (λ b. before_first is_point body ++ (b ∷ after_first is_point body)) at in
    let joined = ap (λ t. before_first is_point body ++ t) (pointed_some (after_first is_point body) (is_number-true 9 (after_first is_point body) digital).some) ∙ sym split in
    ap (λ t. cond (is_minus text) (0x2D ∷ []) [] ++ t) joined ∙ signed_text text

-- a text with no point is its minus and its digits
pub cut_with_none : (text : List ℕ) → length (unsigned text) ≤ position_or_len is_point (unsigned text) → written (made (is_minus text) (cut text).whole []) ≡ text
cut_with_none text ends =
    let body = unsigned text in
    ap (λ t. cond (is_minus text) (0x2D ∷ []) [] ++ t) (append-nil (before_first is_point body) ∙ take_all (position_or_len is_point body) body ends) ∙ signed_text text

-- the cut of a text that a decimal is written as
cut_same : (text : List ℕ) (places : ℕ) (d : Decimal) → Form places d → written d ≡ text → cut text ≡ d
cut_same text places d form same = ap cut (sym same) ∙ cut-written d form.whole form.some

-- no decimal is written so where no digits, or too many, stand in front
pub no_whole : (text : List ℕ) → is_number 4 (cut text).whole ≡ false → IsNoDecimal 9 text
no_whole text none d form same =
    let e = ap (λ c. is_number 4 c.whole) (cut_same text 9 d form same) in
    both_ways (is_number 4 d.whole) (sym e ∙ none) (number-true 4 d.whole form.some form.four form.whole)

-- nor where there is a point with no digits, or too many, behind it
pub no_fraction : (text : List ℕ) → position_or_len is_point (unsigned text) < length (unsigned text) → is_number 9 (cut text).fraction ≡ false → IsNoDecimal 9 text
no_fraction text goes none d form same = go d.fraction refl
  where
    body : unsigned text ≡ d.whole ++ pointed d.fraction
    body = ap unsigned (sym same) ∙ body_read d.minus (d.whole ++ pointed d.fraction) (first_digit d.whole (pointed d.fraction) form.whole form.some)

    here : position_or_len is_point (unsigned text) ≡ length d.whole
    here = ap (position_or_len is_point) body ∙ cut_at d.whole (pointed d.fraction) form.whole (no_point d.fraction)

    go : (fraction : List ℕ) → d.fraction ≡ fraction → ⊥
    go [] e = let k = ap length (body ∙ ap (λ f. d.whole ++ pointed f) e ∙ append-nil d.whole) in omega (arith, here)
    go (x ∷ xs) e =
        let k = ap length e in
        both_ways (is_number 9 d.fraction) (ap (λ c. is_number 9 c.fraction) (sym (cut_same text 9 d form same)) ∙ none)
        (number-true 9 d.fraction (omega arith) form.fine form.fraction)

-- Every decimal reads as its value, and every text that reads is a decimal's.

pub reads_value : (places : ℕ) (d : Decimal) → Form places d → decimal_of places (written d) ≡ Some (value places d)
reads_value places d form =
    ap (option_and_then (in_units places)) (parts_of-written places d form) ∙ cond-true _ _ _ (le-leb (length d.fraction) places form.fine)

pub value_reads : (places : ℕ) (text : List ℕ) (v : ℤ) → decimal_of places text ≡ Some v → (d : Decimal) × Form places d × (written d ≡ text) × (v ≡ value places d)
value_reads places text v e = option_and_then_some (in_units places) (parts_of text) v e found
  where
    found : (d : Decimal) → parts_of text ≡ Some d → in_units places d ≡ Some v → (d : Decimal) × Form places d × (written d ≡ text) × (v ≡ value places d)
    found d p u =
        let parts = parts_of-some text d p in
        let units = cond_some (leb (length d.fraction) places) (value places d) v u in
        (d, parts.form places (leb-true (length d.fraction) places units.0), parts.same, sym units.1)

pub reads : (places : ℕ) (text : List ℕ) → Reads places text (decimal_of places text)
reads places text = go (decimal_of places text) refl
  where
    go : (r : Option ℤ) → decimal_of places text ≡ r → Reads places text r
    go (Some v) e = value_reads places text v e
    go None e = λ d form t. clash (let k = reads_value places d form in let m = ap (decimal_of places) t in cc)

-- The value by the parts that the code reads, which has at most nine digits behind the point, as every scale has.

pub parsed_none : (places : ℕ) (text : List ℕ) → places ≤ 9 → IsNoDecimal 9 text → decimal_of places text ≡ None
parsed_none places text few none = go (parts_of text) refl
  where
    go : (r : Option Decimal) → parts_of text ≡ r → option_and_then (in_units places) (parts_of text) ≡ None
    go None e = ap (option_and_then (in_units places)) e
    go (Some d) e =
        let parts = parts_of-some text d e in
        let coarse : 9 < length d.fraction = ⊎_elim (λ more. more) (λ fine. absurd (none d (parts.form 9 fine) parts.same)) (cases_lt 9 (length d.fraction)) in
        ap (option_and_then (in_units places)) e ∙ cond-false _ _ _ (lt-leb (length d.fraction) places (omega arith))

pub parsed_some : (places : ℕ) (text : List ℕ) (d : Held) → Form 9 (parts d) → written (parts d) ≡ text → in_units places (parts d) ≡ decimal_of places text
parsed_some places text d form same =
    ap (option_and_then (in_units places)) (sym (parts_of-written 9 (parts d) form)) ∙ ap (decimal_of places) same

-- the same of a result that is the value
pub result_reads : (places : ℕ) (text : List ℕ) (r : Option ℤ) → r ≡ decimal_of places text → Reads places text r
result_reads places text r e = subst (Reads places text) (sym e) (reads places text)

-- A text reads as one thing alone.
pub reads_unique : (places : ℕ) (text : List ℕ) (a b : Option ℤ) → Reads places text a → Reads places text b → a ≡ b
reads_unique places text (Some v) (Some w) (d, p, s, x) (e, q, t, y) =
    ap Some (x ∙ ap (value places) (written_injective places places d e p q (s ∙ sym t)) ∙ sym y)
reads_unique places text (Some v) None (d, p, s, x) none = absurd (none d p s)
reads_unique places text None (Some w) none (e, q, t, y) = absurd (none e q t)
reads_unique places text None None p q = refl
