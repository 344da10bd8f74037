-- What stands at a place of a file where a field of the grammar stands.
use Rattle.std.proofs.Common.{◌≡◌, ℕ, ◌+◌, ◌≤◌, Bool, true, false, cond, eqb, ltb, List, [], ◌∷◌, ◌++◌, Option, Some, None, length, get_or, take, drop, sym, refl, ap, ◌∙◌, append_assoc, add-zero, arith, length-append, length-drop, get_or-drop, drop-drop, take_at, drop_at}
use Rattle.std.specs.List.{prefix_len}
use Rattle.std.proofs.lemmas.Bool.{and_parts, and_from, and_left, cond-true, cond-false, eqb-true, lt-ltb}
use Rattle.std.proofs.lemmas.List.Folds.{length-prefix_len}
use Rattle.rfc4180.specs.Grammar.{text_data, Field, plain, quoted, every, good_field, doubled, field_text}
use Rattle.rfc4180.specs.Places.{Piece, plainly, quotedly, content_of, place_field}
use Rattle.rfc4180.specs.Reading.{held_length, undoubled, held_at, plain_at, close_at, quoted_at, plain_content, piece_at}

-- bytes that end a field however it is written
pub record Stop (zs : List ℕ) : Type 0 where
  pub text : prefix_len text_data zs ≡ 0
  pub held : held_length (0x22 ∷ zs) ≡ 0
  pub quote : eqb (get_or zs 0 0) 0x22 ≡ false

leading_run : (xs zs : List ℕ) → every text_data xs ≡ true → prefix_len text_data (xs ++ zs) ≡ length xs + prefix_len text_data zs
leading_run [] zs h = omega arith
leading_run (x ∷ xs) zs h =
    let p = and_parts (text_data x) (every text_data xs) h in
    cond-true (text_data x) (1 + prefix_len text_data (xs ++ zs)) 0 p.0 ∙ omega (arith, leading_run xs zs p.1)

-- a byte other than a quote, between quotes
held_other : (x : ℕ) (ys : List ℕ) → eqb x 0x22 ≡ false → held_length (x ∷ ys) ≡ held_length ys + 1
held_other x [] h = cond-false (eqb x 0x22) 0 1 h
held_other x (y ∷ ys) h = cond-false (eqb x 0x22) _ (held_length (y ∷ ys) + 1) h

undoubled_other : (x : ℕ) (ys : List ℕ) → eqb x 0x22 ≡ false → undoubled (x ∷ ys) ≡ x ∷ undoubled ys
undoubled_other x [] h = refl
undoubled_other x (y ∷ ys) h = cond-false (eqb x 0x22) _ (x ∷ undoubled (y ∷ ys)) h

held_step : (x : ℕ) (xs zs : List ℕ) (b : Bool) → eqb x 0x22 ≡ b → held_length (doubled xs ++ 0x22 ∷ zs) ≡ length (doubled xs) + held_length (0x22 ∷ zs) → held_length (cond b (0x22 ∷ 0x22 ∷ doubled xs) (x ∷ doubled xs) ++ 0x22 ∷ zs) ≡ length (cond b (0x22 ∷ 0x22 ∷ doubled xs) (x ∷ doubled xs)) + held_length (0x22 ∷ zs)
held_step x xs zs true e ih = omega arith
held_step x xs zs false e ih = held_other x (doubled xs ++ 0x22 ∷ zs) e ∙ omega arith

held_run : (xs zs : List ℕ) → held_length (doubled xs ++ 0x22 ∷ zs) ≡ length (doubled xs) + held_length (0x22 ∷ zs)
held_run [] zs = omega arith
held_run (x ∷ xs) zs = held_step x xs zs (eqb x 0x22) refl (held_run xs zs)

undoubled_step : (x : ℕ) (xs : List ℕ) (b : Bool) → eqb x 0x22 ≡ b → undoubled (doubled xs) ≡ xs → undoubled (cond b (0x22 ∷ 0x22 ∷ doubled xs) (x ∷ doubled xs)) ≡ x ∷ xs
undoubled_step x xs true e ih = let q = eqb-true x 0x22 e in cc
undoubled_step x xs false e ih = undoubled_other x (doubled xs) e ∙ ap (λ (l : List ℕ). x ∷ l) ih

pub undoubled_doubled : (xs : List ℕ) → undoubled (doubled xs) ≡ xs
undoubled_doubled [] = refl
undoubled_doubled (x ∷ xs) = undoubled_step x xs (eqb x 0x22) refl (undoubled_doubled xs)

-- zs are the bytes of the file from p on
pub record Left (file : List ℕ) (p : ℕ) (zs : List ℕ) : Type 0 where
  pub within : p ≤ length file
  pub rest : drop p file ≡ zs

pub left_length : (file : List ℕ) (p : ℕ) (zs : List ℕ) → Left file p zs → p + length zs ≡ length file
left_length file p zs l = omega (arith, length-drop p file, ap length l.rest, l.within)

pub left_more : (file : List ℕ) (p : ℕ) (xs zs : List ℕ) → Left file p (xs ++ zs) → Left file (p + length xs) zs
left_more file p xs zs l =
    record {
      within = omega (arith, left_length file p (xs ++ zs) l, length-append xs zs);
      rest = sym (drop-drop (length xs) p file) ∙ ap (λ (l : List ℕ). drop (length xs) l) l.rest ∙ drop_at xs zs (length xs) refl;
    }

pub left_first : (file : List ℕ) (p : ℕ) (zs : List ℕ) → Left file p zs → get_or file p 0 ≡ get_or zs 0 0
left_first file p zs l =
    sym (get_or-drop p file 0 0 ∙ ap (λ (n : ℕ). get_or file n 0) (add-zero p)) ∙ ap (λ (l : List ℕ). get_or l 0 0) l.rest

-- the content and the end of the field at p say all of it
piece_same : (file : List ℕ) (p : ℕ) (f : Field) (b : Bool) → quoted_at file p ≡ b → cond b (quotedly (undoubled (held_at file p))) (plain_content (plain_at file p)) ≡ content_of f → cond b (close_at file p + 1) (p + prefix_len text_data (drop p file)) ≡ p + length (field_text f) → piece_at file p ≡ place_field p f
piece_same file p f b h same ends = cc

module _ (file : List ℕ) (p : ℕ) (xs zs : List ℕ) (stop : Stop zs) (l : Left file p (field_text (quoted xs) ++ zs)) where
  inner : Left file (p + 1) (doubled xs ++ 0x22 ∷ zs)
  inner = rw append_assoc at (left_more file p (0x22 ∷ []) _ l)

  close : close_at file p ≡ p + 1 + length (doubled xs)
  close = omega (arith, ap held_length inner.rest, held_run xs zs, stop.held)

  is_quoted : quoted_at file p ≡ true
  is_quoted =
      and_from (eqb (get_or file p 0) 0x22) (ltb (close_at file p) (length file))
      (ap (λ (x : ℕ). eqb x 0x22) (left_first file p _ l))
      (lt-ltb (close_at file p) (length file) (omega (arith, close, left_length file (p + 1) _ inner, length-append (doubled xs) (0x22 ∷ zs))))

  held_is : held_at file p ≡ doubled xs
  held_is =
      ap (λ (l : List ℕ). take (held_length l) l) inner.rest
      ∙ take_at (doubled xs) (0x22 ∷ zs) (held_length (doubled xs ++ 0x22 ∷ zs)) (omega (arith, held_run xs zs, stop.held))

  quoted_at_lem : piece_at file p ≡ place_field p (quoted xs)
  quoted_at_lem =
      piece_same file p (quoted xs) true is_quoted (ap quotedly (ap undoubled held_is ∙ undoubled_doubled xs))
      (omega (arith, close, length-append (doubled xs) (0x22 ∷ [])))

no_quote : (xs zs : List ℕ) → every text_data xs ≡ true → Stop zs → eqb (get_or (xs ++ zs) 0 0) 0x22 ≡ false
no_quote [] zs h stop = stop.quote
no_quote (x ∷ xs) zs h stop = let p = (and_parts (text_data x) (every text_data xs) h).0 in grind arith

-- no quoted field was found
pub unquoted : (b : Bool) (xs : List ℕ) → ◌≡◌ {A = Option (List ℕ)} None (cond b (Some xs) None) → b ≡ false
unquoted true xs h = cc
unquoted false xs h = refl

-- a plain field with a byte in it
pub plain_found : (file : List ℕ) (p : ℕ) (xs : List ℕ) → xs ≡ plain_at file p → 1 ≤ length xs → quoted_at file p ≡ false →
    ◌≡◌ {A = Piece} (record { content = plainly xs; start = p; end = p + length xs }) (piece_at file p)
plain_found file p [] e l none = absurd (omega arith)
plain_found file p (x ∷ xs) e l none =
    sym (piece_same file p (plain (x ∷ xs)) false none (ap plain_content (sym e))
    (ap (λ n. p + n) (sym (ap length e ∙ length-prefix_len text_data (drop p file)))))

plain_content_lem : (xs : List ℕ) → plain_content xs ≡ content_of (plain xs)
plain_content_lem [] = refl
plain_content_lem (x ∷ xs) = refl

module _ (file : List ℕ) (p : ℕ) (xs zs : List ℕ) (stop : Stop zs) (l : Left file p (xs ++ zs)) (good : every text_data xs ≡ true) where
  front : prefix_len text_data (xs ++ zs) ≡ length xs
  front = omega (arith, leading_run xs zs good, stop.text)

  is_plain_lem : quoted_at file p ≡ false
  is_plain_lem =
      and_left (eqb (get_or file p 0) 0x22) _ (ap (λ (x : ℕ). eqb x 0x22) (left_first file p (xs ++ zs) l) ∙ no_quote xs zs good stop)

  plain_is : plain_at file p ≡ xs
  plain_is =
      ap (λ (l : List ℕ). take (prefix_len text_data l) l) l.rest ∙ take_at xs zs (prefix_len text_data (xs ++ zs)) (sym front)

  plain_at_lem : piece_at file p ≡ place_field p (plain xs)
  plain_at_lem =
      piece_same file p (plain xs) false is_plain_lem (ap plain_content plain_is ∙ plain_content_lem xs)
      (ap (λ (n : ℕ). p + n) (ap (prefix_len text_data) l.rest ∙ front))

-- the reading finds the field that stands at p
pub field_at : (file : List ℕ) (p : ℕ) (f : Field) (zs : List ℕ) → good_field f ≡ true → Stop zs → Left file p (field_text f ++ zs) → piece_at file p ≡ place_field p f
field_at file p (quoted xs) zs good stop l = quoted_at_lem file p xs zs stop l
field_at file p (plain xs) zs good stop l = plain_at_lem file p xs zs stop l good
