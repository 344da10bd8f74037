-- What holds along the bytes of a record, for whatever goes over them as the automaton does.
use Rattle.std.proofs.Common.{◌≡◌, ℕ, Bool, true, false, cond, eqb, List, [], ◌∷◌, ◌++◌, Some, refl, sym, ap, ◌∙◌, append_assoc, arith}
use Rattle.std.proofs.lemmas.Bool.{and_parts}
use Rattle.rfc4180.specs.declared.automaton.State.{State}
use Rattle.rfc4180.specs.declared.automaton.State.TheVariants.{Start, Plain, Inside, Closed, Return}
use Rattle.rfc4180.specs.Automaton.{step_of, opened}
use Rattle.rfc4180.specs.Grammar.{text_data, quotable, Field, plain, quoted, Record, lone, beside, Records, above, every, good_field, good_record, doubled, field_text, record_text, records_text}
use Rattle.rfc4180.proofs.Readings.{closing}

text_start : (b : ℕ) → text_data b ≡ true → step_of Start b ≡ Some Plain
text_start b h = grind arith

text_plain : (b : ℕ) → text_data b ≡ true → step_of Plain b ≡ Some Plain
text_plain b h = grind arith

text_inside : (b : ℕ) → quotable b ≡ true → eqb b 0x22 ≡ false → step_of Inside b ≡ Some Inside
text_inside b h n = grind arith

-- what says the same of a state and bytes as of the next state and the rest, unless a record opens there
pub record Along {A : Type 0} (run : State → List ℕ → A) : Type 0 where
  pub on : (s t : State) (b : ℕ) (bs : List ℕ) → step_of s b ≡ Some t → opened s bs ≡ 0 → run s (b ∷ bs) ≡ run t bs
  pub plain_end : run Plain [] ≡ run Start []
  pub closed_end : run Closed [] ≡ run Start []

-- it says the same where a record starts and where it ends
module _ {A : Type 0} (run : State → List ℕ → A) (along : Along run) where
  -- bytes that end a field however it is written
  pub record Stop (zs : List ℕ) : Type 0 where
    pub plain : run Plain zs ≡ run Start zs
    pub closed : run Closed zs ≡ run Start zs

  stop_end : Stop []
  stop_end = record { plain = along.plain_end; closed = along.closed_end }

  stop_comma : (zs : List ℕ) → Stop (0x2C ∷ zs)
  stop_comma zs =
      let start = along.on Start Start 0x2C zs refl refl in
      record { plain = along.on Plain Start 0x2C zs refl refl ∙ sym start; closed = along.on Closed Start 0x2C zs refl refl ∙ sym start }

  stop_line : (zs : List ℕ) → Stop (0x0D ∷ zs)
  stop_line zs =
      let start = along.on Start Return 0x0D zs refl refl in
      record { plain = along.on Plain Return 0x0D zs refl refl ∙ sym start; closed = along.on Closed Return 0x0D zs refl refl ∙ sym start }

  plain_run : (xs zs : List ℕ) → every text_data xs ≡ true → run Plain (xs ++ zs) ≡ run Plain zs
  plain_run [] zs h = refl
  plain_run (x ∷ xs) zs h =
      let p = and_parts (text_data x) (every text_data xs) h in
      along.on Plain Plain x (xs ++ zs) (text_plain x p.0) refl ∙ plain_run xs zs p.1

  held_run : (x : ℕ) (xs zs : List ℕ) (b : Bool) → eqb x 0x22 ≡ b → quotable x ≡ true → run Inside (doubled xs ++ 0x22 ∷ zs) ≡ run Closed zs → run Inside (cond b (0x22 ∷ 0x22 ∷ doubled xs) (x ∷ doubled xs) ++ 0x22 ∷ zs) ≡ run Closed zs
  held_run x xs zs true e h ih =
      along.on Inside Closed 0x22 (0x22 ∷ (doubled xs ++ 0x22 ∷ zs)) refl refl ∙ along.on Closed Inside 0x22 (doubled xs ++ 0x22 ∷ zs) refl refl ∙ ih
  held_run x xs zs false e h ih = along.on Inside Inside x (doubled xs ++ 0x22 ∷ zs) (text_inside x h e) refl ∙ ih

  quoted_run : (xs zs : List ℕ) → every quotable xs ≡ true → run Inside (doubled xs ++ 0x22 ∷ zs) ≡ run Closed zs
  quoted_run [] zs h = along.on Inside Closed 0x22 zs refl refl
  quoted_run (x ∷ xs) zs h =
      let p = and_parts (quotable x) (every quotable xs) h in
      held_run x xs zs (eqb x 0x22) refl p.0 (quoted_run xs zs p.1)

  field_run : (f : Field) (zs : List ℕ) → good_field f ≡ true → Stop zs → run Start (field_text f ++ zs) ≡ run Start zs
  field_run (plain []) zs h s = refl
  field_run (plain (x ∷ xs)) zs h s =
      let p = and_parts (text_data x) (every text_data xs) h in
      along.on Start Plain x (xs ++ zs) (text_start x p.0) refl ∙ plain_run xs zs p.1 ∙ s.plain
  field_run (quoted xs) zs h s =
      along.on Start Inside 0x22 ((doubled xs ++ 0x22 ∷ []) ++ zs) refl refl
      ∙ ap (run Inside) (append_assoc (doubled xs) (0x22 ∷ []) zs)
      ∙ quoted_run xs zs h
      ∙ s.closed

  pub record_run : (r : Record) (zs : List ℕ) → good_record r ≡ true → Stop zs → run Start (record_text r ++ zs) ≡ run Start zs
  record_run (lone f) zs h s = field_run f zs h s
  record_run (beside f r) zs h s =
      let p = and_parts (good_field f) (good_record r) h in
      ap (run Start) (append_assoc (field_text f) (0x2C ∷ record_text r) zs)
      ∙ field_run f (0x2C ∷ (record_text r ++ zs)) p.0 (stop_comma (record_text r ++ zs))
      ∙ along.on Start Start 0x2C (record_text r ++ zs) refl refl
      ∙ record_run r zs p.1 s

  -- up to the LF of the line end after the first of the records
  pub line_run : (r : Record) (rs : Records) (zs : List ℕ) → good_record r ≡ true → run Start (records_text (above r rs) ++ zs) ≡ run Return (0x0A ∷ (records_text rs ++ zs))
  line_run r rs zs h =
      ap (run Start) (append_assoc (record_text r) (0x0D ∷ 0x0A ∷ records_text rs) zs)
      ∙ record_run r (0x0D ∷ 0x0A ∷ (records_text rs ++ zs)) h (stop_line (0x0A ∷ (records_text rs ++ zs)))
      ∙ along.on Start Return 0x0D (0x0A ∷ (records_text rs ++ zs)) refl refl

  pub closing_stop : (b : Bool) → Stop (closing b)
  closing_stop true = stop_line (0x0A ∷ [])
  closing_stop false = stop_end
