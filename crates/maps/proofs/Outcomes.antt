-- What reading a map file answers, from what opening it, reading its records and drawing its lines answer.
use Rattle.std.proofs.Common.{◌≡◌, ℕ, ◌-◌, ◌≤◌, ◌⊎◌, List, length, Ok, Err, Result, sym, refl, ap, ◌∙◌, subst, inl, inr, ⊎_elim, arith}
use Rattle.std.specs.Result.{MatchResult, IsErrAnd}
use Rattle.std.proofs.ByRecursion.{All-get_or}
use Rattle.std.proofs.lemmas.Bool.{cases_order}
use Rattle.refusals.specs.Checks.{Fills}
use Rattle.rfc4180.specs.declared.fault.Fault.TheVariants.{TooLong, Syntax}
use Rattle.rfc4180.specs.declared.fault.Fault as csv-fault
use Rattle.rfc4180.specs.declared.reader.Reader.{Reader}
use Rattle.rfc4180.specs.Grammar.{File}
use Rattle.rfc4180.specs.Places.{Parse, records_of}
use Rattle.rfc4180.specs.Opening.{Opening}
use Rattle.rfc4180.specs.Views.{left}
use Rattle.rfc4180.proofs.Unique.{unique}
use Rattle.rfc4180.proofs.Possible.{parsed, one_impossible, records_some}
use Rattle.feeder.specs.declared.line.Line.{Line}
use Rattle.feeder.specs.declared.map.Map.{Map}
use Rattle.feeder.specs.declared.fault.Fault.{Fault}
use Rattle.feeder.specs.declared.fault.Fault.TheVariants.{TooMany, Overmetered, Flawed, Beyond}
use Rattle.feeder.specs.Feeder.{Bus, Feeder, blank, distance}
use Rattle.feeder.specs.Build.{IsBeyond, IsFlawed, Lowest, Refused}
use Rattle.feeder.specs.View.{lines_of, metered_of, Stands}
use Rattle.feeder.proofs.Maps.{map_feeder, map_stands}
use Rattle.feeder.proofs.Builds.{feeder_reaches}
use Rattle.feeder.proofs.SameMaps.{maps_are_their_lines}
use Rattle.files.specs.declared.fault.FileFault.{FileFault}
use Rattle.files.specs.declared.fault.FileFault.TheVariants.{Bytes, Unreached}
use Rattle.maps.specs.Lines.{map_lines}
use Rattle.maps.specs.Rules.{AreLinesOf}
use Rattle.maps.specs.Reading.{fault_bus, MapReading, long, broken, faulty, unreached, drawn, IsMapOrBeyond, MapOutcomesAreUnique, RightMapsAreRead}
use Rattle.maps.proofs.Files.{file_ok, file_err, fault_file, right_said, file_right, Wired, file_wired, file_some}

-- the lines of a file are refused only where a bus does not reach the substation
refused_lines : (F : List Line) (fault : Fault) → length F ≤ 64 → ((b : ℕ) → Bus F b → IsFlawed F b → ⊥) → Refused (length F) F fault → Lowest F (IsBeyond F) (fault_bus fault)
refused_lines F TooMany few sound r = absurd (omega arith)
refused_lines F Overmetered few sound r = absurd (omega (arith, r.1))
refused_lines F (Flawed b) few sound r = absurd (sound b r.2.0 r.2.1)
refused_lines F (Beyond b) few sound r = r.3

pub drawn_lines : (F : List Line) (r : Result Map Fault) (s : Result Map FileFault) → length F ≤ 64 → ((b : ℕ) → Bus F b → IsFlawed F b → ⊥) → MatchResult r (λ m. (metered_of m ≡ length F) × (lines_of m ≡ F)) (λ e. Refused (length F) F e) → MatchResult r (λ m. s ≡ Ok m) (λ e. IsErrAnd s (λ y. y ≡ Unreached (fault_bus e))) → MatchResult s (λ m. (lines_of m ≡ F) × (metered_of m ≡ length (lines_of m))) (λ e. (b : ℕ) × (e ≡ Unreached b) × Lowest F (IsBeyond F) b)
drawn_lines F (Ok m) s few sound (metered, lines) e = rw e (lines, metered ∙ sym (ap length lines))
drawn_lines F (Err fault) (Ok m) few sound refused e = absurd e
drawn_lines F (Err fault) (Err y) few sound refused e = (fault_bus fault, e, refused_lines F fault few sound refused)

pub map_unopened : (bytes : List ℕ) (m : Map) (fault : csv-fault.Fault) → Opening {kept = 4} bytes (Err fault) → Fills (MapReading bytes) m m (Err (Bytes fault))
map_unopened bytes m TooLong h = (long h refl, refl)
map_unopened bytes m (Syntax i) h = (broken i h.0 h.1 refl, refl)

module _ (bytes : List ℕ) (reader : Reader 4) (h : Opening bytes (Ok reader)) where
  abbrev file : File
  file = h.1.file

  pub map_unread : (m : Map) (fault : FileFault) → Err fault ≡ map_lines (length bytes) (left reader) → Fills (MapReading bytes) m m (Err fault)
  map_unread m fault e =
      let found : map_lines (length bytes) (records_of file) ≡ Err fault = ap (map_lines (length bytes)) (sym h.1.records) ∙ sym e in
      (faulty file fault h.0 h.1.parse (file_err (length bytes) (records_of file) fault (records_some file) found) refl, refl)

  module _ (lines : List Line) (e : Ok lines ≡ map_lines (length bytes) (left reader)) where
    of_file : AreLinesOf (records_of file) lines
    of_file = file_ok (length bytes) (records_of file) lines (ap (map_lines (length bytes)) (sym h.1.records) ∙ sym e)

    pub map_sound : (b : ℕ) → Bus lines b → IsFlawed lines b → ⊥
    map_sound b bus flaw =
        let line = All-get_or (Wired (length lines)) lines (b - 1) blank (omega (arith, bus)) (file_wired (records_of file) lines of_file) in
        ⊎_elim (λ far. omega (arith, line.upper)) (λ none. omega (arith, line.some)) flaw

    pub map_unreached : (m : Map) (fault : FileFault) → (b : ℕ) × (fault ≡ Unreached b) × Lowest lines (IsBeyond lines) b → Fills (MapReading bytes) m m (Err fault)
    map_unreached m fault (b, is, low) = (unreached file lines b h.0 h.1.parse of_file low (ap Err is), refl)

    pub map_drawn : (new : Map) → (lines_of new ≡ lines) × (metered_of new ≡ length (lines_of new)) → MapReading bytes (Ok new)
    map_drawn new (same, metered) = drawn file new h.0 h.1.parse (subst (AreLinesOf (records_of file)) (sym same) of_file) metered refl

    pub map_model : (new : Map) → lines_of new ≡ lines → Feeder (lines_of new) × Stands new
    map_model new same =
        let some = file_some (records_of file) lines of_file in
        (map_feeder new (omega (arith, ap length same, some)), map_stands new)

-- A map file has exactly one outcome: that of checking its records one after the other, and then the lines that they say.

abbrev Ends : List Line → Result Map FileFault → Type 0
Ends F r = ((b : ℕ) × Lowest F (IsBeyond F) b × (r ≡ Err (Unreached b))) ⊎ ((m : Map) × (lines_of m ≡ F) × (metered_of m ≡ length F) × (r ≡ Ok m))

abbrev Outcome : Result (List Line) FileFault → Result Map FileFault → Type 0
Outcome (Ok F) r = Ends F r
Outcome (Err fault) r = r ≡ Err fault

-- the lines of a map have no bus that does not reach the substation
all_reached : (m : Map) (b : ℕ) → Lowest (lines_of m) (IsBeyond (lines_of m)) b → ⊥
all_reached m b low =
    let some : 1 ≤ length (lines_of m) = omega (arith, low.0.0, low.0.1) in
    low.1 (distance (lines_of m) b) (feeder_reaches (lines_of m) (map_feeder m some) b) ((map_stands m).near b low.0.1)

one_lowest : (F : List Line) (P : ℕ → Type 0) (b c : ℕ) → Lowest F P b → Lowest F P c → b ≡ c
one_lowest F P b c p q =
    ⊎_elim (λ e. e) (⊎_elim (λ l. absurd (q.2 b p.0.0 l p.1)) (λ l. absurd (p.2 c q.0.0 l q.1))) (cases_order b c)

ends_same : (F : List Line) (a b : Result Map FileFault) → Ends F a → Ends F b → a ≡ b
ends_same F a b (inl (i, p, e)) (inl (j, q, f)) = e ∙ ap (λ k. Err (Unreached k)) (one_lowest F (IsBeyond F) i j p q) ∙ sym f
ends_same F a b (inl (i, p, e)) (inr (m, lines, metered, f)) = absurd (all_reached m i (subst (λ G. Lowest G (IsBeyond G) i) (sym lines) p))
ends_same F a b (inr (m, lines, metered, e)) (inl (j, q, f)) = absurd (all_reached m j (subst (λ G. Lowest G (IsBeyond G) j) (sym lines) q))
ends_same F a b (inr (m, lines, metered, e)) (inr (n, others, more, f)) = e ∙ ap Ok (maps_are_their_lines m n (metered ∙ sym more) (lines ∙ sym others)) ∙ sym f

outcome_same : (o : Result (List Line) FileFault) (a b : Result Map FileFault) → Outcome o a → Outcome o b → a ≡ b
outcome_same (Ok F) a b p q = ends_same F a b p q
outcome_same (Err fault) a b p q = p ∙ sym q

outcome_of : (bytes : List ℕ) (r : Result Map FileFault) → length bytes ≤ 65536 → MapReading bytes r → (f : File) → Parse f bytes → Outcome (map_lines (length bytes) (records_of f)) r
outcome_of bytes r few (long h e) f parse = absurd (omega (arith, h, few))
outcome_of bytes r few (broken i h bad e) f parse = absurd (parsed bytes f i parse bad)
outcome_of bytes r few (faulty g fault h other first e) f parse =
    let found = fault_file (length bytes) (records_of g) fault first in
    subst (λ (x : File). Outcome (map_lines (length bytes) (records_of x)) r) (unique g f bytes other parse) (rw found e)
outcome_of bytes r few (unreached g F b h other lines low e) f parse =
    let found = file_right (length bytes) (records_of g) F lines in
    subst (λ (x : File). Outcome (map_lines (length bytes) (records_of x)) r) (unique g f bytes other parse) (rw found (inl (b, low, e)))
outcome_of bytes r few (drawn g m h other lines metered e) f parse =
    let found = file_right (length bytes) (records_of g) (lines_of m) lines in
    subst (λ (x : File). Outcome (map_lines (length bytes) (records_of x)) r) (unique g f bytes other parse) (rw found (inr (m, refl, metered, e)))

-- where a file is there, there is one outcome
with_file : (bytes : List ℕ) (f : File) (a b : Result Map FileFault) → length bytes ≤ 65536 → Parse f bytes → MapReading bytes a → MapReading bytes b → a ≡ b
with_file bytes f a b few parse p q =
    outcome_same (map_lines (length bytes) (records_of f)) a b (outcome_of bytes a few p f parse) (outcome_of bytes b few q f parse)

pub map_outcomes_are_unique : MapOutcomesAreUnique
map_outcomes_are_unique bytes a b (long h e) (long k f) = e ∙ sym f
map_outcomes_are_unique bytes a b (long h e) (broken j k bad f) = absurd (omega (arith, h, k))
map_outcomes_are_unique bytes a b (long h e) (faulty g fault k parse first f) = absurd (omega (arith, h, k))
map_outcomes_are_unique bytes a b (long h e) (unreached g F c k parse lines low f) = absurd (omega (arith, h, k))
map_outcomes_are_unique bytes a b (long h e) (drawn g m k parse lines metered f) = absurd (omega (arith, h, k))
map_outcomes_are_unique bytes a b (broken i h bad e) (long k f) = absurd (omega (arith, h, k))
map_outcomes_are_unique bytes a b (broken i h bad e) (broken j k worse f) = e ∙ ap (λ n. Err (Bytes (Syntax n))) (one_impossible bytes i j bad worse) ∙ sym f
map_outcomes_are_unique bytes a b (broken i h bad e) (faulty g fault k parse first f) = absurd (parsed bytes g i parse bad)
map_outcomes_are_unique bytes a b (broken i h bad e) (unreached g F c k parse lines low f) = absurd (parsed bytes g i parse bad)
map_outcomes_are_unique bytes a b (broken i h bad e) (drawn g m k parse lines metered f) = absurd (parsed bytes g i parse bad)
map_outcomes_are_unique bytes a b (faulty g fault h parse first e) other = with_file bytes g a b h parse (faulty g fault h parse first e) other
map_outcomes_are_unique bytes a b (unreached g F c h parse lines low e) other = with_file bytes g a b h parse (unreached g F c h parse lines low e) other
map_outcomes_are_unique bytes a b (drawn g m h parse lines metered e) other = with_file bytes g a b h parse (drawn g m h parse lines metered e) other

pub right_maps_are_read : RightMapsAreRead
right_maps_are_read bytes f head rows r few parse parts named some all reading =
    let said = right_said (length bytes) (records_of f) head rows parts named some all in
    let found = file_right (length bytes) (records_of f) said.0 said.1 in
    (said.0, said.1, ended said.0 (subst (λ o. Outcome o r) found (outcome_of bytes r few reading f parse)))
  where
    ended : (F : List Line) → Ends F r → IsMapOrBeyond F r
    ended F (inl (b, low, e)) = inr (b, low, e)
    ended F (inr (m, lines, metered, e)) = inl (m, lines, e)
