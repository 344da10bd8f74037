-- A file has one text of a kind.
use Rattle.std.proofs.Common.{◌≡◌, ℕ, ◌⊎◌, List, Some, None, Ok, Err, Option, Result, sym, refl, ap, ◌∙◌, subst, inl, inr, arith}
use Rattle.refusals.proofs.Checks.{clash}
use Rattle.feeder.specs.declared.line.Line.{Line}
use Rattle.feeder.specs.declared.kind.Kind.{Kind}
use Rattle.feeder.specs.declared.map.Map.{Map}
use Rattle.feeder.specs.Table.{Answers}
use Rattle.feeder.specs.View.{lines_of}
use Rattle.feeder.proofs.Alone.{answers_are_alone}
use Rattle.files.specs.declared.fault.FileFault.{FileFault}
use Rattle.files.specs.declared.table.Table.{Table}
use Rattle.files.proofs.Outcomes.{outcomes_are_unique}
use Rattle.probing.specs.declared.fault.SourceFault.TheVariants.{Unreadable}
use Rattle.campaign.specs.declared.fault.CampaignFault.TheVariants.{Source}
use Rattle.campaign.specs.declared.drawing_fault.DrawingFault.TheVariants.{InverterMissing, NoFeeder as Nowhere}
use Rattle.printing.specs.MapTexts.{map_text}
use Rattle.printing.specs.RefusalTexts.{refusal_text}
use Rattle.survey.specs.declared.fault.ProgramFault.{ProgramFault}
use Rattle.survey.specs.declared.fault.ProgramFault.TheVariants.{File as InFile, Campaign as InCampaign, Drawing as InDrawing}
use Rattle.survey.specs.Faults.{refusal_of}
use Rattle.survey.specs.Surveys.{Refuses, Holds, told, mute, bare, Surveys, unread, muted, unequipped, nowhere, drawn}
use Rattle.survey.specs.Prints.{Text, drawn as drawnText, refused as refusedText, TextsAreAlone}

-- What a table's survey prints follows from the table and what a drawing of it answers.

abbrev text_of : Result (Unit {0}) ProgramFault → Map → List ℕ
text_of (Ok u) map = map_text (lines_of map)
text_of (Err fault) map = refusal_text (refusal_of fault)

abbrev text_by : Option ℕ → Option ℕ → Option (List Line) → List ℕ
text_by (Some bus) o a = refusal_text (refusal_of (InCampaign (record { fault = Source (Unreadable bus); inverter = 0 })))
text_by None (Some n) a = refusal_text (refusal_of (InDrawing (InverterMissing n)))
text_by None None None = refusal_text (refusal_of (InDrawing Nowhere))
text_by None None (Some F) = map_text F

record By (kind : Kind) (t : Table) (text : List ℕ) : Type 0 where
  pub answer : Option (List Line)
  pub says : text ≡ text_by (mute t) (bare kind t) answer
  pub right : mute t ≡ None → bare kind t ≡ None → Answers kind (told t) answer

by_one : (kind : Kind) (t : Table) (text text' : List ℕ) → By kind t text → By kind t text' → text ≡ text'
by_one kind t text text' a b = a.says ∙ go (mute t) (bare kind t) refl refl ∙ sym b.says
  where
    go : (m n : Option ℕ) → mute t ≡ m → bare kind t ≡ n → text_by m n a.answer ≡ text_by m n b.answer
    go (Some bus) n e d = refl
    go None (Some bus) e d = refl
    go None None e d = ap (text_by None None) (answers_are_alone kind (told t) a.answer b.answer (a.right e d) (b.right e d))

none_some : {A : Type 0} {x : A} {B : Type 0} → ◌≡◌ {A = Option A} (Some x) None → B
none_some e = absurd (let z : ◌≡◌ {A = ℕ} 0 1 = cc in omega arith)

-- the file is refused, or its table says the text
abbrev Found : List ℕ → Kind → List ℕ → Type 0
Found bytes kind text = ((fault : FileFault) × Refuses bytes fault × (text ≡ refusal_text (refusal_of (InFile fault)))) ⊎ ((t : Table) × Holds bytes t × By kind t text)

found : (bytes : List ℕ) (kind : Kind) (old new : Map) (r : Result (Unit {0}) ProgramFault) → Surveys bytes kind old r new → Found bytes kind (text_of r new)
found bytes kind old new r (unread fault refuses) = inl (fault, refuses, refl)
found bytes kind old new r (muted t holds bus m e l) =
    inr (t, holds, record { answer = None; says = ap (λ o. text_by o (bare kind t) None) (sym e); right = λ z d. none_some (sym e ∙ z) })
found bytes kind old new r (unequipped t holds e n d) =
    inr (t, holds, record { answer = None; says = ap (λ o. text_by o (Some n) None) (sym e) ∙ ap (λ o. text_by (mute t) o None) (sym d); right = λ z x. none_some (sym d ∙ x) })
found bytes kind old new r (nowhere t holds e d nothing) =
    inr (t, holds, record { answer = None; says = ap (λ o. text_by o None None) (sym e) ∙ ap (λ o. text_by (mute t) o None) (sym d); right = λ z x. nothing })
found bytes kind old new r (drawn t holds e d map fits) =
    inr (t, holds, record { answer = Some (lines_of map); says = ap (λ o. text_by o None (Some (lines_of map))) (sym e) ∙ ap (λ o. text_by (mute t) o (Some (lines_of map))) (sym d); right = λ z x. fits.1 })

same_fault : {a b : FileFault} → ◌≡◌ {A = Result Table FileFault} (Err a) (Err b) → a ≡ b
same_fault e = cc

same_table : {a b : Table} → ◌≡◌ {A = Result Table FileFault} (Ok a) (Ok b) → a ≡ b
same_table e = cc

found_one : (bytes : List ℕ) (kind : Kind) (text text' : List ℕ) → Found bytes kind text → Found bytes kind text' → text ≡ text'
found_one bytes kind text text' (inl (a, x, p)) (inl (b, y, q)) = p ∙ ap (λ fault. refusal_text (refusal_of (InFile fault))) (same_fault (outcomes_are_unique bytes (Err a) (Err b) x y)) ∙ sym q
found_one bytes kind text text' (inl (a, x, p)) (inr (t, y, q)) = (let e = outcomes_are_unique bytes (Err a) (Ok t) x y in clash cc)
found_one bytes kind text text' (inr (t, x, p)) (inl (b, y, q)) = (let e = outcomes_are_unique bytes (Err b) (Ok t) y x in clash cc)
found_one bytes kind text text' (inr (t, x, p)) (inr (u, y, q)) = by_one kind u text text' (subst (λ z. By kind z text) (same_table (outcomes_are_unique bytes (Ok t) (Ok u) x y)) p) q

text_found : (bytes : List ℕ) (kind : Kind) (text : List ℕ) → Text bytes kind text → Found bytes kind text
text_found bytes kind text (drawnText old new s) = found bytes kind old new (Ok tt) s
text_found bytes kind text (refusedText old new fault s) = found bytes kind old new (Err fault) s

pub texts_are_alone : TextsAreAlone
texts_are_alone bytes kind a b x y = found_one bytes kind a b (text_found bytes kind a x) (text_found bytes kind b y)
