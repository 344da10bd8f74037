use Rattle.std.proofs.Common.{sym, ◌∙◌, subst, arith}
use Rattle.std.proofs.lemmas.Bool.{true≢false}
use Rattle.std.proofs.lemmas.Bool.Decides.{not_from_Decides}
use Rattle.drawing.specs.Responses.{entries_of}
use Rattle.drawing.specs.Places.{Free}
use Rattle.drawing.proofs.Branches.{next_taken, next_kept, next_is}
use Rattle.drawing.proofs.seats.branches.Way.next_branch.Goals as goal
use Rattle.drawing.proofs.seats.branches.Way.next_branch.Goals.{then-has_inverter+then-candidate-from+then-candidate-next+then-is_free, then-has_inverter+else-candidate-from, else-candidate-from-via-then-candidate-from+then-candidate-next+else-is_free, else-candidate-from-via-then-candidate-from+else-candidate-next, else-candidate-from-via-else-candidate-from, else-has_inverter}

pub loop-k-preserved : goal.loop-k-preserved
loop-k-preserved c =
    let E = entries_of c.args.self.now.metered.responses.now in
    let S = c.args.self.now.metered.seats.now in
    let kept = next_kept E S c.args.self.now.inverter c.max-from.result c.entry-end.result c.loop-k.k c.loop-k.next c.loop-k.invariant in
    elim c.if-has_inverter.branch [
      | then-has_inverter+then-candidate-from+then-candidate-next+then-is_free w ↦
          rw w.next-is (next_taken E S c.args.self.now.inverter c.max-from.result c.entry-end.result c.loop-k.k c.loop-k.next c.loop-k.invariant w.entry-candidate.result w.entry-candidate.ensures ((omega arith, omega arith), sym c.has_inverter.ensures ∙ w.if-has_inverter.true) w.if-candidate-from.true w.if-candidate-next.true (w.is_free.ensures.0 w.if-is_free.true))
      | then-has_inverter+else-candidate-from w ↦
          rw w.next-is (kept (elim w.else-candidate-from.branch [
            | else-candidate-from-via-then-candidate-from+then-candidate-next+else-is_free w' ↦ λ _ v e lo hi free. not_from_Decides w'.is_free.result w'.is_free.ensures w'.if-is_free.false (subst (Free E S c.args.self.now.inverter) (e ∙ sym w.entry-candidate.ensures) free)
            | else-candidate-from-via-then-candidate-from+else-candidate-next w' ↦ λ _ v e lo hi free. omega (arith, e, w.entry-candidate.ensures, w'.if-candidate-next.false)
            | else-candidate-from-via-else-candidate-from w' ↦ λ _ v e lo hi free. omega (arith, e, w.entry-candidate.ensures, w'.if-candidate-from.false)
          ]))
      | else-has_inverter w ↦ rw w.next-is (kept (λ i v e lo hi free. true≢false (sym i.1 ∙ sym c.has_inverter.ensures ∙ w.if-has_inverter.false)))
    ]

pub returns : goal.returns
returns c = next_is (entries_of c.args.self.now.metered.responses.now) c.args.self.now.metered.seats.now c.args.self.now.inverter c.args.above c.floor.result c.max-from.result c.entry-end.result c.loop-k.k c.loop-k.next c.args.self.now.stands c.floor.ensures c.max-from.ensures c.entry-end.ensures (omega arith) c.loop-k.invariant _ c.then_some.ensures
