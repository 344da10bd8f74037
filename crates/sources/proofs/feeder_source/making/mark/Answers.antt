use Rattle.std.proofs.Common.{◌-◌, false, not, length, get_or, sym, refl, ◌∙◌, arith, length-set}
use Rattle.sources.specs.LineMaking.{misplaced}
use Rattle.sources.proofs.Entries.{first_none, first_more, first_found, marks_none, marks_more, misplaced_told, placed_entry}
use Rattle.sources.proofs.feeder_source.making.mark.Goals as goal

pub loop-index-init : goal.loop-index-init
loop-index-init c = (refl, first_none _, marks_none c.args.inverters.now)

pub returns-then-is_misplaced : goal.returns-then-is_misplaced
returns-then-is_misplaced c =
    let told = sym (misplaced_told c.args.buses c.args.inverters.now c.loop-index.index c.loop-index.marks c.requires c.loop-index.invariant.2) ∙ sym c.is_misplaced.ensures ∙ c.if-is_misplaced.true in
    (c.loop-index.index, first_found c.loop-index.index (length c.args.inverters.now) (misplaced c.args.buses c.args.inverters.now) (omega arith) c.loop-index.invariant.1 told, refl)

pub loop-index-preserved : goal.loop-index-preserved
loop-index-preserved c =
    let xs = c.args.inverters.now in
    let free = sym c.is_misplaced.ensures ∙ c.if-is_misplaced.false in
    let bus = placed_entry c.args.buses (get_or xs c.loop-index.index 0) (not (get_or c.loop-index.marks (get_or xs c.loop-index.index 0 - 1) false)) free in
    let told = sym (misplaced_told c.args.buses xs c.loop-index.index c.loop-index.marks c.requires c.loop-index.invariant.2) ∙ free in (
      length-set _ _ _ ∙ c.loop-index.invariant.0,
      first_more c.loop-index.index (misplaced c.args.buses xs) c.loop-index.invariant.1 told,
      marks_more xs c.loop-index.index c.loop-index.marks (omega arith) bus.0 (omega (arith, bus.1, c.requires)) c.loop-index.invariant.0 c.loop-index.invariant.2,
    )
