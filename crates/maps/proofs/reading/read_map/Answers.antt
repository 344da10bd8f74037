use Rattle.std.proofs.Common.{Ok, ap, ◌∙◌}
use Rattle.std.proofs.lemmas.Result.{err_from_is_err_and}
use Rattle.maps.proofs.Outcomes.{map_unopened, map_unread, map_sound, map_unreached, map_drawn, map_model, map_outcomes_are_unique, right_maps_are_read}
use Rattle.maps.proofs.Trips.{written_maps_are_read}
use Rattle.maps.proofs.reading.read_map.Goals as goal

pub returns-in_err-reader : goal.returns-in_err-reader
returns-in_err-reader c =
    let p = err_from_is_err_and c.from_residual.result c.from_residual.ensures.1 in
    rw (p.1, p.2) (record { reads = map_unopened c.args.file.now c.args.place.now c.in_err-reader.field-0.0 c.in_err-reader.ensures; one = map_outcomes_are_unique; right = right_maps_are_read; stands = tt; back = written_maps_are_read })

pub returns-in_err-lines : goal.returns-in_err-lines
returns-in_err-lines c =
    let p = err_from_is_err_and c.from_residual-in_err-lines.result c.from_residual-in_err-lines.ensures.1 in
    rw (p.1, p.2) (record { reads = map_unread c.args.file.now c.in_ok-reader.reader c.in_ok-reader.ensures c.args.place.now c.in_err-lines.field-0.0 c.in_err-lines.ensures; one = map_outcomes_are_unique; right = right_maps_are_read; stands = tt; back = written_maps_are_read })

pub draw_lines-requires : goal.draw_lines-requires
draw_lines-requires c =
    record { few = c.deref.ensures.1; sound = map_sound c.args.file.now c.in_ok-reader.reader c.in_ok-reader.ensures c.deref.result.now (ap Ok c.deref.ensures.0 ∙ c.in_ok-lines.ensures) }

pub returns-in_err-place : goal.returns-in_err-place
returns-in_err-place c =
    let p = err_from_is_err_and c.from_residual-in_err-place.result c.from_residual-in_err-place.ensures.1 in
    rw (p.1, p.2) (record { reads = map_unreached c.args.file.now c.in_ok-reader.reader c.in_ok-reader.ensures c.deref.result.now (ap Ok c.deref.ensures.0 ∙ c.in_ok-lines.ensures) c.args.place.now c.in_err-place.field-0.0 c.in_err-place.ensures; one = map_outcomes_are_unique; right = right_maps_are_read; stands = tt; back = written_maps_are_read })

pub returns : goal.returns
returns c =
    let file = c.args.file.now in
    let reader = c.in_ok-reader.reader in
    let opening = c.in_ok-reader.ensures in
    let lines = c.deref.result.now in
    let map = c.in_ok-place.field-0 in
    let value = ap Ok c.deref.ensures.0 ∙ c.in_ok-lines.ensures in
    record {
      reads = map_drawn file reader opening lines value map c.in_ok-place.ensures;
      one = map_outcomes_are_unique;
      right = right_maps_are_read;
      stands = map_model file reader opening lines value map c.in_ok-place.ensures.0;
      back = written_maps_are_read;
    }
