use Rattle.std.proofs.Common.{inl, inr, arith}
use Rattle.std.proofs.lemmas.Bool.{cases_lt}
use Rattle.camion_sign.specs.Walks.{place_in}
use Rattle.camion_sign.proofs.LineLists.{cycle_lines_are}
use Rattle.camion_sign.proofs.row_places.RowPlaces.cycle_from.Goals as goal

pub returns-clause-cycle : goal.returns-clause-cycle
returns-clause-cycle c =
    cycle_lines_are c.args.matrix.now c.args.start.row c.args.start.column c.args.last c.in_ok-lines.lines.items c.deref.result.now c.deref-2.result.now c.in_ok-rows_of_cycle.field-0 c.in_ok-columns_of_cycle.field-0
    c.rows.ensures.shape c.in_ok-lines.ensures c.deref.ensures.value c.deref-2.ensures.value c.rows.ensures.rows c.columns.ensures.columns c.in_ok-rows_of_cycle.ensures c.in_ok-columns_of_cycle.ensures

pub path_to-requires-clause-reached : goal.path_to-requires-clause-reached
path_to-requires-clause-reached c =
    let w = c.in_ok-walk_if_needed.ensures.walked.1 in
    let place = c.requires.place.1 in
    elim (cases_lt (place_in c.walk_if_needed.new.self.walk.places.items c.args.last) 4294967295) [
      | inl met ↦ met
      | inr over ↦ absurd (w.none c.args.last c.requires.place.0 place.order place.last (let top = w.queue.topped c.args.last in omega arith) place.is_path)
    ]
