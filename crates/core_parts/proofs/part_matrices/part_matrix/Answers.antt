use Rattle.std.proofs.Common.{◌<◌, ◌∙◌, ℕ, List, length, get_or, ap, sym, subst, arith}
use Rattle.std.proofs.lemmas.List.Elements.{Contains-get_or}
use Rattle.sparse_matrix.specs.SparseRows.{run_of}
use Rattle.cmr_base.proofs.Parts.{length-increasing}
use Rattle.core_parts.specs.PartRuns.{AreAtPlaces}
use Rattle.core_parts.proofs.PartMatrices.{copied_is, run_at_places}
use Rattle.core_parts.proofs.part_matrices.part_matrix.Goals as goal

pub overflow_cast-rows : goal.overflow_cast-rows
overflow_cast-rows c =
    let short = length-increasing c.args.lines.now.rows _ c.as_slice-rows.ensures.increasing c.requires.rows in
    let size = ap length c.as_slice-rows.ensures.items in
    let most = c.rows-height.ensures.shape.rows_in in
    omega (arith, short, size, most)

pub overflow_cast-columns : goal.overflow_cast-columns
overflow_cast-columns c =
    let short = length-increasing c.args.lines.now.columns _ c.as_slice-columns.ensures.increasing c.requires.columns in
    let size = ap length c.as_slice-columns.ensures.items in
    let most = c.rows-height.ensures.shape.columns_in in
    omega (arith, short, size, most)

pub zero-requires-clause-rows : goal.zero-requires-clause-rows
zero-requires-clause-rows c =
    let short = length-increasing c.args.lines.now.rows _ c.as_slice-rows.ensures.increasing c.requires.rows in
    let size = ap length c.as_slice-rows.ensures.items in
    let most = c.rows-height.ensures.shape.rows_in in
    omega (arith, short, size, most)

pub zero-requires-clause-columns : goal.zero-requires-clause-columns
zero-requires-clause-columns c =
    let short = length-increasing c.args.lines.now.columns _ c.as_slice-columns.ensures.increasing c.requires.columns in
    let size = ap length c.as_slice-columns.ensures.items in
    let most = c.rows-height.ensures.shape.columns_in in
    omega (arith, short, size, most)

pub copy_run-requires-clause-placed : goal.copy_run-requires-clause-placed
copy_run-requires-clause-placed c =
    let matrix = c.args.matrix.now in
    let lines = c.args.lines.now in
    let place = c.loop-place.place in
    let rows_are = c.as_slice-rows.ensures.items in
    let inside : place < length lines.rows = (let test = c.loop-place-test.true in let size = ap length rows_are in omega (arith, test, size)) in
    let row = get_or lines.rows place 0 in
    let run_is = c.row-run.ensures.run ∙ ap (λ (rows : List ℕ). run_of matrix (get_or rows place 0)) rows_are in
    subst (λ (columns : List ℕ). AreAtPlaces columns c.args.marks.now c.args.places.now c.row-run.result.now) (sym c.as_slice-columns.ensures.items)
    (subst (AreAtPlaces lines.columns c.args.marks.now c.args.places.now) (sym run_is)
    (run_at_places matrix lines c.args.marks.now c.args.places.now c.rows-height.ensures.shape c.requires.placed row (Contains-get_or lines.rows place 0 inside) (c.requires.rows place inside)))

pub returns : goal.returns
returns c =
    let rows_are = c.as_slice-rows.ensures.items in
    copied_is c.args.matrix.now c.args.lines.now c.args.marks.now c.args.places.now c.rows-height.ensures.shape c.requires.placed c.loop-place.part c.loop-place.place c.rows-rows.ensures.shape
    (let test = c.loop-place-test.false in let size = ap length rows_are in omega (arith, test, size)) c.as_slice-columns.ensures.increasing c.requires.rows c.loop-place.invariant
