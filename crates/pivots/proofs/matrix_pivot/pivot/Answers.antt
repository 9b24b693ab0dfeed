use Rattle.std.proofs.Common.{◌∙◌, ℕ, List, get_or, ap, sym, subst}
use Rattle.std.specs.List.{AllByRecursion}
use Rattle.cmr_base.specs.LineSets.{AllBelow, IsRowSet, first_lines, without}
use Rattle.cmr_base.specs.Matrix.{Matrix, height, entry}
use Rattle.cmr_base.specs.Signing.{IsSign}
use Rattle.cmr_base.specs.PlacedPivots.{reduced}
use Rattle.ghouila.specs.Pivot.{IsOutside, IsTernaryRow, KeepsRowsElsewhere, PivotsRows, IsFirstTwoEntry}
use Rattle.pivots.proofs.LinesBefore.{pivot_place}
use Rattle.pivots.proofs.MadePivots.{others_below, others_increase, others_outside, made_pivot, first_two}
use Rattle.pivots.proofs.matrix_pivot.pivot.Goals as goal

pub first_square_violator-requires-clause-rows : goal.first_square_violator-requires-clause-rows
first_square_violator-requires-clause-rows c = subst (AllBelow (height c.args.matrix.now)) (sym (c.as_slice-left.ensures.items ∙ c.in_ok-others.ensures.others)) (others_below (height c.args.matrix.now) c.args.row)

pub first_square_violator-requires-clause-nonzero : goal.first_square_violator-requires-clause-nonzero
first_square_violator-requires-clause-nonzero c = (pivot_place c.args.matrix.now c.args.row c.args.column c.other_rows.ensures.shape c.requires.row c.requires.column c.requires.nonzero).nonzero

pub returns-in-Some : goal.returns-in-Some
returns-in-Some c =
    let m = c.args.matrix.now in
    let left = c.as_slice-left.ensures.items ∙ c.in_ok-others.ensures.others in
    let first = c.in-Some.ensures.first in
    first_two m c.args.row c.args.column (pivot_place m c.args.row c.args.column c.other_rows.ensures.shape c.requires.row c.requires.column c.requires.nonzero) c.other_rows.ensures.shape
    c.in-Some.two.row c.in-Some.two.column first.0 c.in_ok-two_lines.field-0 c.in_ok-two_lines-2.field-0 c.in-Some.ensures.some.1
    (first.1 ∙ ap (λ (rows : List ℕ). get_or rows first.0 0) left)
    (subst (λ (rows : List ℕ). IsFirstTwoEntry m rows c.args.row c.args.column first.0 c.in-Some.two.column) left first.2)
    c.in_ok-two_lines.ensures c.in_ok-two_lines-2.ensures

pub make_pivot-requires-clause-rows : goal.make_pivot-requires-clause-rows
make_pivot-requires-clause-rows c =
    let m = c.args.matrix.now in
    subst (λ (work : Matrix). IsRowSet work c.as_slice-left.result.now) (sym c.in_ok-work.ensures.copy) (subst (IsRowSet m) (sym (c.as_slice-left.ensures.items ∙ c.in_ok-others.ensures.others))
    (record { increasing = others_increase (height m) c.args.row; in_range = others_below (height m) c.args.row }))

pub make_pivot-requires-clause-apart : goal.make_pivot-requires-clause-apart
make_pivot-requires-clause-apart c = subst (IsOutside c.args.row) (sym (c.as_slice-left.ensures.items ∙ c.in_ok-others.ensures.others)) (others_outside (height c.args.matrix.now) c.args.row)

pub make_pivot-requires-clause-nonzero : goal.make_pivot-requires-clause-nonzero
make_pivot-requires-clause-nonzero c = subst (λ (work : Matrix). IsSign (entry work c.args.row c.args.column)) (sym c.in_ok-work.ensures.copy)
    (pivot_place c.args.matrix.now c.args.row c.args.column c.other_rows.ensures.shape c.requires.row c.requires.column c.requires.nonzero).nonzero

pub make_pivot-requires-clause-small : goal.make_pivot-requires-clause-small
make_pivot-requires-clause-small c =
    subst (λ (m : Matrix). AllByRecursion (λ other. IsTernaryRow m.width (reduced (entry m) c.args.row c.args.column other)) c.as_slice-left.result.now) (sym c.in_ok-work.ensures.copy) c.in_default.ensures.none

pub returns : goal.returns
returns c =
    let m = c.args.matrix.now in
    let left = c.as_slice-left.ensures.items ∙ c.in_ok-others.ensures.others in
    let work = c.in_ok-work.ensures.copy in
    made_pivot m c.args.row c.args.column (pivot_place m c.args.row c.args.column c.other_rows.ensures.shape c.requires.row c.requires.column c.requires.nonzero) c.make_pivot.new.work c.multiply_row.new.work
    (subst (λ (before : Matrix). KeepsRowsElsewhere before c.make_pivot.new.work (without (first_lines (height c.args.matrix.now)) c.args.row)) work (subst (KeepsRowsElsewhere c.in_ok-work.work c.make_pivot.new.work) left c.make_pivot.ensures.others))
    (subst (λ (before : Matrix). PivotsRows before c.make_pivot.new.work c.args.row c.args.column (without (first_lines (height c.args.matrix.now)) c.args.row)) work (subst (PivotsRows c.in_ok-work.work c.make_pivot.new.work c.args.row c.args.column) left c.make_pivot.ensures.pivoted))
    c.multiply_row.ensures.others c.multiply_row.ensures.row c.multiply_row.ensures.shape
