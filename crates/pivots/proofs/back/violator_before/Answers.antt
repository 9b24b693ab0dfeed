use Rattle.std.proofs.Common.{◌∙◌, ℕ, ℤ, List, ap, sym, subst, length, arith, rules, SFits, w32}
use Rattle.std.specs.Prelude.{◌↔◌, IsTrue}
use Rattle.std.proofs.lemmas.Int.{to_z-of_z}
use Rattle.cmr_base.specs.Matrix.{entry, height}
use Rattle.cmr_base.specs.Sums.{IsOdd, sum_over}
use Rattle.cmr_base.proofs.Parts.{length-increasing}
use Rattle.ghouila.specs.PivotLaws.{AreLinesBefore}
use Rattle.ghouila.proofs.PivotLaws.{pivots_take_violators_back}
use Rattle.pivots.specs.ChosenLines.{with_or_without}
use Rattle.pivots.proofs.LinesBefore.{lines_before, row_set, column_set, pivot_place}
use Rattle.pivots.proofs.back.violator_before.Goals as goal

pub prove-unreachable-requires : goal.prove-unreachable-requires
prove-unreachable-requires c =
    omega (arith, length-increasing c.args.lines.now.rows (height c.args.matrix.now) c.as_slice-rows.ensures.increasing c.requires.rows, ap length c.as_slice-rows.ensures.items)

pub prove-unreachable-requires-2 : goal.prove-unreachable-requires-2
prove-unreachable-requires-2 c =
    omega (arith, length-increasing c.args.lines.now.columns c.args.matrix.now.width c.as_slice-columns.ensures.increasing c.requires.columns, ap length c.as_slice-columns.ensures.items)

lines_are : (c : goal.In_ok-with_or_without-2)
    → AreLinesBefore c.args.matrix.now c.args.row c.args.column c.args.lines.now.rows c.args.lines.now.columns c.in_ok-with_or_without.field-0 c.in_ok-with_or_without-2.field-0
lines_are c =
    let m = c.args.matrix.now in
    let fits : SFits w32 c.column_sum.result = search rules in
    let fits' : SFits w32 c.row_sum.result = search rules in
    let sum = to_z-of_z w32 c.column_sum.result fits ∙ c.column_sum.ensures ∙ ap (λ (rows : List ℕ). sum_over rows (λ i. entry m i c.args.column)) c.as_slice-rows.ensures.items in
    let sum' = to_z-of_z w32 c.row_sum.result fits' ∙ c.row_sum.ensures.sum ∙ ap (λ (columns : List ℕ). sum_over columns (entry m c.args.row)) c.as_slice-columns.ensures.items in
    let odd = subst (λ (z : ℤ). IsTrue c.is_odd-has_row.result ↔ IsOdd z) sum c.is_odd-has_row.ensures in
    let odd' = subst (λ (z : ℤ). IsTrue c.is_odd-has_column.result ↔ IsOdd z) sum' c.is_odd-has_column.ensures in
    let rows = c.in_ok-with_or_without.ensures.lines in
    let columns = c.in_ok-with_or_without-2.ensures.lines in
    subst (λ (made : List ℕ). AreLinesBefore m c.args.row c.args.column c.args.lines.now.rows c.args.lines.now.columns made c.in_ok-with_or_without-2.field-0) (sym rows)
    (subst (AreLinesBefore m c.args.row c.args.column c.args.lines.now.rows c.args.lines.now.columns (with_or_without c.args.lines.now.rows c.args.row c.is_odd-has_row.result)) (sym columns)
    (lines_before m c.args.row c.args.column c.args.lines.now.rows c.args.lines.now.columns c.is_odd-has_row.result c.is_odd-has_column.result odd odd'))

pub returns-clause-lines : goal.returns-clause-lines
returns-clause-lines c = lines_are c

pub returns-clause-row_set : goal.returns-clause-row_set
returns-clause-row_set c = row_set c.args.matrix.now c.args.row c.args.lines.now.rows c.is_odd-has_row.result c.in_ok-with_or_without.field-0 c.in_ok-with_or_without.ensures.lines c.in_ok-with_or_without.ensures.increasing c.requires.rows c.requires.row

pub returns-clause-column_set : goal.returns-clause-column_set
returns-clause-column_set c =
    column_set c.args.matrix.now c.args.column c.args.lines.now.columns c.is_odd-has_column.result c.in_ok-with_or_without-2.field-0 c.in_ok-with_or_without-2.ensures.lines c.in_ok-with_or_without-2.ensures.increasing c.requires.columns c.requires.column

pub returns-clause-violator : goal.returns-clause-violator
returns-clause-violator c = λ v.
    let m = c.args.matrix.now in
    pivots_take_violators_back m c.args.row c.args.column c.args.lines.now.rows c.args.lines.now.columns c.in_ok-with_or_without.field-0 c.in_ok-with_or_without-2.field-0
    (pivot_place m c.args.row c.args.column c.rows.ensures.shape c.requires.row c.requires.column c.requires.nonzero)
    (record { increasing = c.as_slice-rows.ensures.increasing; in_range = c.requires.rows }) (record { increasing = c.as_slice-columns.ensures.increasing; in_range = c.requires.columns })
    (row_set m c.args.row c.args.lines.now.rows c.is_odd-has_row.result c.in_ok-with_or_without.field-0 c.in_ok-with_or_without.ensures.lines c.in_ok-with_or_without.ensures.increasing c.requires.rows c.requires.row)
    (column_set m c.args.column c.args.lines.now.columns c.is_odd-has_column.result c.in_ok-with_or_without-2.field-0 c.in_ok-with_or_without-2.ensures.lines c.in_ok-with_or_without-2.ensures.increasing c.requires.columns c.requires.column)
    (lines_are c) v
