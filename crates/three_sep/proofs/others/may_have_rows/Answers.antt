use Rattle.std.proofs.Common.{◌≡◌, ◌∙◌, ap, arith, inl, inr, sym}
use Rattle.cmr_base.specs.Matrix.{Matrix, height}
use Rattle.cmr_base.proofs.Parts.{height-transposed}
use Rattle.cmr_base.proofs.TransposedLines.{transposed_inside}
use Rattle.cmr_base.proofs.Booleans.{not_is}
use Rattle.three_sep.proofs.OtherLemmas.{no_row}
use Rattle.three_sep.proofs.others.may_have_rows.Goals as goal

pub returns : goal.returns
returns c = λ e.
    let m = c.args.matrix.now in
    let n = c.transposed-columns.result in
    let turned = c.transposed-columns.ensures in
    let shape = c.rows-rows_from.ensures.shape in
    let groups = c.args.groups.now in
    elim (c.may_have.ensures e) [
      | inl h ↦ inl (sym c.first_is_flat.ensures ∙ not_is c.first_is_flat.result h.0, no_row m n turned shape groups c.rows-rows_from.result c.args.p c.args.j c.rows-rows_from.ensures.rows h.1)
      | inr h ↦ inr (sym c.second_is_flat.ensures ∙ not_is c.second_is_flat.result h.0, no_row m n turned shape groups c.rows-rows_from.result c.args.j c.args.p c.rows-rows_from.ensures.rows h.1)
    ]

pub may_have-requires-clause-one : goal.may_have-requires-clause-one
may_have-requires-clause-one c = transposed_inside c.args.matrix.now c.transposed-columns.result c.transposed-columns.ensures c.args.p c.requires.column

pub may_have-requires-clause-two : goal.may_have-requires-clause-two
may_have-requires-clause-two c = transposed_inside c.args.matrix.now c.transposed-columns.result c.transposed-columns.ensures c.args.j c.requires.second_column

pub invariant_of-lines : goal.invariant_of-lines
invariant_of-lines c =
    let m = c.args.matrix.now in
    let n = c.transposed-columns.result in
    let high : height n ≡ m.width = ap (λ (k : Matrix). height k) c.transposed-columns.ensures ∙ height-transposed m in
    let wide : n.width ≡ height m = ap (λ (k : Matrix). k.width) c.transposed-columns.ensures in
    let shape = c.rows-rows_from.ensures.shape in
    let rows = c.rows-rows_from.ensures.rows in
    let names = c.requires.names in
    record {
      shape = c.rows-columns.ensures.shape;
      few_rows = omega (arith, rows, shape.height_in);
      few_columns = omega arith;
      rows_named = omega (arith, rows, high, names);
      columns_named = omega (arith, wide, names);
    }
