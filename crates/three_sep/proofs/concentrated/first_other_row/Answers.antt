use Rattle.std.proofs.Common.{[], ◌∷◌, ◌++◌, ◌∙◌, sym, arith}
use Rattle.cmr_base.specs.declared.separation.Form.TheVariants.{Concentrated}
use Rattle.cmr_base.specs.Matrix.{entry, height}
use Rattle.cmr_base.proofs.Booleans.{nonzero_is, not_both}
use Rattle.three_sep.specs.Searches.{corner_prefix}
use Rattle.three_sep.proofs.SearchLemmas.{level_ends, none_below_more, second_below}
use Rattle.cmr_base.proofs.TransposedLines.{transposed_inside, transposed_row, transposed_support}
use Rattle.three_sep.proofs.ConcentratedLemmas.{no_row, none_over_zero_rows, none_to_second}
use Rattle.three_sep.proofs.concentrated.first_other_row.Goals as goal

pub next_nonzero-requires-clause-row : goal.next_nonzero-requires-clause-row
next_nonzero-requires-clause-row c = transposed_inside c.args.matrix.now c.by_columns.result.now c.by_columns.ensures.matrix c.args.corners.now.two.column c.requires.inside.column_two

pub loop-o-init : goal.loop-o-init
loop-o-init c = (none_to_second c.args.matrix.now c.args.corners.now c.args.q, omega arith, let l = c.requires.inside.row_two in let h = c.rows-rows.ensures.shape.height_in in omega arith)

pub has_sign-requires-clause-row : goal.has_sign-requires-clause-row
has_sign-requires-clause-row c = transposed_row c.args.matrix.now c.by_columns.result.now c.by_columns.ensures.matrix c.in-Some.o c.in-Some.ensures.first.1

pub returns-then-has_sign : goal.returns-then-has_sign
returns-then-has_sign c =
    let m = c.args.matrix.now in
    let n = c.by_columns.result.now in
    let columns_are = c.by_columns.ensures.matrix in
    let is = c.by_columns.ensures.shape in
    let corners = c.args.corners.now in
    let o = c.in-Some.o in
    record {
      inside = transposed_row m n columns_are o c.in-Some.ensures.first.1;
      row = record {
        increases = let f = c.in-Some.ensures.first.0 in let i = c.loop-o.invariant.1 in omega arith;
        nonzero = nonzero_is (entry m o corners.two.column) (sym (transposed_support m n columns_are o corners.two.column is) ∙ c.in-Some.ensures.first.2);
        determinant = c.has_sign.ensures.0 c.if-has_sign.true;
      };
      rows = none_over_zero_rows m corners c.args.q c.loop-o.from o c.loop-o.invariant.0 (λ row a l. sym (transposed_support m n columns_are row corners.two.column is) ∙ c.in-Some.ensures.first.3 row a l);
    }

pub loop-o-preserved : goal.loop-o-preserved
loop-o-preserved c =
    let m = c.args.matrix.now in
    let n = c.by_columns.result.now in
    let columns_are = c.by_columns.ensures.matrix in
    let corners = c.args.corners.now in
    let q = c.args.q in
    let o = c.in-Some.o in (
      none_below_more m (corner_prefix Concentrated corners ++ q ∷ []) o
          (none_over_zero_rows m corners q c.loop-o.from o c.loop-o.invariant.0 (λ row a l. sym (transposed_support m n columns_are row corners.two.column c.by_columns.ensures.shape) ∙ c.in-Some.ensures.first.3 row a l))
          (no_row m corners q o (λ other. not_both c.has_sign.result (c.has_sign.ensures.1 other.determinant) c.if-has_sign.false)),
      let f = c.in-Some.ensures.first.0 in let i = c.loop-o.invariant.1 in omega arith,
      let l = c.in-Some.ensures.small in omega arith,
    )

pub returns : goal.returns
returns c =
    let m = c.args.matrix.now in
    let n = c.by_columns.result.now in
    let corners = c.args.corners.now in
    level_ends m (corner_prefix Concentrated corners ++ c.args.q ∷ []) (height m) (omega arith)
    (none_over_zero_rows m corners c.args.q c.loop-o.from (height m) c.loop-o.invariant.0
    (λ row a l. sym (transposed_support m n c.by_columns.ensures.matrix row corners.two.column c.by_columns.ensures.shape) ∙ c.in_default.ensures.first row a))
    (second_below m Concentrated corners c.args.q)
