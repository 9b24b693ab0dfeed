use Rattle.std.proofs.Common.{◌<◌, arith, refl, Bool, true, false}
use Rattle.cmr_base.specs.MatrixSums.{connecting_rows, connecting_columns}
use Rattle.sum_ops.proofs.sums.corner_sum.Goals as goal

pub sum-requires-clause-fits : goal.sum-requires-clause-fits
sum-requires-clause-fits c =
    let corner = c.if-not-have_one_corner.ensures.0 refl in
    let last = c.args.second_flat in
    let begin = c.args.first_flat in
    record {
      rows = omega (arith, c.rows.ensures.rows);
      columns = omega (arith, c.columns.ensures.columns);
      up = omega (arith, c.connecting_rows-2.ensures, corner.two.rows);
      left = omega (arith, c.connecting_columns-2.ensures, corner.two.columns);
      first_matrix = c.rows.ensures.shape;
      upper_column = λ e. let k = some_columns last in let l = corner.one.columns in omega (arith, c.columns.ensures.columns, c.connecting_columns.ensures);
      upper_row = λ e. let k = some_rows begin in let l = corner.two.rows in omega arith;
      lower = (
        let k = some_rows last in let l = corner.one.rows in omega (arith, c.rows.ensures.rows, c.connecting_rows.ensures),
        let k = some_columns begin in let l = corner.two.columns in omega arith,
      );
    }
  where
    some_rows : (flat : Bool) → 0 < connecting_rows flat
    some_rows true = omega arith
    some_rows false = omega arith

    some_columns : (flat : Bool) → 0 < connecting_columns flat
    some_columns true = omega arith
    some_columns false = omega arith
