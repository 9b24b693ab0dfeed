use Rattle.std.proofs.Common.{◌<◌, subst, sym, arith}
use Rattle.cmr_base.specs.Matrix.{Matrix, height}
use Rattle.cmr_base.proofs.Parts.{height-transposed}
use Rattle.three_sep.proofs.TiedLemmas.{none_of_both}
use Rattle.three_sep.proofs.tied_lines.tied_line.Goals as goal

pub tied_column-requires-2-clause-own : goal.tied_column-requires-2-clause-own
tied_column-requires-2-clause-own c =
    subst (λ (n : Matrix). c.args.own.column < height n) (sym c.by_columns.ensures.matrix) (let heights = height-transposed c.args.matrix.now in omega (arith, heights, c.requires.own_column))

pub tied_column-requires-2-clause-across : goal.tied_column-requires-2-clause-across
tied_column-requires-2-clause-across c =
    subst (λ (n : Matrix). c.args.across.column < height n) (sym c.by_columns.ensures.matrix) (let heights = height-transposed c.args.matrix.now in omega (arith, heights, c.requires.across_column))

pub returns : goal.returns
returns c =
    none_of_both c.args.matrix.now c.args.own c.args.across c.by_rows.ensures.shape
    (rw c.by_rows.ensures.matrix at c.in_default.ensures) (rw c.by_columns.ensures.matrix at c.in_default-tied_column.ensures)
