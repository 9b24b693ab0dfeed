use Rattle.std.proofs.Common.{◌∙◌, sym}
use Rattle.cmr_base.proofs.TransposedLines.{transposed_inside, transposed_row, transposed_support}
use Rattle.three_sep.proofs.independent.new_row.Goals as goal

pub next_nonzero-requires-clause-row : goal.next_nonzero-requires-clause-row
next_nonzero-requires-clause-row c = transposed_inside c.args.matrix.now c.by_columns.result.now c.by_columns.ensures.matrix c.args.j c.requires.column

pub columns_of-requires : goal.columns_of-requires
columns_of-requires c = rw c.by_rows.ensures.matrix (transposed_row c.args.matrix.now c.by_columns.result.now c.by_columns.ensures.matrix c.in-Some.row c.in-Some.ensures.first.1)

pub returns-then-meets_words-clause-new : goal.returns-then-meets_words-clause-new
returns-then-meets_words-clause-new c =
    let m = c.args.matrix.now in
    let n = c.by_columns.result.now in
    let columns_are = c.by_columns.ensures.matrix in
    let row = c.in-Some.row in
    let (column, among, here) = c.meets_words.ensures.0 c.if-meets_words.true in
    record {
      row_in = transposed_row m n columns_are row c.in-Some.ensures.first.1;
      nonzero = sym (transposed_support m n columns_are row c.args.j c.by_columns.ensures.shape) ∙ c.in-Some.ensures.first.2;
      column = column;
      among = among;
      here = sym ((rw c.by_rows.ensures.matrix at c.columns_of.ensures.columns) column) ∙ here;
    }
