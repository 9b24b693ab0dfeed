use Rattle.std.proofs.Common.{◌∙◌, ap, sym, subst}
use Rattle.cmr_base.specs.Matrix.{IsMatrix, transposed}
use Rattle.cmr_base.proofs.Parts.{is_matrix-transposed}
use Rattle.cmr_base.proofs.TransposedParts.{transposed-twice}
use Rattle.cmr_base.proofs.rows_and_columns.RowsAndColumns.transposed.Goals as goal

pub invariant_of-result : goal.invariant_of-result
invariant_of-result c =
    let rows = c.self.inside.rows.now in
    let is = c.self.invariant.is_matrix in
    let columns = c.self.invariant.columns_are in
    record {
      is_matrix = subst IsMatrix (sym columns) (is_matrix-transposed rows is);
      columns_are = sym (ap transposed columns ∙ transposed-twice rows is);
    }

pub returns : goal.returns
returns c = c.self.invariant.columns_are ∙ ap transposed c.self.view_is
