use Rattle.std.proofs.Common.{◌<◌, ◌∙◌, ℕ, length, ap, sym, subst}
use Rattle.std.specs.List.{slice_index}
use Rattle.cmr_base.specs.Matrix.{Matrix, height, transposed, IsMatrix}
use Rattle.cmr_base.specs.LineSets.{submatrix}
use Rattle.cmr_base.proofs.Parts.{height-transposed}
use Rattle.std.proofs.lemmas.Result.{IfOk-weaker}
use Rattle.cmr_base.proofs.TransposedParts.{transposed-submatrix}
use Rattle.cmr_base.proofs.WholeMatrices.{is_ternary}
use Rattle.cmr_base.proofs.rows_and_columns.RowsAndColumns.transposed_part.Goals as goal

pub part_on-requires-clause-rows : goal.part_on-requires-clause-rows
part_on-requires-clause-rows c =
    let columns = c.args.lines.now.columns in
    subst (λ (n : ℕ). (k : ℕ) → k < length columns → slice_index columns k < n) (sym (ap height (c.self.invariant.columns_are ∙ ap transposed c.self.view_is) ∙ height-transposed c.args.self.now)) c.requires.columns

pub returns : goal.returns
returns c =
    let m = c.args.self.now in
    let lines = c.args.lines.now in
    let columns_are = c.self.invariant.columns_are ∙ ap transposed c.self.view_is in
    IfOk-weaker c.part_on.result _ _ (λ part e. e ∙ ap (λ (t : Matrix). submatrix t lines.columns lines.rows) columns_are ∙ sym (transposed-submatrix m lines.rows lines.columns (is_ternary m (subst IsMatrix c.self.view_is c.self.invariant.is_matrix)))) c.part_on.ensures
