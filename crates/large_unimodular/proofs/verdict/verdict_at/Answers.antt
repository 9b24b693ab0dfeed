use Rattle.std.proofs.Common.{◌<◌, ℕ, length, get_or, subst}
use Rattle.sparse_matrix.specs.SparseRows.{matrix_of_runs}
use Rattle.sparse_matrix.proofs.Matrices.{matrix_is_ternary}
use Rattle.core_parts.proofs.MarkedRuns.{height_of_runs}
use Rattle.large_unimodular.proofs.LargeMeaning.{contained_lines}
use Rattle.large_unimodular.proofs.verdict.verdict_at.Goals as goal

pub part_matrix-requires-clause-rows : goal.part_matrix-requires-clause-rows
part_matrix-requires-clause-rows g c =
    let matrix = c.args.matrix.now in
    let lines = c.args.lines.now in
    let are = contained_lines (matrix_of_runs matrix) c.args.parts.now.sets.items lines (matrix_is_ternary matrix c.rows-height.ensures.shape) c.requires.divided.parts c.requires.lines in
    subst (λ (n : ℕ). (k : ℕ) → k < length lines.rows → get_or lines.rows k 0 < n) (height_of_runs matrix) are.rows.in_range

pub part_matrix-requires-clause-columns : goal.part_matrix-requires-clause-columns
part_matrix-requires-clause-columns g c =
    let matrix = c.args.matrix.now in
    (contained_lines (matrix_of_runs matrix) c.args.parts.now.sets.items c.args.lines.now (matrix_is_ternary matrix c.rows-height.ensures.shape) c.requires.divided.parts
    c.requires.lines).columns.in_range
