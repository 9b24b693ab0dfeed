use Rattle.std.proofs.Common.{◌≡◌, ◌≤◌, ◌∙◌, ap, ap₂, subst, arith}
use Rattle.cmr_base.specs.Matrix.{Matrix, height}
use Rattle.cmr_base.specs.LineSets.{first_lines, submatrix}
use Rattle.network_orient.specs.FirstRows.{HasNoFaultBefore}
use Rattle.camion_sign.proofs.PrefixFaults.{first_below, passed_in}
use Rattle.camion_sign.proofs.network_rows.prefix_without_fault.Goals as goal

pub part-requires-clause-rows : goal.part-requires-clause-rows
part-requires-clause-rows c =
    first_below c.args.rows (height c.by_rows.result.now) c.in_ok-lines.lines.rows c.in_ok-lines.ensures.rows (let e = ap height c.by_rows.ensures.matrix in let l = c.requires in omega arith)

pub part-requires-clause-columns : goal.part-requires-clause-columns
part-requires-clause-columns c =
    first_below c.columns.result c.by_rows.result.now.width c.in_ok-lines.lines.columns c.in_ok-lines.ensures.columns (let e = ap (λ (m : Matrix). m.width) c.by_rows.ensures.matrix in let f = c.columns.ensures.columns in omega arith)

pub transposed_part-requires-clause-rows : goal.transposed_part-requires-clause-rows
transposed_part-requires-clause-rows c = first_below c.args.rows (height c.args.matrix.now) c.in_ok-lines.lines.rows c.in_ok-lines.ensures.rows c.requires

pub transposed_part-requires-clause-columns : goal.transposed_part-requires-clause-columns
transposed_part-requires-clause-columns c =
    first_below c.columns.result c.args.matrix.now.width c.in_ok-lines.lines.columns c.in_ok-lines.ensures.columns (let f = c.columns.ensures.columns in omega arith)

pub returns-clause-passed : goal.returns-clause-passed
returns-clause-passed c =
    let m = c.args.matrix.now in
    let columns : c.in_ok-lines.lines.columns ≡ first_lines m.width = c.in_ok-lines.ensures.columns ∙ ap first_lines c.columns.ensures.columns in
    let prefix : c.of.result ≡ submatrix m (first_lines c.args.rows) (first_lines m.width) =
    c.of.ensures ∙ c.in_ok-prefix.ensures ∙ ap (λ (x : Matrix). submatrix x c.in_ok-lines.lines.rows c.in_ok-lines.lines.columns) c.by_rows.ensures.matrix ∙ ap₂ (submatrix m) c.in_ok-lines.ensures.rows columns in
    let less : c.min.result ≤ c.in_ok-passed.passed = omega (arith, c.min.ensures) in
    let within : c.min.result ≤ c.args.rows = omega (arith, c.min.ensures) in
    passed_in m c.columns.ensures.shape c.args.rows c.requires c.in_ok-passed.passed c.min.result (subst (λ (x : Matrix). HasNoFaultBefore x c.in_ok-passed.passed) prefix c.in_ok-passed.ensures) less within
