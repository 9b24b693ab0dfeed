use Rattle.std.proofs.Common.{refl, ap, ℕ, get_or, ◌+◌}
use Rattle.cmr_base.specs.Matrix.{height}
use Rattle.chains.proofs.ChainLabels.{free_by_labels, free_labels, differ_test}
use Rattle.chains.proofs.check.is_free.Goals as goal

pub returns-then-is_open : goal.returns-then-is_open
returns-then-is_open c =
    let a = c.args.matrix.now in
    let s = c.args.signs.now in
    let labels = c.args.labels.now in
    let inside = c.is_open.ensures.inside c.if-is_open.true in
    let here = c.is_open.ensures.open.0 c.if-is_open.true in
    let place = ap (λ (n : ℕ). get_or labels (n + c.args.column) 0) c.rows.ensures.rows in
    let test = differ_test (get_or labels c.args.row 0) (get_or labels (c.rows.result + c.args.column) 0) (get_or labels (height a + c.args.column) 0) place in (
      (λ t. (free_by_labels a s labels c.args.row c.args.column c.requires.labels inside.0 inside.1 here (test.0 t), refl)),
      (λ w. test.1 (free_labels a s labels c.args.row c.args.column c.requires.labels inside.0 inside.1 w.0)),
    )
