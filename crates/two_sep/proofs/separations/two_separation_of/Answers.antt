use Rattle.std.proofs.Common.{◌+◌, ◌∙◌, ap₂, arith, ℕ}
use Rattle.std.specs.List.{range_with_len}
use Rattle.two_sep.proofs.Crossing.{own_labels_passed, none_left}
use Rattle.two_sep.proofs.separations.two_separation_of.Goals as goal

pub loop-row-init : goal.loop-row-init
loop-row-init c = record {
  size = c.in_ok-linked.ensures;
  passed = own_labels_passed c.args.matrix.now c.rows.ensures.shape c.in_ok-labels.labels.items
      (c.in_ok-labels.ensures ∙ ap₂ (λ (a b : ℕ). range_with_len 0 (a + b)) c.rows.ensures.rows c.columns.ensures.columns);
}

pub returns : goal.returns
returns c = none_left c.args.matrix.now c.loop-row.row 0 c.loop-row.labels.items c.loop-row.invariant.passed (let a = c.loop-row-test.false in let b = c.rows-row-end.ensures.rows in omega arith)
