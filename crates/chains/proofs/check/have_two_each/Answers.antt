use Rattle.std.proofs.Common.{◌∙◌, sym, ap, subst, List, ℕ, arith, length}
use Rattle.cmr_base.specs.Matrix.{height}
use Rattle.chains.specs.Chains.{HasTwoEach}
use Rattle.cmr_base.proofs.Parts.{length-increasing}
use Rattle.cmr_base.proofs.Booleans.{true_is_false}
use Rattle.chains.proofs.ChainChecks.{two_each_from, rows_two, columns_two}
use Rattle.chains.proofs.check.have_two_each.Goals as goal

pub prove-unreachable-requires : goal.prove-unreachable-requires
prove-unreachable-requires c =
    omega (arith, length-increasing c.args.lines.now.rows (height c.args.matrix.now) c.as_slice-rows.ensures.increasing c.requires.rows, ap length c.as_slice-rows.ensures.items)

pub prove-unreachable-requires-2 : goal.prove-unreachable-requires-2
prove-unreachable-requires-2 c =
    omega (arith, length-increasing c.args.lines.now.columns c.args.matrix.now.width c.as_slice-columns.ensures.increasing c.requires.columns, ap length c.as_slice-columns.ensures.items)

pub returns-then-not-have_two_in_rows : goal.returns-then-not-have_two_in_rows
returns-then-not-have_two_in_rows c =
    let m = c.args.matrix.now in (
      (λ f. true_is_false (sym f)),
      (λ h.
          let here = subst (λ (rs : List ℕ). HasTwoEach m rs c.as_slice-columns.result.now) (sym c.as_slice-rows.ensures.items) (subst (HasTwoEach m c.args.lines.now.rows) (sym c.as_slice-columns.ensures.items) h) in
          absurd (true_is_false (sym (c.have_two_in_rows.ensures.1 (rows_two m c.as_slice-rows.result.now c.as_slice-columns.result.now here)) ∙ c.if-not-have_two_in_rows.true))),
    )

pub returns : goal.returns
returns c =
    let m = c.args.matrix.now in (
      (λ t. subst (λ (rs : List ℕ). HasTwoEach m rs c.args.lines.now.columns) c.as_slice-rows.ensures.items (subst (HasTwoEach m c.as_slice-rows.result.now) c.as_slice-columns.ensures.items
          (two_each_from m c.as_slice-rows.result.now c.as_slice-columns.result.now (c.have_two_in_rows.ensures.0 c.if-not-have_two_in_rows.false) (c.have_two_in_columns.ensures.0 t)))),
      (λ h.
          let here = subst (λ (rs : List ℕ). HasTwoEach m rs c.as_slice-columns.result.now) (sym c.as_slice-rows.ensures.items) (subst (HasTwoEach m c.args.lines.now.rows) (sym c.as_slice-columns.ensures.items) h) in
          c.have_two_in_columns.ensures.1 (columns_two m c.as_slice-rows.result.now c.as_slice-columns.result.now here)),
    )
