use Rattle.std.proofs.Common.{rules, IsTrue, List, refl, sym, subst, arith}
use Rattle.cmr_base.proofs.Booleans.{true_is_false}
use Rattle.cmr_base.proofs.Places.{each_more}
use Rattle.sparse_matrix.specs.declared.nonzero.Nonzero.{Nonzero}
use Rattle.sparse_matrix.specs.SparseRows.{run_of, value_in}
use Rattle.interval_matrices.specs.Intervals.{IsInterval}
use Rattle.interval_matrices.proofs.IntervalLines.{interval_rows, interval_run}
use Rattle.interval_matrices.proofs.intervals.has_interval_rows.Goals as goal

pub returns-then-not-is_interval : goal.returns-then-not-is_interval
returns-then-not-is_interval c =
    let no : IsTrue c.is_interval.result → ⊥ = search rules in (
      λ yes. true_is_false (sym yes),
      λ all. absurd (no (c.is_interval.ensures.1
          (subst (λ (run : List Nonzero). IsInterval (value_in run)) (sym c.row.ensures.run) (interval_run c.args.matrix.now c.row.ensures.shape all c.loop-row.row)))),
    )

pub loop-row-preserved : goal.loop-row-preserved
loop-row-preserved c =
    let yes : IsTrue c.is_interval.result = search rules in
    each_more (λ row. IsInterval (value_in (run_of c.args.matrix.now row))) c.loop-row.row c.loop-row.invariant
    (subst (λ (run : List Nonzero). IsInterval (value_in run)) c.row.ensures.run (c.is_interval.ensures.0 yes))

pub returns : goal.returns
returns c =
    let end = c.loop-row-test.false in
    let count = c.rows-row-end.ensures.rows in (
      λ yes. interval_rows c.args.matrix.now c.rows-row-end.ensures.shape (λ row l. c.loop-row.invariant row (omega (arith, l, end, count))),
      λ all. refl,
    )
