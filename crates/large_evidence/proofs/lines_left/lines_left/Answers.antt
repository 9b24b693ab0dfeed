use Rattle.std.proofs.Common.{rules, ◌+◌, Bool, true, List, drop, get_or, length, replicate}
use Rattle.std.proofs.lemmas.List.{drop_more}
use Rattle.cmr_base.specs.declared.line.Line.TheVariants.{Row}
use Rattle.cmr_base.specs.declared.line.Reason.TheVariants.{Zero}
use Rattle.cmr_base.specs.declared.line.Step.{Step}
use Rattle.sparse_matrix.specs.SparseRows.{sparse_entry}
use Rattle.large_evidence.specs.RemovedMarks.{AreRemovals}
use Rattle.large_evidence.proofs.Removals.{marks_kept, removals_more}
use Rattle.large_evidence.proofs.lines_left.lines_left.Goals as goal

pub loop-step-preserved : goal.loop-step-preserved
loop-step-preserved c =
    let matrix = c.args.rows.now in
    let steps = c.args.steps.now in
    let index = c.loop-step.step-index in
    let left = c.loop-step.left in
    let no_step : Step = record { line = Row 0; reason = Zero } in
    let step = get_or steps index no_step in
    record {
      marks = marks_kept matrix left c.remove.new.left step.line c.loop-step.invariant.marks c.remove.ensures.rows c.remove.ensures.columns;
      rest = removals_more (sparse_entry matrix) left.rows.items left.columns.items step (drop index steps) (drop (index + 1) steps)
          (λ (rows columns : List Bool). AreRemovals (sparse_entry matrix) (replicate (length matrix.runs) true) (replicate matrix.width true) steps rows columns)
          (drop_more steps index no_step c.loop-step-test.true) c.loop-step.invariant.rest c.remove.new.left.rows.items c.remove.new.left.columns.items
          (c.is_removal.ensures.0 (search rules)) c.remove.ensures.rows c.remove.ensures.columns;
    }
