use Rattle.std.proofs.Common.{◌+◌, subst, sym, refl, arith}
use Rattle.line_growth.specs.declared.growing_set.GrowingSet.{GrowingSet}
use Rattle.line_growth.specs.GrowingSets.{HasSweptRows}
use Rattle.line_growth.specs.Rules.{lower_of}
use Rattle.line_growth.proofs.Sweeps.{row_left_out, row_swept_in, rows_passed}
use Rattle.line_growth.proofs.growing_set.GrowingSet.sweep_rows.Goals as goal
use Rattle.line_growth.proofs.growing_set.GrowingSet.sweep_rows.Goals.{then-pulls_row+in_ok-add, else-pulls_row}

pub loop-row-preserved : goal.loop-row-preserved
loop-row-preserved c =
    let m = c.args.matrix.now in
    let lower = lower_of m c.args.rule in
    let set = c.loop-row.self in
    let row = c.in-Some.row in
    let so = rows_passed m lower c.loop-row.from c.args.self.now set c.loop-row.invariant.swept row c.in-Some.ensures.between in
    record {
      from_in = let l = c.in-Some.ensures.line_in in let s = c.loop-row.invariant.swept.grown.size in omega arith;
      swept = elim c.if-pulls_row.branch [
        | then-pulls_row+in_ok-add w ↦
            subst (λ (after : GrowingSet). HasSweptRows m lower (row + 1) c.args.self.now after) (sym w.self-is)
            (row_swept_in m lower row c.args.self.now set so _ w.in_ok-add.ensures.added refl (c.pulls_row.ensures.yes w.if-pulls_row.true))
        | else-pulls_row w ↦
            subst (λ (after : GrowingSet). HasSweptRows m lower (row + 1) c.args.self.now after) (sym w.self-is)
            (row_left_out m lower row c.args.self.now set so (c.pulls_row.ensures.no w.if-pulls_row.false))
      ];
    }
