use Rattle.std.proofs.Common.{◌+◌, subst, sym, refl, arith}
use Rattle.line_growth.specs.declared.growing_set.GrowingSet.{GrowingSet}
use Rattle.line_growth.specs.GrowingSets.{HasSweptColumns}
use Rattle.line_growth.specs.Rules.{upper_of}
use Rattle.line_growth.proofs.Sweeps.{column_left_out, column_swept_in, columns_passed}
use Rattle.line_growth.proofs.growing_set.GrowingSet.sweep_columns.Goals as goal
use Rattle.line_growth.proofs.growing_set.GrowingSet.sweep_columns.Goals.{then-pulls_column+in_ok-add, else-pulls_column}

pub loop-column-preserved : goal.loop-column-preserved
loop-column-preserved c =
    let m = c.args.matrix.now in
    let upper = upper_of m c.args.rule in
    let set = c.loop-column.self in
    let column = c.in-Some.column in
    let so = columns_passed m upper c.loop-column.from c.args.self.now set c.loop-column.invariant.swept column c.in-Some.ensures.between in
    record {
      from_in = let l = c.in-Some.ensures.line_in in let s = c.loop-column.invariant.swept.grown.size in omega arith;
      swept = elim c.if-pulls_column.branch [
        | then-pulls_column+in_ok-add w ↦
            subst (λ (after : GrowingSet). HasSweptColumns m upper (column + 1) c.args.self.now after) (sym w.self-is)
            (column_swept_in m upper column c.args.self.now set so _ w.in_ok-add.ensures.added refl (c.pulls_column.ensures.yes w.if-pulls_column.true))
        | else-pulls_column w ↦
            subst (λ (after : GrowingSet). HasSweptColumns m upper (column + 1) c.args.self.now after) (sym w.self-is)
            (column_left_out m upper column c.args.self.now set so (c.pulls_column.ensures.no w.if-pulls_column.false))
      ];
    }
