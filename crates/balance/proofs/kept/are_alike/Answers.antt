use Rattle.std.proofs.Common.{◌∙◌, ap₂, sym, subst, ℤ, ◌+ℤ◌}
use Rattle.cmr_base.specs.Sums.{IsTwoModFour}
use Rattle.balance.proofs.KeptSteps.{column_low, column_high, pair_fits, pair_sum, not_true, from_not}
use Rattle.balance.proofs.kept.are_alike.Goals as goal

pub overflow_add-sum : goal.overflow_add-sum
overflow_add-sum c =
    let m = c.args.matrix.now in
    let rows = c.args.rows.now in
    pair_fits c.column_sum.result c.column_sum-2.result
    (column_low m rows c.args.first c.column_sum.result c.requires.matrix c.requires.few c.column_sum.ensures) (column_high m rows c.args.first c.column_sum.result c.requires.matrix c.requires.few c.column_sum.ensures)
    (column_low m rows c.args.second c.column_sum-2.result c.requires.matrix c.requires.few c.column_sum-2.ensures) (column_high m rows c.args.second c.column_sum-2.result c.requires.matrix c.requires.few c.column_sum-2.ensures)

pub returns : goal.returns
returns c =
    let m = c.args.matrix.now in
    let rows = c.args.rows.now in
    let sum = pair_sum c.column_sum.result c.column_sum-2.result
    (column_low m rows c.args.first c.column_sum.result c.requires.matrix c.requires.few c.column_sum.ensures) (column_high m rows c.args.first c.column_sum.result c.requires.matrix c.requires.few c.column_sum.ensures)
    (column_low m rows c.args.second c.column_sum-2.result c.requires.matrix c.requires.few c.column_sum-2.ensures) (column_high m rows c.args.second c.column_sum-2.result c.requires.matrix c.requires.few c.column_sum-2.ensures)
    ∙ ap₂ (λ (x y : ℤ). x +ℤ y) c.column_sum.ensures c.column_sum-2.ensures in (
      λ yes. record {
        same_rows = c.join_same_rows.ensures.0 c.if-not-join_same_rows.false;
        no_fault = λ two. not_true c.is_two_mod_four.result yes (c.is_two_mod_four.ensures.1 (subst IsTwoModFour (sym sum) two));
      },
      λ alike. from_not c.is_two_mod_four.result (λ yes. alike.no_fault (subst IsTwoModFour sum (c.is_two_mod_four.ensures.0 yes))),
    )
