use Rattle.std.proofs.Common.{◌∙◌, ap, ap₂, ℕ, w8, arith}
use Rattle.std.proofs.lemmas.Int.{to_z-of_z}
use Rattle.cmr_base.specs.Matrix.{with_entry}
use Rattle.ghouila.proofs.SignsUnique.{row_in, column_in}
use Rattle.chains.specs.SignSteps.{step_row, step_column}
use Rattle.chains.proofs.ChainChecks.{rule_one}
use Rattle.chains.proofs.ChainLabels.{step_labels}
use Rattle.chains.proofs.check.give_sign.Goals as goal

pub set-requires-clause-row : goal.set-requires-clause-row
set-requires-clause-row c =
    let step = c.args.step.now in
    let rule = rule_one c.args.matrix.now c.args.signs.now step c.args.sign c.requires.rule in
    let inside = row_in c.args.matrix.now (step_row step) (step_column step) rule.0.one in
    omega (arith, c.place-row.ensures.row, c.requires.signs.same_height, inside)

pub set-requires-clause-column : goal.set-requires-clause-column
set-requires-clause-column c =
    let step = c.args.step.now in
    let rule = rule_one c.args.matrix.now c.args.signs.now step c.args.sign c.requires.rule in
    let inside = column_in c.args.matrix.now (step_row step) (step_column step) c.rows-rows.ensures.shape.rectangular rule.0.one in
    omega (arith, c.place-row.ensures.column, c.requires.signs.same_width, inside)

pub join-requires : goal.join-requires
join-requires c =
    let a = c.args.matrix.now in
    let step = c.args.step.now in
    let rule = rule_one a c.args.signs.now step c.args.sign c.requires.rule in
    let row_inside = row_in a (step_row step) (step_column step) rule.0.one in
    let column_inside = column_in a (step_row step) (step_column step) c.rows-rows.ensures.shape.rectangular rule.0.one in
    let long = c.requires.labels.one_each in
    record {
      row = omega (arith, c.place-row.ensures.row, long, row_inside);
      column = omega (arith, c.place-row.ensures.column, long, c.rows-rows.ensures.rows, column_inside);
    }

pub returns-clause-signs : goal.returns-clause-signs
returns-clause-signs c =
    let s = c.args.signs.now in
    c.set.ensures ∙ ap (with_entry s c.place-row.result.0 c.place-row.result.1) (to_z-of_z w8 c.args.sign c.ranges.sign) ∙ ap₂ (λ (row column : ℕ). with_entry s row column c.args.sign) c.place-row.ensures.row c.place-row.ensures.column

pub returns-clause-labels : goal.returns-clause-labels
returns-clause-labels c =
    let a = c.args.matrix.now in
    let s = c.args.signs.now in
    let step = c.args.step.now in
    let rule = rule_one a s step c.args.sign c.requires.rule in
    step_labels a s c.set.new.self c.args.labels.now.items c.join.new.labels.items step c.place-row.result.0 c.place-row.result.1 c.rows-rows.result c.args.sign c.rows-rows.ensures.shape c.requires.signs rule.0 rule.1 c.requires.labels
    c.place-row.ensures.row c.place-row.ensures.column (c.set.ensures ∙ ap (with_entry s c.place-row.result.0 c.place-row.result.1) (to_z-of_z w8 c.args.sign c.ranges.sign)) c.rows-rows.ensures.rows c.join.ensures
