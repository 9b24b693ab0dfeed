use Rattle.std.proofs.Common.{subst}
use Rattle.cmr_base.specs.Matrix.{height}
use Rattle.cmr_base.proofs.IncreasingLists.{row_set_increases}
use Rattle.cmr_base.proofs.Members.{increasing_are_distinct}
use Rattle.ghouila.specs.Answer.{IsAnswerOfRun}
use Rattle.ghouila.specs.declared.by_pivots.SigningOrViolator.TheVariants.{Signed}
use Rattle.sign_tool.proofs.StepRows.{names_each_once}
use Rattle.sign_tool.proofs.signing.sign_set.Goals as goal

pub returns-in-Signed-clause-steps : goal.returns-in-Signed-clause-steps
returns-in-Signed-clause-steps c =
    let m = c.args.matrix.now in
    let rows = c.args.rows.now in
    let steps = c.in_ok-steps.field-0.steps in
    let run : IsAnswerOfRun m rows steps (Signed c.in-Signed.signs) = subst (IsAnswerOfRun m rows steps) c.in-Signed.is c.in_ok-steps.ensures.run in
    names_each_once steps run.0 m rows run.2 (increasing_are_distinct 0 (height m) rows (row_set_increases m rows (record { increasing = c.in_ok-steps.ensures.increasing; in_range = c.requires })))
