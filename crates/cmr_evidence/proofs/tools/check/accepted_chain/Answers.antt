use Rattle.std.proofs.Common.{◌∙◌, subst, sym}
use Rattle.std.proofs.lemmas.Result.{IfOk-weaker}
use Rattle.cmr_base.specs.LineSets.{AllBelow}
use Rattle.cmr_evidence.specs.Check.{accepted}
use Rattle.cmr_evidence.proofs.CheckAnswers.{chain_sign_matrix, shows_irregular}
use Rattle.cmr_evidence.proofs.tools.check.accepted_chain.Goals as goal

pub prove-unreachable-requires : goal.prove-unreachable-requires
prove-unreachable-requires c =
    let are = chain_sign_matrix c.args.matrix.now c.args.chain.now c.in_ok-signs.signs c.rows-rows.ensures.shape c.in_ok-signs.ensures in
    c.if-prove.true (c.rows.ensures.rows ∙ are.same_height ∙ sym c.rows-rows.ensures.rows)

pub irregular-requires-clause-rows : goal.irregular-requires-clause-rows
irregular-requires-clause-rows c =
    let lines = c.args.chain.now.chain.violator in
    let sound = c.in_ok-signs.ensures in
    let are = chain_sign_matrix c.args.matrix.now c.args.chain.now c.in_ok-signs.signs c.rows-rows.ensures.shape sound in
    subst (λ bound. AllBelow bound lines.rows) (sym are.same_height) sound.violator.row_set.in_range

pub irregular-requires-clause-columns : goal.irregular-requires-clause-columns
irregular-requires-clause-columns c =
    let lines = c.args.chain.now.chain.violator in
    let sound = c.in_ok-signs.ensures in
    let are = chain_sign_matrix c.args.matrix.now c.args.chain.now c.in_ok-signs.signs c.rows-rows.ensures.shape sound in
    subst (λ bound. AllBelow bound lines.columns) (sym are.same_width) sound.violator.column_set.in_range

pub returns : goal.returns
returns c =
    let a = c.args.matrix.now in
    let chain = c.args.chain.now in
    let shows = shows_irregular a chain c.in_ok-signs.signs c.rows-rows.ensures.shape c.requires.binary c.in_ok-signs.ensures in
    IfOk-weaker c.irregular.result _ _ (λ outcome e. accepted c.in_ok-signs.signs shows e) c.irregular.ensures
