use Rattle.std.proofs.lemmas.Result.{IfOk-weaker}
use Rattle.cmr_evidence.specs.Check.{accepted}
use Rattle.cmr_evidence.proofs.CheckAnswers.{refuted_by}
use Rattle.cmr_evidence.proofs.tools.check.check_violator.Goals as goal

pub accepted-requires : goal.accepted-requires
accepted-requires c =
    refuted_by c.args.matrix.now c.args.lines.now c.requires.row_set c.requires.column_set (c.is_violator.ensures.0 c.if-is_violator.true)

pub returns-then-is_violator : goal.returns-then-is_violator
returns-then-is_violator c =
    let refuted = refuted_by c.args.matrix.now c.args.lines.now c.requires.row_set c.requires.column_set (c.is_violator.ensures.0 c.if-is_violator.true) in
    IfOk-weaker c.accepted.result _ _ (λ outcome e. accepted refuted e) c.accepted.ensures
