use Rattle.std.proofs.Common.{sym, subst}
use Rattle.cmr_base.specs.Matrix.{height}
use Rattle.cmr_unimodular.specs.Regular.{HasLinesIn}
use Rattle.cmr_unimodular.specs.Verdict.{verdict_in}
use Rattle.cmr_unimodular.proofs.RegularAnswers.{lines_in_matrix}
use Rattle.cmr_unimodular.proofs.tools.regular.with_signing.Goals as goal

pub push_chain-requires : goal.push_chain-requires
push_chain-requires c =
    let a = c.args.matrix.now in
    record { lines = subst (HasLinesIn (height a) a.width) (sym c.verdict.ensures) (lines_in_matrix a c.args.signed.now c.requires.signed.0 (verdict_in c.args.tree.now) c.requires.signed.1 c.requires.means) }
