use Rattle.std.proofs.Common.{◌≡◌, ◌∙◌, subst, sym}
use Rattle.std.proofs.lemmas.Result.{IfOk-weaker}
use Rattle.cmr_base.specs.Matrix.{IsMatrix, height}
use Rattle.cmr_base.specs.Trees.{IsBinary, ReproducesSupport}
use Rattle.cmr_base.proofs.FilledMatrices.{height-filled}
use Rattle.graph_text.specs.SupportMatrix.{one_at}
use Rattle.graph_text.proofs.SupportCells.{ones_are_binary, ones_are_matrix, ones_reproduced}
use Rattle.graph_text.proofs.matrix.matrix_of.Goals as goal

pub returns-else-directed-clause-shape : goal.returns-else-directed-clause-shape
returns-else-directed-clause-shape c =
    IfOk-weaker c.support_of.result _ _ (λ made is. subst IsMatrix (sym is) (ones_are_matrix c.in_ok-matrix.matrix c.in_ok-matrix.ensures.shape)) c.support_of.ensures

pub returns-else-directed-clause-rows : goal.returns-else-directed-clause-rows
returns-else-directed-clause-rows c =
    let m = c.in_ok-matrix.matrix in
    IfOk-weaker c.support_of.result _ _ (λ made is. subst (λ (n : _). height n ≡ c.args.rows) (sym is) (height-filled (height m) m.width (one_at m) ∙ c.in_ok-matrix.ensures.rows)) c.support_of.ensures

pub returns-else-directed-clause-binary : goal.returns-else-directed-clause-binary
returns-else-directed-clause-binary c is_false =
    IfOk-weaker c.support_of.result _ _ (λ made is. subst IsBinary (sym is) (ones_are_binary c.in_ok-matrix.matrix)) c.support_of.ensures

pub returns-else-directed-clause-undirected : goal.returns-else-directed-clause-undirected
returns-else-directed-clause-undirected c is_false =
    let net = c.args.net.now in
    IfOk-weaker c.support_of.result _ _ (λ made is. subst (ReproducesSupport net) (sym is) (ones_reproduced c.in_ok-matrix.matrix net c.in_ok-matrix.ensures.reproduced)) c.support_of.ensures
