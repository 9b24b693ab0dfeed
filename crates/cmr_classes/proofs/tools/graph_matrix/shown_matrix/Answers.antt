use Rattle.std.proofs.Common.{refl, subst, sym}
use Rattle.std.specs.Prelude.{IfOk}
use Rattle.cmr_classes.specs.declared.tools.graphic_network.TestedProperty.{TestedProperty}
use Rattle.cmr_classes.specs.declared.tools.graphic_network.TestedProperty.TheVariants.{Graphic, Network}
use Rattle.cmr_classes.specs.GraphMatrix.{IsMatrixOf}
use Rattle.cmr_classes.proofs.GraphMatrixAnswers.{all_testable, matrix_made}
use Rattle.cmr_classes.proofs.tools.graph_matrix.shown_matrix.Goals as goal

pub returns-in-Graphic : goal.returns-in-Graphic
returns-in-Graphic c =
    let e = c.matrix_of.ensures in
    subst (λ (p : TestedProperty). IfOk c.matrix_of.result (IsMatrixOf p c.args.sized.now)) (sym c.in-Graphic.is)
    (matrix_made Graphic c.args.sized.now c.matrix_of.result e.shape e.rows e.columns (e.binary refl) (e.undirected refl))

pub returns-in-Network : goal.returns-in-Network
returns-in-Network c =
    let e = c.matrix_of-in-Network.ensures in
    subst (λ (p : TestedProperty). IfOk c.matrix_of-in-Network.result (IsMatrixOf p c.args.sized.now)) (sym c.in-Network.is)
    (matrix_made Network c.args.sized.now c.matrix_of-in-Network.result e.shape e.rows e.columns (all_testable c.matrix_of-in-Network.result) (e.directed refl))
