use Rattle.std.proofs.Common.{Ok}
use Rattle.cmr_front.specs.GraphText.{ReportsGraph}
use Rattle.cmr_front.specs.Tool.{IsDecision}
use Rattle.cmr_front.proofs.Endings.{passed_on}
use Rattle.cmr_front.proofs.GraphFile.{graph_stopped}
use Rattle.cmr_classes.specs.GraphMatrix.{GraphDecides}
use Rattle.cmr_classes.proofs.tools.graph_matrix.matrix_of_text.Goals as goal

pub returns-in_err-sized : goal.returns-in_err-sized
returns-in_err-sized c =
    passed_on (IsDecision (ReportsGraph c.args.file.now (GraphDecides c.args.property) c.args.bytes.now)) c.from_residual.result c.in_err-sized.field-0.0 c.from_residual.ensures
    (graph_stopped c.args.file.now (GraphDecides c.args.property) c.args.bytes.now c.in_err-sized.field-0.0 c.in_err-sized.ensures.stopped)

pub returns : goal.returns
returns c = (Ok c.in_ok-sized.sized, c.in_ok-sized.ensures.read, c.in_ok-written.ensures)
