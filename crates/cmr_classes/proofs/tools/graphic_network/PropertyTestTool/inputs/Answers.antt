use Rattle.std.proofs.Common.{◌≡◌, map, subst, sym}
use Rattle.std.specs.Prelude.{IfOk}
use Rattle.cmr_front.specs.Inputs.{input_file}
use Rattle.cmr_classes.specs.GraphicNetwork.{test_order_of}
use Rattle.cmr_classes.proofs.GraphMatrixAnswers.{test_inputs}
use Rattle.cmr_classes.proofs.tools.graphic_network.PropertyTestTool.inputs.Goals as goal

pub returns : goal.returns
returns c = subst (λ files. IfOk c.matrix_input.result (λ inputs. map input_file inputs.items ≡ files)) (sym (test_inputs c.args.self.now.property (test_order_of c.args.self.now.options))) c.matrix_input.ensures
