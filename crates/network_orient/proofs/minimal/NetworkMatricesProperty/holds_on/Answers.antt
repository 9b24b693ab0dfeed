use Rattle.std.proofs.Common.{◌↔◌, sym, subst, IsTrue, Bool, is_some}
use Rattle.cmr_base.specs.Matrix.{Matrix}
use Rattle.cmr_base.specs.LineSets.{submatrix}
use Rattle.cmr_base.specs.Trees.{IsNetworkMatrix, Reproduces}
use Rattle.minimal_sets.proofs.Searches.{found_decides}
use Rattle.network_orient.proofs.minimal.NetworkMatricesProperty.holds_on.Goals as goal

pub returns : goal.returns
returns c =
    let m = c.args.matrix.now in
    let part = c.in_ok-part.part in
    let decides = found_decides (IsNetworkMatrix part) (λ net. Reproduces net part) c.in_ok-orient.field-0 c.in_ok-orient.ensures (λ net reproduced. (net, reproduced)) in
    subst (λ (yes : Bool). IsTrue yes ↔ IsNetworkMatrix (submatrix m c.args.lines.now.rows c.args.lines.now.columns)) (sym c.is_some.ensures)
    (subst (λ (n : Matrix). IsTrue (is_some c.in_ok-orient.field-0) ↔ IsNetworkMatrix n) c.in_ok-part.ensures decides)
