use Rattle.std.proofs.Common.{◌≡◌, ◌⊎◌, ◌↔◌, inl, refl, sym, subst, pos, IsTrue, Bool, is_some}
use Rattle.cmr_base.specs.Matrix.{Matrix}
use Rattle.cmr_base.specs.LineSets.{submatrix}
use Rattle.cmr_base.specs.Trees.{HasGraphicSupport, IsBinary, IsGraphic, ReproducesSupport}
use Rattle.cmr_base.proofs.Parts.{each-submatrix}
use Rattle.minimal_sets.proofs.Searches.{found_decides}
use Rattle.graph_realise.proofs.minimal.GraphicProperty.holds_on.Goals as goal

pub returns : goal.returns
returns c =
    let m = c.args.matrix.now in
    let part = c.in_ok-part.part in
    let binary : IsBinary part =
    subst IsBinary (sym c.in_ok-part.ensures)
    (each-submatrix (λ z. (z ≡ pos 0) ⊎ (z ≡ pos 1)) m c.args.lines.now.rows c.args.lines.now.columns (inl refl) c.requires.domain) in
    let by_support = found_decides (HasGraphicSupport part) (λ net. ReproducesSupport net part) c.in_ok-realise.field-0 c.in_ok-realise.ensures (λ net realised. (net, realised)) in
    let decides : IsTrue (is_some c.in_ok-realise.field-0) ↔ IsGraphic part = ((λ yes. (binary, by_support.0 yes)), (λ graphic. by_support.1 graphic.1)) in
    subst (λ (yes : Bool). IsTrue yes ↔ IsGraphic (submatrix m c.args.lines.now.rows c.args.lines.now.columns)) (sym c.is_some.ensures)
    (subst (λ (n : Matrix). IsTrue (is_some c.in_ok-realise.field-0) ↔ IsGraphic n) c.in_ok-part.ensures decides)
