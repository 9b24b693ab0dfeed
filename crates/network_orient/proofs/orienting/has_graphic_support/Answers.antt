use Rattle.std.proofs.Common.{◌↔◌, IsTrue, Bool, sym, subst}
use Rattle.cmr_base.specs.Trees.{HasGraphicSupport, ReproducesSupport}
use Rattle.minimal_sets.proofs.Searches.{found_decides}
use Rattle.network_orient.proofs.orienting.has_graphic_support.Goals as goal

pub returns : goal.returns
returns c =
    let m = c.args.matrix.now in
    subst (λ (yes : Bool). IsTrue yes ↔ HasGraphicSupport m) (sym c.is_some.ensures)
    (found_decides (HasGraphicSupport m) (λ net. ReproducesSupport net m) c.in_ok-realise.field-0 c.in_ok-realise.ensures (λ net realised. (net, realised)))
