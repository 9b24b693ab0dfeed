use Rattle.std.proofs.Common.{◌≡◌, ◌≢◌, ◌∙◌, false, refl, sym}
use Rattle.std.specs.declared.alloc.Global.{Global}
use Rattle.std.specs.declared.boxed.Box.{Box}
use Rattle.cmr_base.specs.declared.position.Position.{Position}
use Rattle.tree_type.specs.declared.tree.Node.{Node}
use Rattle.tree_type.specs.declared.tree.Kind.TheOpen as open'
use Rattle.tree_type.specs.declared.tree.Kind.TheVariants as kind
use Rattle.tree_type.specs.declared.tree.Kind.TheViews.{roll-Kind}
use Rattle.tree_type.specs.DecompositionTrees.{Tree, Branch, children_of, finding_of, tree_of, trees_from}
use Rattle.tree_type.proofs.NodeChildren.{trees_back}
use Rattle.tree_type.proofs.OtherKinds.{KindCase, by_kind, finding_in}
use Rattle.tree_text.specs.CanonicalTrees.{is_pivot, has_pivot, have_pivot}
use Rattle.tree_text.proofs.header.+has_pivot.Goals as goal

no_pivot : (node : Node) → ((place : Position) (child : Box Node Global) → node.kind ≢ kind.Pivoted place child) → is_pivot (finding_of (tree_of node)) ≡ false
no_pivot node other = by_kind node (λ finding. is_pivot finding ≡ false) each
  where
    each : (case : KindCase) → roll-Kind case ≡ node.kind → is_pivot (finding_in case) ≡ false
    each (open'.Pivoted place child) rolls = absurd (other place child (sym rolls ∙ kind.rolls-Pivoted place child))
    each case rolls = refl

pivots_of_children : (tree : Tree) → is_pivot (finding_of tree) ≡ false → have_pivot (trees_from (children_of tree)) ≡ has_pivot tree
pivots_of_children (Branch lines finding trees) none = rw (none, trees_back trees) refl

pub loop-index-init : goal.loop-index-init
loop-index-init t c = let node = c.args.node.now in pivots_of_children (tree_of node) (no_pivot node c.in_default.not-Pivoted)
