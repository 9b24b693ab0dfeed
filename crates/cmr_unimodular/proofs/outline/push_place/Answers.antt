use Rattle.std.proofs.Common.{◌≡◌, ◌≢◌, ◌∙◌, ◌++◌, List, ℕ, [], ap, refl, sym}
use Rattle.std.proofs.lemmas.List.{append-nil}
use Rattle.std.specs.Prelude.{codes}
use Rattle.std.specs.declared.alloc.Global.{Global}
use Rattle.std.specs.declared.boxed.Box.{Box}
use Rattle.cmr_base.specs.declared.position.Position.{Position}
use Rattle.tree_type.specs.declared.tree.Node.{Node}
use Rattle.tree_type.specs.declared.tree.Kind.TheOpen as open'
use Rattle.tree_type.specs.declared.tree.Kind.TheVariants as kind
use Rattle.tree_type.specs.declared.tree.Kind.TheViews.{roll-Kind}
use Rattle.tree_type.specs.DecompositionTrees.{finding_of, tree_of}
use Rattle.tree_type.proofs.OtherKinds.{KindCase, by_kind, finding_in}
use Rattle.cmr_unimodular.specs.Outline.{place_words}
use Rattle.cmr_unimodular.proofs.outline.push_place.Goals as goal

no_pivot : (node : Node) → ((place : Position) (child : Box Node Global) → node.kind ≢ kind.Pivoted place child) → place_words (finding_of (tree_of node)) ≡ []
no_pivot node other = by_kind node (λ finding. place_words finding ≡ []) each
  where
    each : (case : KindCase) → roll-Kind case ≡ node.kind → place_words (finding_in case) ≡ []
    each (open'.Pivoted place child) rolls = absurd (other place child (sym rolls ∙ kind.rolls-Pivoted place child))
    each case rolls = refl

pub returns-in_ok-push-in_default : goal.returns-in_ok-push-in_default
returns-in_ok-push-in_default c =
    c.in_ok-push-in_default.ensures.items
    ∙ ap (λ (text : List ℕ). text ++ codes "\n") (sym (append-nil c.args.text.now.items) ∙ ap (λ (words : List ℕ). c.args.text.now.items ++ words) (sym (no_pivot c.args.node.now c.in_default.not-Pivoted)))
