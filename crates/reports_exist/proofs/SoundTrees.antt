-- A tree of a text keeps its rules, or a node is the first that breaks one.
use Rattle.std.proofs.Common.{◌⊎◌, inl, inr, ℕ, List, subst}
use Rattle.cmr_base.specs.Matrix.{Matrix}
use Rattle.tree_type.specs.DecompositionTrees.{SizedTree}
use Rattle.tree_type.specs.Invariant.{IsTreeFor}
use Rattle.tree_type.specs.Laws.{SoundOrBroken}
use Rattle.tree_type.specs.Soundness.{IsBrokenTree, IsSoundTree}
use Rattle.tree_type.specs.declared.refusal.Rule.{Rule}
use Rattle.tree_text.specs.TreeReading.{PlainTree}
use Rattle.cmr_front.specs.Evidence.{IsBrokenFor, IsSoundFor}
use Rattle.decompositions_exist.proofs.NotExcluded.{NotExcluded}
use Rattle.decompositions_exist.proofs.NodesExist.{node_of_tree}

-- the rule that a node breaks, by its path
abbrev pub SomeBroken : Matrix → PlainTree → Type 0
SomeBroken m t = (path : List ℕ) × (broken : Rule) × IsBrokenFor m t path broken

pub sound_or_refused : SoundOrBroken → (m : Matrix) (t : PlainTree) → IsTreeFor t.rows t.columns t.root → NotExcluded (IsSoundFor m t ⊎ SomeBroken m t)
sound_or_refused either m t fits neither =
    let node = node_of_tree t.rows t.columns t.root fits in
    let sized : SizedTree = record { rows = t.rows; columns = t.columns; root = node.0 } in
    either m sized
    (λ refusal broken. neither (inr (refusal.path, refusal.rule, subst (λ tree. IsBrokenTree m t.rows t.columns tree refusal.path refusal.rule) node.1 broken)))
    (λ sound. neither (inl (subst (IsSoundTree m t.rows t.columns) node.1 sound)))
