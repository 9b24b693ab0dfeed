-- Laws of the rules of decomposition trees.
use Rattle.std.specs.Prelude.{◌≡◌}
use Rattle.cmr_base.specs.Matrix.{Matrix}
use Rattle.tree_type.specs.DecompositionTrees.{SizedTree}
use Rattle.tree_type.specs.Soundness.{IsSound, IsBroken}
use Rattle.tree_type.specs.declared.refusal.Refusal.{Refusal}

-- a sound tree has no node that breaks a rule
abbrev pub SoundIsUnbroken : Type 0
SoundIsUnbroken = (m : Matrix) (tree : SizedTree) (refusal : Refusal) → IsSound m tree → ¬ (IsBroken m tree refusal)

-- the first node that breaks a rule, and its first broken rule, are unique
abbrev pub OneRefusal : Type 0
OneRefusal = (m : Matrix) (tree : SizedTree) (one other : Refusal) → IsBroken m tree one → IsBroken m tree other → (one.path ≡ other.path) × (one.rule ≡ other.rule)

-- a tree that breaks no rule at any node is not unsound, so each tree is sound or broken
abbrev pub SoundOrBroken : Type 0
SoundOrBroken = (m : Matrix) (tree : SizedTree) → ((refusal : Refusal) → ¬ (IsBroken m tree refusal)) → ¬ (¬ (IsSound m tree))
