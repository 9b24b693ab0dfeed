-- The arguments and the texts determine a report of `tu` or `regular`, except for the networks in its tree.
use Rattle.std.specs.Prelude.{◌≡◌, ℕ}
use Rattle.tree_type.specs.DecompositionTrees.{Tree}
use Rattle.tree_text.specs.CanonicalTrees.{tree_text}
use Rattle.decomp_tree.specs.PlainTrees.{plain_tree}
use Rattle.cmr_front.specs.Report.{File}

-- Two files of one name are equal, or hold the texts of two trees that differ only in their networks.
pub data HoldAlikeTrees (f g : File) : Type 0 where
  same : f ≡ g → HoldAlikeTrees f g
  trees : f.name ≡ g.name → (rows columns : ℕ) (tree other : Tree) → plain_tree tree ≡ plain_tree other → f.bytes ≡ tree_text rows columns tree
      → g.bytes ≡ tree_text rows columns other → HoldAlikeTrees f g
