-- Trees without the nodes of their networks.
use Rattle.std.specs.Prelude.{◌≡◌, ℕ, []}
use Rattle.cmr_base.specs.declared.network.Network as net
use Rattle.cmr_base.specs.Matrix.{Matrix}
use Rattle.decomp_tree.specs.Shapes.{IsShape}
use Rattle.tree_type.specs.DecompositionTrees.{Finding, Network, Conetwork, Tree, Trees, Branch, NoTrees, MoreTrees}

abbrev pub no_network : net.Network
no_network = record { arcs = []; walks = [] }

-- the finding of a node, without the nodes of a network
abbrev pub plain_finding : Finding → Finding
plain_finding (Network n) = Network no_network
plain_finding (Conetwork n) = Conetwork no_network
plain_finding finding = finding

abbrev mutual
  pub plain_tree : Tree → Tree
  plain_tree (Branch lines finding trees) = Branch lines (plain_finding finding) (plain_trees trees)

  pub plain_trees : Trees → Trees
  plain_trees NoTrees = NoTrees
  plain_trees (MoreTrees tree trees) = MoreTrees (plain_tree tree) (plain_trees trees)

-- two decompositions of a matrix differ at most in their networks
abbrev pub OneShape : Type 0
OneShape = (limit : ℕ) (m : Matrix) (tree other : Tree) → IsShape limit m tree → IsShape limit m other → plain_tree tree ≡ plain_tree other
