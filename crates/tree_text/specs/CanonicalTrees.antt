-- The canonical text of a tree, in version 2, or a text of pivots if a node is pivoted. Each of its lines is a list of words.
use Rattle.std.specs.Prelude.{◌++◌, ◌||◌, if◌then◌else◌, Bool, true, false, ℕ, List, [], ◌∷◌, length, map}
use Rattle.std.specs.List.{flat_map}
use Rattle.std.specs.Fmt.{decimal}
use Rattle.cmr_base.specs.declared.network.Network as net
use Rattle.cmr_base.specs.declared.network.Pair.{Pair}
use Rattle.cmr_base.specs.declared.separation.Connector.{Connector}
pub use Rattle.text_fields.specs.LineNumbers.{number_of_line, line_name, set_words}
use Rattle.text_fields.specs.Written.{text_of_lines}
use Rattle.tree_type.specs.DecompositionTrees.{Finding, Cycle, Reduced, OneSum, Network, Conetwork, TwoSum, ThreeSum, Violator, Pivoted, Tree, Trees, Branch, NoTrees, MoreTrees, count_trees}
use Rattle.tree_text.specs.declared.header.Version.{Version}
use Rattle.tree_text.specs.declared.header.Version.TheVariants as version
use Rattle.tree_text.specs.Versions.{title_word, title_of, version_word}
use Rattle.tree_text.specs.KindWords.{word_of_kind, kind_of}

abbrev pub pair_words : Pair → List (List ℕ)
pair_words pair = decimal pair.tail ∷ decimal pair.head ∷ []

abbrev pub network_words : net.Network → List (List ℕ)
network_words n = flat_map pair_words n.arcs ++ flat_map pair_words n.walks

abbrev pub connector_words : Connector → List (List ℕ)
connector_words c = number_of_line c.row ∷ number_of_line c.column ∷ number_of_line c.other ∷ []

-- the words of the finding of a node, or the number of its children
abbrev pub own_words : Finding → Trees → List (List ℕ)
own_words (Cycle fault) trees = set_words fault
own_words (Reduced steps) trees = decimal (length steps) ∷ map line_name steps
own_words OneSum trees = decimal (count_trees trees) ∷ []
own_words (Network n) trees = network_words n
own_words (Conetwork n) trees = network_words n
own_words (TwoSum two) trees = number_of_line two.row ∷ number_of_line two.column ∷ set_words two.side
own_words (ThreeSum three) trees = connector_words three.first ++ connector_words three.second ++ set_words three.side
own_words (Violator fault) trees = set_words fault
own_words (Pivoted place) trees = number_of_line place.row ∷ number_of_line place.column ∷ []
own_words finding trees = []

-- a line for some words, if there are any
abbrev pub line_for : List (List ℕ) → List (List (List ℕ))
line_for [] = []
line_for (word ∷ words) = (word ∷ words) ∷ []

abbrev pub own_text_line : Tree → List (List (List ℕ))
own_text_line (Branch lines finding trees) = line_for (own_words finding trees)

-- a line with the kind and the lines of a node, and a line with its own part
abbrev pub opening_lines : Tree → List (List (List ℕ))
opening_lines (Branch lines finding trees) = (word_of_kind (kind_of finding) ∷ set_words lines) ∷ own_text_line (Branch lines finding trees)

abbrev mutual
  -- a node's own lines, and the lines of its children
  pub node_lines : Tree → List (List (List ℕ))
  node_lines (Branch lines finding trees) = opening_lines (Branch lines finding trees) ++ forest_lines trees

  pub forest_lines : Trees → List (List (List ℕ))
  forest_lines NoTrees = []
  forest_lines (MoreTrees tree trees) = node_lines tree ++ forest_lines trees

abbrev pub is_pivot : Finding → Bool
is_pivot (Pivoted place) = true
is_pivot finding = false

abbrev mutual
  -- some node of the tree is pivoted
  pub has_pivot : Tree → Bool
  has_pivot (Branch lines finding trees) = is_pivot finding || have_pivot trees

  pub have_pivot : Trees → Bool
  have_pivot NoTrees = false
  have_pivot (MoreTrees tree trees) = has_pivot tree || have_pivot trees

-- the version in which a tree is written
abbrev pub version_of : Tree → Version
version_of root = if has_pivot root then version.Pivoted else version.Two

-- the title and the version, the sizes of the matrix, and the nodes in preorder
abbrev pub tree_lines : ℕ → ℕ → Tree → List (List (List ℕ))
tree_lines rows columns root =
    (title_word (title_of (version_of root)) ∷ version_word (version_of root) ∷ []) ∷ (decimal rows ∷ decimal columns ∷ []) ∷ node_lines root

abbrev pub tree_text : ℕ → ℕ → Tree → List ℕ
tree_text rows columns root = text_of_lines (tree_lines rows columns root)
