-- Graph texts: an edge for each row and then one for each column, as its two nodes and the name of its line.
use Rattle.std.specs.Prelude.{◌≡◌, ◌≤◌, ◌+◌, ◌++◌, ℕ, List, [], ◌∷◌, Ok}
use Rattle.std.specs.Fmt.{decimal}
use Rattle.cmr_base.specs.declared.limits.TheConstants.{MAX_COLUMNS, MAX_ROWS}
use Rattle.cmr_base.specs.declared.network.Network.{Network}
use Rattle.cmr_base.specs.declared.network.Pair.{Pair}
use Rattle.cmr_base.specs.Trees.{IsNetworkOf}
use Rattle.text_fields.specs.Numbers.{count_in}
use Rattle.text_fields.specs.Written.{text_of_lines}
use Rattle.graph_text.specs.declared.read.SizedNetwork.{SizedNetwork}

abbrev pub row_letter : ℕ
row_letter = 114

abbrev pub column_letter : ℕ
column_letter = 99

-- the letter, and the number of a line, counted from 1
abbrev pub lettered_name : ℕ → ℕ → List ℕ
lettered_name letter line = letter ∷ decimal (line + 1)

-- each three words represent an edge: two node numbers, and the name of the next line
abbrev pub SpellEdges : ℕ → ℕ → List (List ℕ) → List Pair → Type 0
SpellEdges letter line [] [] = Unit {0}
SpellEdges letter line (tail ∷ head ∷ name ∷ words) (edge ∷ edges) =
    (count_in tail ≡ Ok edge.tail) × (count_in head ≡ Ok edge.head) × (name ≡ lettered_name letter line) × SpellEdges letter (line + 1) words edges
SpellEdges letter line _ _ = ⊥

-- These words are a text of a tree and walks in it: first the arcs of the rows, then the walks of the columns.
pub record IsGraphText (words : List (List ℕ)) (sized : SizedNetwork) : Type 0 where
  pub row_words : List (List ℕ)
  pub column_words : List (List ℕ)
  pub words_are : words ≡ row_words ++ column_words
  pub rows_are : SpellEdges row_letter 0 row_words sized.net.arcs
  pub columns_are : SpellEdges column_letter 0 column_words sized.net.walks
  pub rows_in : sized.rows ≤ MAX_ROWS
  pub columns_in : sized.columns ≤ MAX_COLUMNS
  pub network : IsNetworkOf sized.net sized.rows sized.columns

-- ---- canonical texts

abbrev pub edge_words : ℕ → ℕ → Pair → List (List ℕ)
edge_words letter line edge = decimal edge.tail ∷ decimal edge.head ∷ lettered_name letter line ∷ []

-- a line for each edge, from a number on
abbrev pub edge_lines : ℕ → ℕ → List Pair → List (List (List ℕ))
edge_lines letter line [] = []
edge_lines letter line (edge ∷ edges) = edge_words letter line edge ∷ edge_lines letter (line + 1) edges

-- the edges of the tree with one letter, and the walks with the other letter
abbrev pub lettered_text : ℕ → ℕ → Network → List ℕ
lettered_text arc_letter walk_letter net = text_of_lines (edge_lines arc_letter 0 net.arcs ++ edge_lines walk_letter 0 net.walks)

abbrev pub graph_text : Network → List ℕ
graph_text net = lettered_text row_letter column_letter net

-- the text if the network is a network of the transposed matrix: the edges of the tree represent its columns
abbrev pub transposed_graph_text : Network → List ℕ
transposed_graph_text net = lettered_text column_letter row_letter net
