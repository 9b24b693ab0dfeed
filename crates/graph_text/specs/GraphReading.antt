-- The reading of a graph text, with its fault.
use Rattle.std.specs.Prelude.{◌≡◌, ◌⊎◌, ◌++◌, ◌==◌, ◌&&◌, nat_le, nat_lt, if◌then◌else◌, ℕ, List, [], ◌∷◌, length, map, Result, Ok, Err, bytes_eq}
use Rattle.cmr_base.specs.declared.limits.TheConstants.{MAX_COLUMNS, MAX_ROWS}
use Rattle.cmr_base.specs.declared.network.Pair.{Pair}
use Rattle.cmr_base.specs.Trees.{IsTree}
use Rattle.text_fields.specs.TextWords.{Text}
use Rattle.text_fields.specs.Result.{◌>>=◌, renamed}
use Rattle.text_fields.specs.Numbers.{count_in}
use Rattle.text_fields.specs.Reading.{Fault, due, field, placed}
use Rattle.text_fields.specs.declared.error.FieldError.{FieldError}
use Rattle.text_fields.specs.declared.error.FieldError.TheVariants as errors
use Rattle.graph_text.specs.declared.edges.Edge.{Edge}
use Rattle.graph_text.specs.declared.edges.Edges.{Edges}
use Rattle.graph_text.specs.declared.edges.Element.{Element}
use Rattle.graph_text.specs.declared.edges.Element.TheVariants.{Row, Column}
use Rattle.graph_text.specs.declared.edges.NodeWord.{NodeWord}
use Rattle.graph_text.specs.declared.error.GraphKind.{GraphKind}
use Rattle.graph_text.specs.declared.error.GraphKind.TheVariants.{BadElement, TooManyRows, TooManyColumns, Short, OutOfRange, NotTree}
use Rattle.graph_text.specs.declared.read.SizedNetwork.{SizedNetwork}
use Rattle.graph_text.specs.GraphKinds.{graph_kind}
use Rattle.graph_text.specs.GraphTexts.{row_letter, column_letter, lettered_name}

abbrev pub graph_number_in : List ℕ → Result ℕ GraphKind
graph_number_in word = renamed graph_kind (count_in word)

-- the node of a word, with the word's position
abbrev pub node_at : ℕ × List ℕ → Result NodeWord (Fault GraphKind)
node_at word = do
  number ← placed word.0 (graph_number_in word.1)
  Ok (record { number = number; place = word.0 })

-- The line that a word names: the next row if no column has been read, or the next column.
abbrev pub element_in : Edges → List ℕ → Result Element GraphKind
element_in edges name =
    if (length edges.columns == 0) && bytes_eq name (lettered_name row_letter (length edges.rows))
    then (if nat_lt (length edges.rows) MAX_ROWS then Ok Row else Err TooManyRows)
    else (if bytes_eq name (lettered_name column_letter (length edges.columns))
    then (if nat_lt (length edges.columns) MAX_COLUMNS then Ok Column else Err TooManyColumns)
    else Err BadElement)

abbrev pub no_edges : Edges
no_edges = record { rows = []; columns = [] }

abbrev pub with_edge : Edges → Element → Edge → Edges
with_edge edges Row edge = record { rows = edges.rows ++ edge ∷ []; columns = edges.columns }
with_edge edges Column edge = record { rows = edges.rows; columns = edges.columns ++ edge ∷ [] }

-- the edges of the words of a text of this size, three words each, after the edges that were read
abbrev pub edges_from : ℕ → Edges → List (ℕ × List ℕ) → Result Edges (Fault GraphKind)
edges_from size edges [] = Ok edges
edges_from size edges (tail ∷ []) = do
  _ ← node_at tail
  Err (Short, size)
edges_from size edges (tail ∷ head ∷ []) = do
  _ ← node_at tail
  _ ← node_at head
  Err (Short, size)
edges_from size edges (tail ∷ head ∷ name ∷ words) = do
  first ← node_at tail
  last ← node_at head
  element ← placed name.0 (element_in edges name.1)
  edges_from size (with_edge edges element (record { tail = first; head = last })) words

-- the next word's node
abbrev pub next_node : Text → Result (NodeWord × Text) (Fault GraphKind)
next_node text = do
  word ← due Short text
  node ← node_at word.0
  Ok (node, word.1)

-- the words after the first node of an edge: the element that the edge represents, and the edge
abbrev pub edge_after : Edges → NodeWord → Text → Result ((Element × Edge) × Text) (Fault GraphKind)
edge_after edges tail text = do
  head ← next_node text
  element ← field Short (element_in edges) head.1
  Ok ((element.0, record { tail = tail; head = head.0 }), element.1)

abbrev pub node_within : ℕ → NodeWord → Result (Unit {0}) (Fault GraphKind)
node_within last node = if nat_le node.number last then Ok tt else Err (OutOfRange, node.place)

-- the first node above the last number is the fault
abbrev pub all_within : ℕ → List Edge → Result (Unit {0}) (Fault GraphKind)
all_within last [] = Ok tt
all_within last (edge ∷ edges) = do
  _ ← node_within last edge.tail
  _ ← node_within last edge.head
  all_within last edges

abbrev pub ends : Edge → Pair
ends edge = record { tail = (edge.tail).number; head = (edge.head).number }

abbrev pub sized : Edges → SizedNetwork
sized edges = record {
  net = record { arcs = map ends edges.rows; walks = map ends edges.columns };
  rows = length edges.rows;
  columns = length edges.columns;
}

-- the arcs and walks of a text, or its first fault; the arcs need not be a tree
abbrev pub network_in : Text → Result SizedNetwork (Fault GraphKind)
network_in text = do
  edges ← edges_from text.size no_edges text.words
  _ ← all_within (length edges.rows) edges.rows
  _ ← all_within (length edges.rows) edges.columns
  Ok (sized edges)

-- arcs and walks are read, but the arcs are not a tree
abbrev pub HasNoTree : Text → Type 0
HasNoTree text = (net : SizedNetwork) × (network_in text ≡ Ok net) × (¬ (IsTree net.net.arcs net.rows))

-- The result for a text: a tree with its walks, or a fault. The test for a tree is the last test.
abbrev pub IsGraph : Text → Result SizedNetwork (Fault GraphKind) → Type 0
IsGraph text (Ok net) = (network_in text ≡ Ok net) × IsTree net.net.arcs net.rows
IsGraph text (Err fault) = (network_in text ≡ Err fault) ⊎ ((fault ≡ (NotTree, text.size)) × HasNoTree text)

-- The result of a function is the result for the text, unless memory is exhausted.
abbrev pub IsReading : Text → Result SizedNetwork (FieldError GraphKind) → Type 0
IsReading text (Ok net) = IsGraph text (Ok net)
IsReading text (Err errors.Memory) = Unit {0}
IsReading text (Err (errors.Fault kind place)) = IsGraph text (Err (kind, place))
