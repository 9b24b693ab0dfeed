-- Reading a tree text: the tree that it represents, or its first fault.
use Rattle.std.specs.Prelude.{◌+◌, ◌++◌, if◌then◌else◌, ℕ, zero, suc, Bool, List, [], ◌∷◌, length, Option, Some, None, option_map, Result, Ok, Err}
use Rattle.cmr_base.specs.declared.limits.TheConstants.{MAX_COLUMNS, MAX_DEPTH, MAX_ROWS}
use Rattle.cmr_base.specs.declared.line_set.LineSet.{LineSet}
use Rattle.cmr_base.specs.declared.network.Network as net
use Rattle.cmr_base.specs.declared.network.Pair.{Pair}
use Rattle.cmr_base.specs.declared.separation.Connector.{Connector}
use Rattle.cmr_base.specs.declared.separation.Two.{Two}
use Rattle.cmr_base.specs.declared.separation.Three.{Three}
use Rattle.cmr_base.specs.declared.separation.Form.{Form}
use Rattle.cmr_base.specs.declared.position.Position.{Position}
use Rattle.cmr_base.specs.Separations.{first_is_flat, second_is_flat}
use Rattle.text_fields.specs.TextWords.{Text}
use Rattle.text_fields.specs.Result.{◌>>=◌}
use Rattle.text_fields.specs.Reading.{Fault, field, times, fields, ended}
use Rattle.tree_type.specs.DecompositionTrees.{Finding, Empty, Cycle, Reduced, OneSum, Network, Conetwork, R10, TwoSum, ThreeSum, Enumerated, Violator, Undecided, Pivoted, Tree, Branch, SizedTree, trees_from, tree_of}
use Rattle.tree_type.specs.Invariant.{size_of}
use Rattle.tree_text.specs.declared.error.TreeKind.{TreeKind}
use Rattle.tree_text.specs.declared.error.TreeKind.TheVariants.{Short, Extra, TooDeep}
use Rattle.tree_text.specs.declared.kind_word.KindWord.{KindWord}
use Rattle.tree_text.specs.declared.kind_word.KindWord.TheVariants as kind
use Rattle.tree_text.specs.declared.value.Sizes.{Sizes}
use Rattle.tree_text.specs.declared.header.Header.{Header}
use Rattle.tree_text.specs.ReadFindings.{NodeOpening}
use Rattle.tree_text.specs.Versions.{title_in, version_in}
use Rattle.tree_text.specs.KindWords.{kind_in}
use Rattle.tree_text.specs.TreeValues.{limited, line_of, last_number, next_line, step_in}

-- a reader of a value at the beginning of a text
abbrev pub Reader : Type 0 → Type 0
Reader A = Text → Result (A × Text) (Fault TreeKind)

-- another line after the lines read so far
abbrev pub another_line : ℕ → Option (List ℕ) → List ℕ → Reader (List ℕ)
another_line most whole lines text = do
  line ← field Short (next_line most whole (last_number lines)) text
  Ok (lines ++ line.0 ∷ [], line.1)

abbrev pub increasing_lines : ℕ → Option (List ℕ) → ℕ → Reader (List ℕ)
increasing_lines most whole n text = times (another_line most whole) n [] text

-- two counts, then the rows and the columns; they are lines of `whole`, if it is given
abbrev pub line_set : Sizes → Option LineSet → Reader LineSet
line_set sizes whole text = do
  row_count ← field Short (limited sizes.rows) text
  column_count ← field Short (limited sizes.columns) row_count.1
  rows ← increasing_lines sizes.rows (option_map (λ lines. lines.rows) whole) row_count.0 column_count.1
  columns ← increasing_lines sizes.columns (option_map (λ lines. lines.columns) whole) column_count.0 rows.1
  Ok (record { rows = rows.0; columns = columns.0 }, columns.1)

-- two nodes of a tree whose last node has this number
abbrev pub another_pair : ℕ → List Pair → Reader (List Pair)
another_pair last pairs text = do
  tail ← field Short (limited last) text
  head ← field Short (limited last) tail.1
  Ok (pairs ++ (record { tail = tail.0; head = head.0 }) ∷ [], head.1)

abbrev pub network : ℕ → ℕ → Reader net.Network
network arc_count walk_count text = do
  arcs ← times (another_pair arc_count) arc_count [] text
  walks ← times (another_pair arc_count) walk_count [] arcs.1
  Ok (record { arcs = arcs.0; walks = walks.0 }, walks.1)

-- a row, a column and a further line: a column if the connector is flat, a row if it is tall
abbrev pub connector : Sizes → LineSet → Bool → Reader Connector
connector sizes lines flat text = do
  row ← field Short (line_of sizes.rows lines.rows) text
  column ← field Short (line_of sizes.columns lines.columns) row.1
  other ← field Short (if flat then line_of sizes.columns lines.columns else line_of sizes.rows lines.rows) column.1
  Ok (record { row = row.0; column = column.0; other = other.0 }, other.1)

abbrev pub two : Sizes → LineSet → Reader Two
two sizes lines text = do
  row ← field Short (line_of sizes.rows lines.rows) text
  column ← field Short (line_of sizes.columns lines.columns) row.1
  side ← line_set sizes (Some lines) column.1
  Ok (record { side = side.0; row = row.0; column = column.0 }, side.1)

abbrev pub three : Sizes → LineSet → Form → Reader Three
three sizes lines form text = do
  first ← connector sizes lines (first_is_flat form) text
  second ← connector sizes lines (second_is_flat form) first.1
  side ← line_set sizes (Some lines) second.1
  Ok (record { form = form; side = side.0; first = first.0; second = second.0 }, side.1)

-- a row and a column of a node
abbrev pub pivot_place : Sizes → LineSet → Reader Position
pivot_place sizes lines text = do
  row ← field Short (line_of sizes.rows lines.rows) text
  column ← field Short (line_of sizes.columns lines.columns) row.1
  Ok (record { row = row.0; column = column.0 }, column.1)

-- the finding of a node, and the number of its children
abbrev pub own_part : Sizes → LineSet → KindWord → Reader (Finding × ℕ)
own_part sizes lines kind.Empty text = Ok ((Empty, 0), text)
own_part sizes lines kind.Cycle text = do
  fault ← line_set sizes (Some lines) text
  Ok ((Cycle fault.0, 0), fault.1)
own_part sizes lines kind.Reduced text = do
  count ← field Short (limited (size_of lines)) text
  steps ← fields Short (step_in sizes lines) count.0 count.1
  Ok ((Reduced steps.0, 1), steps.1)
own_part sizes lines kind.OneSum text = do
  count ← field Short (limited (size_of lines)) text
  Ok ((OneSum, count.0), count.1)
own_part sizes lines kind.Network text = do
  found ← network (length lines.rows) (length lines.columns) text
  Ok ((Network found.0, 0), found.1)
own_part sizes lines kind.Conetwork text = do
  found ← network (length lines.columns) (length lines.rows) text
  Ok ((Conetwork found.0, 0), found.1)
own_part sizes lines kind.R10 text = Ok ((R10, 0), text)
own_part sizes lines kind.TwoSum text = do
  found ← two sizes lines text
  Ok ((TwoSum found.0, 2), found.1)
own_part sizes lines (kind.ThreeSum form) text = do
  found ← three sizes lines form text
  Ok ((ThreeSum found.0, 2), found.1)
own_part sizes lines kind.Enumerated text = Ok ((Enumerated, 0), text)
own_part sizes lines kind.Violator text = do
  fault ← line_set sizes (Some lines) text
  Ok ((Violator fault.0, 0), fault.1)
own_part sizes lines kind.Undecided text = Ok ((Undecided, 0), text)
own_part sizes lines kind.Pivoted text = do
  place ← pivot_place sizes lines text
  Ok ((Pivoted place.0, 1), place.1)

-- the opening of a node: its kind word, its lines and its own part
abbrev pub opening : Header → Option LineSet → Reader NodeOpening
opening header parent text = do
  kind ← field Short (kind_in header.version) text
  lines ← line_set header.sizes parent kind.1
  own ← own_part header.sizes lines.0 kind.0 lines.1
  Ok (record { lines = lines.0; finding = (own.0).0; children = (own.0).1 }, own.1)

-- another tree after the trees read so far
abbrev pub another_tree : Reader Tree → List Tree → Reader (List Tree)
another_tree read trees text = do
  tree ← read text
  Ok (trees ++ tree.0 ∷ [], tree.1)

-- no further level is allowed
abbrev pub too_deep : List ℕ → Result Tree TreeKind
too_deep word = Err TooDeep

-- a node and the nodes below it, on at most this number of levels
abbrev pub node : Header → ℕ → Option LineSet → Reader Tree
node header zero parent text = field Short too_deep text
node header (suc levels) parent text = do
  opening ← opening header parent text
  children ← times (another_tree (node header levels (Some (opening.0).lines))) (opening.0).children [] opening.1
  Ok (Branch (opening.0).lines (opening.0).finding (trees_from children.0), children.1)

-- a tree with the sizes of its matrix
pub record PlainTree : Type 0 where
  pub rows : ℕ
  pub columns : ℕ
  pub root : Tree

abbrev pub plain_of : SizedTree → PlainTree
plain_of tree = record { rows = tree.rows; columns = tree.columns; root = tree_of tree.root }

-- the title and the version, the sizes of the matrix, and the root
abbrev pub tree : Text → Result PlainTree (Fault TreeKind)
tree text = do
  title ← field Short title_in text
  version ← field Short (version_in title.0) title.1
  rows ← field Short (limited MAX_ROWS) version.1
  columns ← field Short (limited MAX_COLUMNS) rows.1
  root ← node (record { version = version.0; sizes = record { rows = rows.0; columns = columns.0 } }) (MAX_DEPTH + 1) None columns.1
  ended Extra (record { rows = rows.0; columns = columns.0; root = root.0 }) root.1
