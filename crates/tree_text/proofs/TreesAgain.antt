-- Reading the text of a tree gives the same tree.
use Rattle.std.proofs.Common.{◌≡◌, ◌<◌, ◌≤◌, ◌+◌, ◌-◌, ◌∙◌, ℕ, suc, Bool, true, false, List, [], ◌∷◌, ◌++◌, length, map, get_or, Contains, Option, Some, None, Ok, refl, ap, ap₂, sym, subst, append_assoc, zero-le, arith}
use Rattle.std.specs.Prelude.{option_map}
use Rattle.std.proofs.lemmas.Bool.{true≢false}
use Rattle.cmr_base.proofs.Booleans.{not_either}
use Rattle.std.specs.List.{AllByRecursion, flat_map}
use Rattle.std.specs.List.Sorted.{IsStrictlyIncreasing}
use Rattle.std.specs.Fmt.{decimal}
use Rattle.std.proofs.lemmas.List.{append-nil, get_or_default}
use Rattle.std.proofs.lemmas.List.Concat.{flat_map-append}
use Rattle.cmr_base.specs.declared.line.Line.{Line}
use Rattle.cmr_base.specs.declared.line.Line.TheVariants.{Row, Column}
use Rattle.cmr_base.specs.declared.line_set.LineSet.{LineSet}
use Rattle.cmr_base.specs.declared.network.Network as net
use Rattle.cmr_base.specs.declared.network.Pair.{Pair}
use Rattle.cmr_base.specs.declared.separation.Connector.{Connector}
use Rattle.cmr_base.specs.declared.separation.Two.{Two}
use Rattle.cmr_base.specs.declared.separation.Three.{Three}
use Rattle.cmr_base.specs.declared.position.Position.{Position}
use Rattle.cmr_base.specs.declared.separation.Form.TheVariants.{Delta, YForm, Mixed, Concentrated}
use Rattle.cmr_base.specs.LineSets.{AllBelow}
use Rattle.cmr_base.specs.Reductions.{HasLine}
use Rattle.cmr_base.specs.Separations.{first_is_flat, second_is_flat}
use Rattle.tree_type.specs.Sides.{HasConnector}
use Rattle.cmr_base.proofs.Lists.{all_contain, all_weaker, all_of, all-append}
use Rattle.cmr_base.proofs.IncreasingLists.{increases_in, increasing_count}
use Rattle.cmr_base.proofs.Places.{contained_below}
use Rattle.text_fields.specs.TextWords.{Text, is_space, text_of, words_from}
use Rattle.text_fields.specs.Result.{◌>>=◌}
use Rattle.text_fields.specs.Reading.{field, times, fields, another}
use Rattle.text_fields.specs.Spelling.{texts_of}
use Rattle.text_fields.proofs.LineWords.{IsWord, IsSolid, words_of_lines, words_in_lines}
use Rattle.text_fields.proofs.Decimals.{decimal_word}
use Rattle.tree_type.specs.DecompositionTrees.{Finding, Empty, Cycle, Reduced, OneSum, Network, Conetwork, R10, TwoSum, ThreeSum, Enumerated, Violator, Undecided, Pivoted, Tree, Trees, Branch, NoTrees, MoreTrees, trees_from, count_trees, list_of, lines_at_root}
use Rattle.tree_type.specs.Invariant.{AreLinesOf, HasArcsAndWalks, size_of, FitsLines, HasChildren, IsTreeWithin, AreTreesWithin, IsTreeFor}
use Rattle.tree_type.proofs.NodeChildren.{trees_back}
use Rattle.tree_text.specs.declared.error.TreeKind.{TreeKind}
use Rattle.tree_text.specs.declared.error.TreeKind.TheVariants.{Short}
use Rattle.tree_text.specs.declared.kind_word.KindWord.{KindWord}
use Rattle.tree_text.specs.declared.kind_word.KindWord.TheVariants as kind
use Rattle.tree_text.specs.declared.value.Sizes.{Sizes}
use Rattle.tree_text.specs.declared.header.Header.{Header}
use Rattle.tree_text.specs.declared.header.Version.{Version}
use Rattle.tree_text.specs.declared.header.Version.TheVariants as version
use Rattle.tree_text.specs.ReadFindings.{NodeOpening}
use Rattle.tree_text.specs.Versions.{title_word, title_in, title_of, version_word, version_in}
use Rattle.tree_text.specs.KindWords.{word_of_kind, kind_words, kind_among, has_word, kind_in, kind_of}
use Rattle.tree_text.specs.TreeValues.{limited, line_of, step_in}
use Rattle.tree_text.specs.TreeReading.{Reader, increasing_lines, line_set, another_pair, network, connector, two, three, pivot_place, own_part, opening, another_tree, node, tree}
use Rattle.tree_text.specs.CanonicalTrees.{number_of_line, line_name, set_words, pair_words, network_words, connector_words, own_words, line_for, opening_lines, node_lines, forest_lines, is_pivot, has_pivot, have_pivot, version_of, tree_lines, tree_text}
use Rattle.tree_text.proofs.Nodes.{read_whole}
use Rattle.tree_text.proofs.TreesRead.{AreSome, IsSome}
use Rattle.text_fields.proofs.ReadAgain.{Again, again_done, again_field, again_bind, again_wrap, again_times}
use Rattle.tree_text.proofs.WordsAgain.{again_lines, limited_again, line_of_again, step_again}

some_lines : (most : ℕ) (whole : Option (List ℕ)) (lines : List ℕ) → most ≤ 1000 → AreSome most whole lines → Again (increasing_lines most whole (length lines)) (map number_of_line lines) lines
some_lines most whole lines small some = again_lines most whole small [] lines (increases_in 0 most lines some.increases some.below (λ h. zero-le)) some.within

module _ (sizes : Sizes) (few_rows : sizes.rows ≤ 1000) (few_columns : sizes.columns ≤ 1000) where
  set_again : (whole : Option LineSet) (lines : LineSet) → IsSome sizes whole lines → Again (line_set sizes whole) (set_words lines) lines
  set_again whole lines some =
      let whole_rows = option_map (λ (lines : LineSet). lines.rows) whole in
      let whole_columns = option_map (λ (lines : LineSet). lines.columns) whole in
      let p = length lines.rows in
      let q = length lines.columns in
      let few_p = increasing_count sizes.rows lines.rows some.rows.increases some.rows.below in
      let few_q = increasing_count sizes.columns lines.columns some.columns.increases some.columns.below in
      let columns = again_wrap (increasing_lines sizes.columns whole_columns q) (λ (columns : List ℕ). record { rows = lines.rows; columns = columns }) (map number_of_line lines.columns) lines.columns (some_lines sizes.columns whole_columns lines.columns few_columns some.columns) in
      let rows = again_bind (increasing_lines sizes.rows whole_rows p) _ (map number_of_line lines.rows) (map number_of_line lines.columns) lines.rows lines (some_lines sizes.rows whole_rows lines.rows few_rows some.rows) columns in
      let second = again_bind (field Short (limited sizes.columns)) _ (decimal q ∷ []) (map number_of_line lines.rows ++ map number_of_line lines.columns) q lines (again_field Short (limited sizes.columns) (decimal q) q (limited_again sizes.columns q few_q (omega (arith, few_columns)))) rows in
      again_bind (field Short (limited sizes.rows)) _ (decimal p ∷ []) (decimal q ∷ (map number_of_line lines.rows ++ map number_of_line lines.columns)) p lines (again_field Short (limited sizes.rows) (decimal p) p (limited_again sizes.rows p few_p (omega (arith, few_rows)))) second

pairs_again : (last : ℕ) (pairs : List Pair) → last ≤ 1000 → AllByRecursion (λ pair. (pair.tail ≤ last) × (pair.head ≤ last)) pairs
    → Again (times (another_pair last) (length pairs) []) (flat_map pair_words pairs) pairs
pairs_again last pairs small all = again_times (another_pair last) pair_words (λ pair. (pair.tail ≤ last) × (pair.head ≤ last)) each [] pairs all
  where
    each : (before : List Pair) (pair : Pair) → (pair.tail ≤ last) × (pair.head ≤ last) → Again (another_pair last before) (pair_words pair) (before ++ pair ∷ [])
    each before pair q =
        let tail = again_field Short (limited last) (decimal pair.tail) pair.tail (limited_again last pair.tail q.0 (omega (arith, small))) in
        let head = again_field Short (limited last) (decimal pair.head) pair.head (limited_again last pair.head q.1 (omega (arith, small))) in
        again_bind (field Short (limited last)) _ (decimal pair.tail ∷ []) (decimal pair.head ∷ []) pair.tail (before ++ pair ∷ []) tail (again_wrap (field Short (limited last)) (λ (head : ℕ). before ++ (record { tail = pair.tail; head = head }) ∷ []) (decimal pair.head ∷ []) pair.head head)

network_again : (arcs walks : ℕ) (n : net.Network) → arcs ≤ 1000 → HasArcsAndWalks arcs walks n → Again (network arcs walks) (network_words n) n
network_again arc_count walk_count n small has =
    let arcs = subst (λ k. Again (times (another_pair arc_count) k []) (flat_map pair_words n.arcs) n.arcs) has.arc_count (pairs_again arc_count n.arcs small has.arc_nodes) in
    let walks = subst (λ k. Again (times (another_pair arc_count) k []) (flat_map pair_words n.walks) n.walks) has.walk_count (pairs_again arc_count n.walks small has.walk_nodes) in
    again_bind (times (another_pair arc_count) arc_count []) _ (flat_map pair_words n.arcs) (flat_map pair_words n.walks) n.arcs n arcs (again_wrap (times (another_pair arc_count) walk_count []) (λ (walks : List Pair). record { arcs = n.arcs; walks = walks }) (flat_map pair_words n.walks) n.walks walks)

names_are : (steps : List Line) → flat_map (λ line. line_name line ∷ []) steps ≡ map line_name steps
names_are [] = refl
names_are (step ∷ steps) = ap (λ ws. line_name step ∷ ws) (names_are steps)

-- the finding of a node
module _ (sizes : Sizes) (few_rows : sizes.rows ≤ 1000) (few_columns : sizes.columns ≤ 1000) (lines : LineSet) (increase_rows : IsStrictlyIncreasing lines.rows) (increase_columns : IsStrictlyIncreasing lines.columns) (rows_in : AllBelow sizes.rows lines.rows) (columns_in : AllBelow sizes.columns lines.columns) where
  some_from : (part : LineSet) → AreLinesOf part lines → IsSome sizes (Some lines) part
  some_from part is = record {
    rows = record {
      increases = is.rows_increase;
      below = λ k l. contained_below sizes.rows lines.rows (get_or part.rows k 0) rows_in (is.rows (get_or part.rows k 0) (k, l, get_or_default part.rows k (get_or part.rows k 0) 0 l));
      within = all_weaker (Contains part.rows) (Contains lines.rows) is.rows part.rows (all_contain part.rows);
    };
    columns = record {
      increases = is.columns_increase;
      below = λ k l. contained_below sizes.columns lines.columns (get_or part.columns k 0) columns_in (is.columns (get_or part.columns k 0) (k, l, get_or_default part.columns k (get_or part.columns k 0) 0 l));
      within = all_weaker (Contains part.columns) (Contains lines.columns) is.columns part.columns (all_contain part.columns);
    };
  }

  part_again : (part : LineSet) → AreLinesOf part lines → Again (line_set sizes (Some lines)) (set_words part) part
  part_again part is = set_again sizes few_rows few_columns (Some lines) part (some_from part is)

  row_again : (row : ℕ) → Contains lines.rows row → Again (field Short (line_of sizes.rows lines.rows)) (number_of_line row ∷ []) row
  row_again row is = again_field Short (line_of sizes.rows lines.rows) (number_of_line row) row (line_of_again sizes.rows lines.rows row (contained_below sizes.rows lines.rows row rows_in is) few_rows is)

  column_again : (column : ℕ) → Contains lines.columns column → Again (field Short (line_of sizes.columns lines.columns)) (number_of_line column ∷ []) column
  column_again column is = again_field Short (line_of sizes.columns lines.columns) (number_of_line column) column (line_of_again sizes.columns lines.columns column (contained_below sizes.columns lines.columns column columns_in is) few_columns is)

  connector_again : (flat : Bool) (c : Connector) → HasConnector flat lines.rows lines.columns c → Again (connector sizes lines flat) (connector_words c) c
  connector_again true c has =
      let other = again_wrap (field Short (line_of sizes.columns lines.columns)) (λ (other : ℕ). record { row = c.row; column = c.column; other = other }) (number_of_line c.other ∷ []) c.other (column_again c.other has.2) in
      let column = again_bind (field Short (line_of sizes.columns lines.columns)) _ (number_of_line c.column ∷ []) (number_of_line c.other ∷ []) c.column c (column_again c.column has.1) other in
      again_bind (field Short (line_of sizes.rows lines.rows)) _ (number_of_line c.row ∷ []) (number_of_line c.column ∷ number_of_line c.other ∷ []) c.row c (row_again c.row has.0) column
  connector_again false c has =
      let other = again_wrap (field Short (line_of sizes.rows lines.rows)) (λ (other : ℕ). record { row = c.row; column = c.column; other = other }) (number_of_line c.other ∷ []) c.other (row_again c.other has.2) in
      let column = again_bind (field Short (line_of sizes.columns lines.columns)) _ (number_of_line c.column ∷ []) (number_of_line c.other ∷ []) c.column c (column_again c.column has.1) other in
      again_bind (field Short (line_of sizes.rows lines.rows)) _ (number_of_line c.row ∷ []) (number_of_line c.column ∷ number_of_line c.other ∷ []) c.row c (row_again c.row has.0) column

  two_again : (t : Two) → AreLinesOf t.side lines → Contains lines.rows t.row → Contains lines.columns t.column
      → Again (two sizes lines) (number_of_line t.row ∷ number_of_line t.column ∷ set_words t.side) t
  two_again t side row column =
      let last = again_wrap (line_set sizes (Some lines)) (λ (side : LineSet). record { side = side; row = t.row; column = t.column }) (set_words t.side) t.side (part_again t.side side) in
      let second = again_bind (field Short (line_of sizes.columns lines.columns)) _ (number_of_line t.column ∷ []) (set_words t.side) t.column t (column_again t.column column) last in
      again_bind (field Short (line_of sizes.rows lines.rows)) _ (number_of_line t.row ∷ []) (number_of_line t.column ∷ set_words t.side) t.row t (row_again t.row row) second

  place_again : (place : Position) → Contains lines.rows place.row → Contains lines.columns place.column
      → Again (pivot_place sizes lines) (number_of_line place.row ∷ number_of_line place.column ∷ []) place
  place_again place row column =
      let last = again_wrap (field Short (line_of sizes.columns lines.columns)) (λ (column : ℕ). record { row = place.row; column = column }) (number_of_line place.column ∷ []) place.column (column_again place.column column) in
      again_bind (field Short (line_of sizes.rows lines.rows)) _ (number_of_line place.row ∷ []) (number_of_line place.column ∷ []) place.row place (row_again place.row row) last

  three_again : (t : Three) → AreLinesOf t.side lines → HasConnector (first_is_flat t.form) lines.rows lines.columns t.first → HasConnector (second_is_flat t.form) lines.rows lines.columns t.second
      → Again (three sizes lines t.form) (connector_words t.first ++ connector_words t.second ++ set_words t.side) t
  three_again t side first second =
      let last = again_wrap (line_set sizes (Some lines)) (λ (side : LineSet). record { form = t.form; side = side; first = t.first; second = t.second }) (set_words t.side) t.side (part_again t.side side) in
      let middle = again_bind (connector sizes lines (second_is_flat t.form)) _ (connector_words t.second) (set_words t.side) t.second t (connector_again (second_is_flat t.form) t.second second) last in
      again_bind (connector sizes lines (first_is_flat t.form)) _ (connector_words t.first) (connector_words t.second ++ set_words t.side) t.first t (connector_again (first_is_flat t.form) t.first first) middle

  few_lines : size_of lines ≤ 2000
  few_lines =
      let p = increasing_count sizes.rows lines.rows increase_rows rows_in in
      let q = increasing_count sizes.columns lines.columns increase_columns columns_in in
      omega (arith, p, q, few_rows, few_columns)

  count_again : (n : ℕ) → n ≤ size_of lines → Again (field Short (limited (size_of lines))) (decimal n ∷ []) n
  count_again n le = again_field Short (limited (size_of lines)) (decimal n) n (limited_again (size_of lines) n le few_lines)

  steps_again : (steps : List Line) → AllByRecursion (HasLine lines.rows lines.columns) steps → Again (fields Short (step_in sizes lines) (length steps)) (map line_name steps) steps
  steps_again steps all = subst (λ ws. Again (fields Short (step_in sizes lines) (length steps)) ws steps) (names_are steps) (again_times (another Short (step_in sizes lines)) (λ line. line_name line ∷ []) (HasLine lines.rows lines.columns) each [] steps all)
    where
      each : (before : List Line) (line : Line) → HasLine lines.rows lines.columns line → Again (another Short (step_in sizes lines) before) (line_name line ∷ []) (before ++ line ∷ [])
      each before line is =
          again_wrap (field Short (step_in sizes lines)) (λ l. before ++ l ∷ []) (line_name line ∷ []) line (again_field Short (step_in sizes lines) (line_name line) line (step_again sizes lines line few_rows few_columns (λ row h. contained_below sizes.rows lines.rows row rows_in h) (λ column h. contained_below sizes.columns lines.columns column columns_in h) is))

  counted : (read : Reader (Finding × ℕ)) (words : List (List ℕ)) (finding : Finding) (n m : ℕ) → m ≡ n → Again read words (finding, n) → Again read words (finding, m)
  counted read words finding n m e again = subst (λ k. Again read words (finding, k)) (sym e) again

  own_again : (finding : Finding) (trees : Trees) → FitsLines lines finding trees → HasChildren finding (count_trees trees)
      → Again (own_part sizes lines (kind_of finding)) (own_words finding trees) (finding, count_trees trees)
  own_again Empty trees fits e = counted (own_part sizes lines kind.Empty) [] Empty 0 (count_trees trees) e (again_done (Empty, 0))
  own_again (Cycle fault) trees fits e = counted (own_part sizes lines kind.Cycle) (set_words fault) (Cycle fault) 0 (count_trees trees) e (again_wrap (line_set sizes (Some lines)) (λ (f : LineSet). (Cycle f, 0)) (set_words fault) fault (part_again fault fits))
  own_again (Reduced steps) trees fits e =
      counted (own_part sizes lines kind.Reduced) (decimal (length steps) ∷ map line_name steps) (Reduced steps) 1 (count_trees trees) e
      (again_bind (field Short (limited (size_of lines))) _ (decimal (length steps) ∷ []) (map line_name steps) (length steps) (Reduced steps, 1) (count_again (length steps) fits.1) (again_wrap (fields Short (step_in sizes lines) (length steps)) (λ (s : List Line). (Reduced s, 1)) (map line_name steps) steps (steps_again steps fits.0)))
  own_again OneSum trees fits e = again_wrap (field Short (limited (size_of lines))) (λ (n : ℕ). (OneSum, n)) (decimal (count_trees trees) ∷ []) (count_trees trees) (count_again (count_trees trees) fits)
  own_again (Network n) trees fits e =
      counted (own_part sizes lines kind.Network) (network_words n) (Network n) 0 (count_trees trees) e
      (again_wrap (network (length lines.rows) (length lines.columns)) (λ (n : net.Network). (Network n, 0)) (network_words n) n (network_again (length lines.rows) (length lines.columns) n (let p = increasing_count sizes.rows lines.rows increase_rows rows_in in omega (arith, p, few_rows)) fits))
  own_again (Conetwork n) trees fits e =
      counted (own_part sizes lines kind.Conetwork) (network_words n) (Conetwork n) 0 (count_trees trees) e
      (again_wrap (network (length lines.columns) (length lines.rows)) (λ (n : net.Network). (Conetwork n, 0)) (network_words n) n (network_again (length lines.columns) (length lines.rows) n (let q = increasing_count sizes.columns lines.columns increase_columns columns_in in omega (arith, q, few_columns)) fits))
  own_again R10 trees fits e = counted (own_part sizes lines kind.R10) [] R10 0 (count_trees trees) e (again_done (R10, 0))
  own_again (TwoSum t) trees fits e =
      counted (own_part sizes lines kind.TwoSum) (own_words (TwoSum t) trees) (TwoSum t) 2 (count_trees trees) e (again_wrap (two sizes lines) (λ (t : Two). (TwoSum t, 2)) (own_words (TwoSum t) trees) t (two_again t fits.0 fits.1 fits.2))
  own_again (ThreeSum t) trees fits e =
      counted (own_part sizes lines (kind.ThreeSum t.form)) (own_words (ThreeSum t) trees) (ThreeSum t) 2 (count_trees trees) e (again_wrap (three sizes lines t.form) (λ (t : Three). (ThreeSum t, 2)) (own_words (ThreeSum t) trees) t (three_again t fits.0 fits.1 fits.2))
  own_again Enumerated trees fits e = counted (own_part sizes lines kind.Enumerated) [] Enumerated 0 (count_trees trees) e (again_done (Enumerated, 0))
  own_again (Violator fault) trees fits e = counted (own_part sizes lines kind.Violator) (set_words fault) (Violator fault) 0 (count_trees trees) e (again_wrap (line_set sizes (Some lines)) (λ (f : LineSet). (Violator f, 0)) (set_words fault) fault (part_again fault fits))
  own_again Undecided trees fits e = counted (own_part sizes lines kind.Undecided) [] Undecided 0 (count_trees trees) e (again_done (Undecided, 0))
  own_again (Pivoted place) trees fits e =
      counted (own_part sizes lines kind.Pivoted) (own_words (Pivoted place) trees) (Pivoted place) 1 (count_trees trees) e (again_wrap (pivot_place sizes lines) (λ (p : Position). (Pivoted p, 1)) (own_words (Pivoted place) trees) place (place_again place fits.0 fits.1))

-- each kind has a word
word_among : (k : KindWord) → kind_among kind_words (word_of_kind k) ≡ Ok k
word_among kind.Empty = refl
word_among kind.Cycle = refl
word_among kind.Reduced = refl
word_among kind.OneSum = refl
word_among kind.Network = refl
word_among kind.Conetwork = refl
word_among kind.R10 = refl
word_among kind.TwoSum = refl
word_among (kind.ThreeSum Delta) = refl
word_among (kind.ThreeSum YForm) = refl
word_among (kind.ThreeSum Mixed) = refl
word_among (kind.ThreeSum Concentrated) = refl
word_among kind.Enumerated = refl
word_among kind.Violator = refl
word_among kind.Undecided = refl
word_among kind.Pivoted = refl

-- a version reads the words that it has
kind_again : (v : Version) (k : KindWord) → has_word v k ≡ true → kind_in v (word_of_kind k) ≡ Ok k
kind_again v k has = rw (word_among k, has) refl

abbrev mutual
  -- the version has a word for each node of the tree
  IsKnown : Version → Tree → Type 0
  IsKnown v (Branch lines finding trees) = (has_word v (kind_of finding) ≡ true) × AreKnown v trees

  AreKnown : Version → Trees → Type 0
  AreKnown v NoTrees = Unit {0}
  AreKnown v (MoreTrees tree trees) = IsKnown v tree × AreKnown v trees

-- texts of pivots have a word for each kind
all_words : (finding : Finding) → has_word version.Pivoted (kind_of finding) ≡ true
all_words Empty = refl
all_words (Cycle fault) = refl
all_words (Reduced steps) = refl
all_words OneSum = refl
all_words (Network n) = refl
all_words (Conetwork n) = refl
all_words R10 = refl
all_words (TwoSum two) = refl
all_words (ThreeSum three) = refl
all_words Enumerated = refl
all_words (Violator fault) = refl
all_words Undecided = refl
all_words (Pivoted place) = refl

-- version 2 has a word for each kind except the kind of pivoted nodes
most_words : (finding : Finding) → is_pivot finding ≡ false → has_word version.Two (kind_of finding) ≡ true
most_words Empty none = refl
most_words (Cycle fault) none = refl
most_words (Reduced steps) none = refl
most_words OneSum none = refl
most_words (Network n) none = refl
most_words (Conetwork n) none = refl
most_words R10 none = refl
most_words (TwoSum two) none = refl
most_words (ThreeSum three) none = refl
most_words Enumerated none = refl
most_words (Violator fault) none = refl
most_words Undecided none = refl
most_words (Pivoted place) none = absurd (true≢false none)

mutual
  known_with_pivots : (tree : Tree) → IsKnown version.Pivoted tree
  known_with_pivots (Branch lines finding trees) = (all_words finding, all_known_with_pivots trees)

  all_known_with_pivots : (trees : Trees) → AreKnown version.Pivoted trees
  all_known_with_pivots NoTrees = tt
  all_known_with_pivots (MoreTrees tree trees) = (known_with_pivots tree, all_known_with_pivots trees)

mutual
  known_without : (tree : Tree) → has_pivot tree ≡ false → IsKnown version.Two tree
  known_without (Branch lines finding trees) none =
      let each = not_either (is_pivot finding) (have_pivot trees) none in (most_words finding each.0, all_known_without trees each.1)

  all_known_without : (trees : Trees) → have_pivot trees ≡ false → AreKnown version.Two trees
  all_known_without NoTrees none = tt
  all_known_without (MoreTrees tree trees) none =
      let each = not_either (has_pivot tree) (have_pivot trees) none in (known_without tree each.0, all_known_without trees each.1)

-- a tree is written in a version that has a word for each of its nodes
known : (tree : Tree) → IsKnown (version_of tree) tree
known tree = go (has_pivot tree) refl
  where
    go : (b : Bool) → has_pivot tree ≡ b → IsKnown (version_of tree) tree
    go true e = rw e (known_with_pivots tree)
    go false e = rw e (known_without tree e)

-- the words of a node and of the nodes below it
abbrev opening_words : LineSet → Finding → Trees → List (List ℕ)
opening_words lines finding trees = word_of_kind (kind_of finding) ∷ (set_words lines ++ own_words finding trees)

abbrev mutual
  node_words : Tree → List (List ℕ)
  node_words (Branch lines finding trees) = opening_words lines finding trees ++ forest_words trees

  forest_words : Trees → List (List ℕ)
  forest_words NoTrees = []
  forest_words (MoreTrees tree trees) = node_words tree ++ forest_words trees

part_of : (whole : LineSet) (levels : ℕ) (tree : Tree) → IsTreeWithin whole levels tree → AreLinesOf (lines_at_root tree) whole
part_of whole levels (Branch lines finding trees) within = within.1

module _ (v : Version) (sizes : Sizes) (few_rows : sizes.rows ≤ 1000) (few_columns : sizes.columns ≤ 1000) where
  abbrev header : Header
  header = record { version = v; sizes = sizes }

  opening_again : (parent : Option LineSet) (lines : LineSet) (finding : Finding) (trees : Trees) → has_word v (kind_of finding) ≡ true
      → IsSome sizes parent lines → FitsLines lines finding trees → HasChildren finding (count_trees trees)
      → Again (opening header parent) (opening_words lines finding trees) (record { lines = lines; finding = finding; children = count_trees trees })
  opening_again parent lines finding trees has some fits children =
      let head : NodeOpening = record { lines = lines; finding = finding; children = count_trees trees } in
      let own = again_wrap (own_part sizes lines (kind_of finding)) (λ (own : Finding × ℕ). record { lines = lines; finding = own.0; children = own.1 }) (own_words finding trees) (finding, count_trees trees)
      (own_again sizes few_rows few_columns lines some.rows.increases some.columns.increases some.rows.below some.columns.below finding trees fits children) in
      let set = again_bind (line_set sizes parent) _ (set_words lines) (own_words finding trees) lines head (set_again sizes few_rows few_columns parent lines some) own in
      again_bind (field Short (kind_in v)) _ (word_of_kind (kind_of finding) ∷ []) (set_words lines ++ own_words finding trees) (kind_of finding) head (again_field Short (kind_in v) (word_of_kind (kind_of finding)) (kind_of finding) (kind_again v (kind_of finding) has)) set

  mutual
    node_again : (levels : ℕ) (parent : Option LineSet) (tree : Tree) (whole : LineSet) → IsKnown v tree → IsSome sizes parent (lines_at_root tree)
        → IsTreeWithin whole levels tree → Again (node header levels parent) (node_words tree) tree
    node_again levels parent (Branch lines finding trees) whole known some (l, part, fits, children, below) =
        let more : levels ≡ suc (levels - 1) = omega (arith, l) in
        let head : NodeOpening = record { lines = lines; finding = finding; children = count_trees trees } in
        let forest = again_wrap (times (another_tree (node header (levels - 1) (Some lines))) (count_trees trees) []) (λ (ts : List Tree). Branch lines finding (trees_from ts)) (forest_words trees) (list_of trees) (forest_again (levels - 1) lines [] trees known.1 some.rows.increases some.columns.increases some.rows.below some.columns.below below) in
        let back = ap (Branch lines finding) (trees_back trees) in
        subst (λ k. Again (node header k parent) (opening_words lines finding trees ++ forest_words trees) (Branch lines finding trees)) (sym more)
        (again_bind (opening header parent) (λ (h : NodeOpening × Text). times (another_tree (node header (levels - 1) (Some (h.0).lines))) (h.0).children [] h.1 >>= λ (children : List Tree × Text). Ok (Branch (h.0).lines (h.0).finding (trees_from children.0), children.1)) (opening_words lines finding trees) (forest_words trees) head (Branch lines finding trees) (opening_again parent lines finding trees known.0 some fits children)
        (subst (λ tree. Again (λ text. times (another_tree (node header (levels - 1) (Some lines))) (count_trees trees) [] text >>= λ (children : List Tree × Text). Ok (Branch lines finding (trees_from children.0), children.1)) (forest_words trees) tree) back forest))

    forest_again : (levels : ℕ) (lines : LineSet) (before : List Tree) (trees : Trees) → AreKnown v trees → IsStrictlyIncreasing lines.rows
        → IsStrictlyIncreasing lines.columns → AllBelow sizes.rows lines.rows → AllBelow sizes.columns lines.columns → AreTreesWithin lines levels trees
        → Again (times (another_tree (node header levels (Some lines))) (count_trees trees) before) (forest_words trees) (before ++ list_of trees)
    forest_again levels lines before NoTrees known rows columns rows_in columns_in within = subst (λ ts. Again {K = TreeKind} (λ text. Ok (before, text)) [] ts) (sym (append-nil before)) (again_done before)
    forest_again levels lines before (MoreTrees tree trees) known rows columns rows_in columns_in within =
        let read = node header levels (Some lines) in
        let some = some_from sizes few_rows few_columns lines rows columns rows_in columns_in (lines_at_root tree) (part_of lines levels tree within.0) in
        let one = again_wrap read (λ t. before ++ t ∷ []) (node_words tree) tree (node_again levels (Some lines) tree lines known.0 some within.0) in
        subst (Again (times (another_tree read) (suc (count_trees trees)) before) (node_words tree ++ forest_words trees)) (append_assoc before (tree ∷ []) (list_of trees))
        (again_bind (another_tree read before) (λ (next : List Tree × Text). times (another_tree read) (count_trees trees) next.0 next.1) (node_words tree) (forest_words trees) (before ++ tree ∷ []) ((before ++ tree ∷ []) ++ list_of trees) one (forest_again levels lines (before ++ tree ∷ []) trees known.1 rows columns rows_in columns_in within.1))

own_joined : (words : List (List ℕ)) → words_of_lines (line_for words) ≡ words
own_joined [] = refl
own_joined (word ∷ words) = append-nil (word ∷ words)

mutual
  node_joined : (tree : Tree) → words_of_lines (node_lines tree) ≡ node_words tree
  node_joined (Branch lines finding trees) =
      flat_map-append (λ line. line) (opening_lines (Branch lines finding trees)) (forest_lines trees)
      ∙ ap₂ (λ (xs ys : List (List ℕ)). xs ++ ys) (ap (λ ws. (word_of_kind (kind_of finding) ∷ set_words lines) ++ ws) (own_joined (own_words finding trees))) (forest_joined trees)

  forest_joined : (trees : Trees) → words_of_lines (forest_lines trees) ≡ forest_words trees
  forest_joined NoTrees = refl
  forest_joined (MoreTrees tree trees) = flat_map-append (λ line. line) (node_lines tree) (forest_lines trees) ∙ ap₂ (λ (xs ys : List (List ℕ)). xs ++ ys) (node_joined tree) (forest_joined trees)

-- each word of a tree's text is a valid word
abbrev AreWords : List (List ℕ) → Type 0
AreWords words = AllByRecursion IsWord words

plain_word : (b : ℕ) (bytes : List ℕ) → IsSolid (b ∷ bytes) → IsWord (b ∷ bytes)
plain_word b bytes solid = record { first = b; others = bytes; word_is = refl; solid = solid }

kind_word : (k : KindWord) → IsWord (word_of_kind k)
kind_word kind.Empty = plain_word _ _ (refl, (refl, (refl, (refl, (refl, tt)))))
kind_word kind.Cycle = plain_word _ _ (refl, (refl, (refl, (refl, (refl, tt)))))
kind_word kind.Reduced = plain_word _ _ (refl, (refl, (refl, (refl, (refl, (refl, (refl, tt)))))))
kind_word kind.OneSum = plain_word _ _ (refl, (refl, (refl, (refl, (refl, (refl, tt))))))
kind_word kind.Network = plain_word _ _ (refl, (refl, (refl, (refl, (refl, (refl, (refl, tt)))))))
kind_word kind.Conetwork = plain_word _ _ (refl, (refl, (refl, (refl, (refl, (refl, (refl, (refl, (refl, tt)))))))))
kind_word kind.R10 = plain_word _ _ (refl, (refl, (refl, tt)))
kind_word kind.TwoSum = plain_word _ _ (refl, (refl, (refl, (refl, (refl, (refl, tt))))))
kind_word (kind.ThreeSum Delta) = plain_word _ _ (refl, (refl, (refl, (refl, (refl, tt)))))
kind_word (kind.ThreeSum YForm) = plain_word _ _ (refl, tt)
kind_word (kind.ThreeSum Mixed) = plain_word _ _ (refl, (refl, (refl, (refl, (refl, tt)))))
kind_word (kind.ThreeSum Concentrated) = plain_word _ _ (refl, (refl, (refl, (refl, (refl, (refl, (refl, (refl, (refl, (refl, (refl, (refl, tt))))))))))))
kind_word kind.Enumerated = plain_word _ _ (refl, (refl, (refl, (refl, (refl, (refl, (refl, (refl, (refl, (refl, tt))))))))))
kind_word kind.Violator = plain_word _ _ (refl, (refl, (refl, (refl, (refl, (refl, (refl, (refl, tt))))))))
kind_word kind.Undecided = plain_word _ _ (refl, (refl, (refl, (refl, (refl, (refl, (refl, (refl, (refl, tt)))))))))
kind_word kind.Pivoted = plain_word _ _ (refl, (refl, (refl, (refl, (refl, (refl, (refl, tt)))))))

line_word : (line : ℕ) → line < 1000 → IsWord (number_of_line line)
line_word line below = decimal_word (line + 1) (omega arith)

lines_words : (bound : ℕ) (lines : List ℕ) → bound ≤ 1000 → AllBelow bound lines → AreWords (map number_of_line lines)
lines_words bound [] few below = tt
lines_words bound (line ∷ lines) few below = (line_word line (let h = below 0 (omega arith) in omega (arith, h, few)), lines_words bound lines few (λ k h. below (suc k) (omega arith)))

pairs_words : (last : ℕ) (pairs : List Pair) → last ≤ 1000 → AllByRecursion (λ pair. (pair.tail ≤ last) × (pair.head ≤ last)) pairs → AreWords (flat_map pair_words pairs)
pairs_words last [] small all = tt
pairs_words last (pair ∷ pairs) small all = (
  decimal_word pair.tail (let h = all.0.0 in omega (arith, h, small)),
  (decimal_word pair.head (let h = all.0.1 in omega (arith, h, small)), pairs_words last pairs small all.1),
)

lettered : (b : ℕ) (line : ℕ) → is_space b ≡ false → line < 1000 → IsWord (b ∷ number_of_line line)
lettered b line none below = let w = line_word line below in plain_word b (number_of_line line) (none, w.solid)

line_for_words : (words : List (List ℕ)) → AreWords words → AllByRecursion AreWords (line_for words)
line_for_words [] all = tt
line_for_words (word ∷ words) all = (all, tt)

module _ (sizes : Sizes) (few_rows : sizes.rows ≤ 1000) (few_columns : sizes.columns ≤ 1000) where
  set_all : (whole : Option LineSet) (lines : LineSet) → IsSome sizes whole lines → AreWords (set_words lines)
  set_all whole lines some =
      let p = increasing_count sizes.rows lines.rows some.rows.increases some.rows.below in
      let q = increasing_count sizes.columns lines.columns some.columns.increases some.columns.below in (
        decimal_word (length lines.rows) (omega (arith, p, few_rows)),
        (
          decimal_word (length lines.columns) (omega (arith, q, few_columns)),
          all-append IsWord (map number_of_line lines.rows) (map number_of_line lines.columns) (lines_words sizes.rows lines.rows few_rows some.rows.below) (lines_words sizes.columns lines.columns few_columns some.columns.below),
        ),
      )

  own_all : (whole : Option LineSet) (lines : LineSet) (finding : Finding) (trees : Trees) → IsSome sizes whole lines → FitsLines lines finding trees → AreWords (own_words finding trees)
  own_all whole lines finding trees some fits = go finding fits
    where
      p : length lines.rows ≤ sizes.rows
      p = increasing_count sizes.rows lines.rows some.rows.increases some.rows.below

      q : length lines.columns ≤ sizes.columns
      q = increasing_count sizes.columns lines.columns some.columns.increases some.columns.below

      part : (set : LineSet) → AreLinesOf set lines → AreWords (set_words set)
      part set is = set_all (Some lines) set (some_from sizes few_rows few_columns lines some.rows.increases some.columns.increases some.rows.below some.columns.below set is)

      row : (line : ℕ) → Contains lines.rows line → line < 1000
      row line is = let h = contained_below sizes.rows lines.rows line some.rows.below is in omega (arith, h, few_rows)

      column : (line : ℕ) → Contains lines.columns line → line < 1000
      column line is = let h = contained_below sizes.columns lines.columns line some.columns.below is in omega (arith, h, few_columns)

      names : (steps : List Line) → AllByRecursion (HasLine lines.rows lines.columns) steps → AreWords (map line_name steps)
      names [] all = tt
      names (Row line ∷ steps) all = (lettered 114 line refl (row line all.0), names steps all.1)
      names (Column line ∷ steps) all = (lettered 99 line refl (column line all.0), names steps all.1)

      network : (arcs walks : ℕ) (n : net.Network) → arcs ≤ 1000 → HasArcsAndWalks arcs walks n → AreWords (network_words n)
      network arcs walks n small has = all-append IsWord (flat_map pair_words n.arcs) (flat_map pair_words n.walks) (pairs_words arcs n.arcs small has.arc_nodes) (pairs_words arcs n.walks small has.walk_nodes)

      connector : (flat : Bool) (c : Connector) → HasConnector flat lines.rows lines.columns c → AreWords (connector_words c)
      connector true c has = (line_word c.row (row c.row has.0), (line_word c.column (column c.column has.1), (line_word c.other (column c.other has.2), tt)))
      connector false c has = (line_word c.row (row c.row has.0), (line_word c.column (column c.column has.1), (line_word c.other (row c.other has.2), tt)))

      go : (finding : Finding) → FitsLines lines finding trees → AreWords (own_words finding trees)
      go Empty fits = tt
      go (Cycle fault) fits = part fault fits
      go (Reduced steps) fits = (decimal_word (length steps) (let h = fits.1 in omega (arith, h, p, q, few_rows, few_columns)), names steps fits.0)
      go OneSum fits = (decimal_word (count_trees trees) (omega (arith, fits, p, q, few_rows, few_columns)), tt)
      go (Network n) fits = network (length lines.rows) (length lines.columns) n (omega (arith, p, few_rows)) fits
      go (Conetwork n) fits = network (length lines.columns) (length lines.rows) n (omega (arith, q, few_columns)) fits
      go R10 fits = tt
      go (TwoSum t) fits = (line_word t.row (row t.row fits.1), (line_word t.column (column t.column fits.2), part t.side fits.0))
      go (ThreeSum t) fits =
          all-append IsWord (connector_words t.first) (connector_words t.second ++ set_words t.side) (connector (first_is_flat t.form) t.first fits.1) (all-append IsWord (connector_words t.second) (set_words t.side) (connector (second_is_flat t.form) t.second fits.2) (part t.side fits.0))
      go Enumerated fits = tt
      go (Violator fault) fits = part fault fits
      go Undecided fits = tt
      go (Pivoted place) fits = (line_word place.row (row place.row fits.0), (line_word place.column (column place.column fits.1), tt))

  mutual
    node_all : (levels : ℕ) (parent : Option LineSet) (tree : Tree) (whole : LineSet) → IsSome sizes parent (lines_at_root tree)
        → IsTreeWithin whole levels tree → AllByRecursion AreWords (node_lines tree)
    node_all levels parent (Branch lines finding trees) whole some (l, part, fits, children, below) = (
      (kind_word (kind_of finding), set_all parent lines some),
      all-append AreWords (line_for (own_words finding trees)) (forest_lines trees) (line_for_words (own_words finding trees) (own_all parent lines finding trees some fits)) (forest_all (levels - 1) lines trees some.rows.increases some.columns.increases some.rows.below some.columns.below below),
    )

    forest_all : (levels : ℕ) (lines : LineSet) (trees : Trees) → IsStrictlyIncreasing lines.rows → IsStrictlyIncreasing lines.columns
        → AllBelow sizes.rows lines.rows → AllBelow sizes.columns lines.columns → AreTreesWithin lines levels trees
        → AllByRecursion AreWords (forest_lines trees)
    forest_all levels lines NoTrees rows columns rows_in columns_in within = tt
    forest_all levels lines (MoreTrees tree trees) rows columns rows_in columns_in within =
        let some = some_from sizes few_rows few_columns lines rows columns rows_in columns_in (lines_at_root tree) (part_of lines levels tree within.0) in
        all-append AreWords (node_lines tree) (forest_lines trees) (node_all levels (Some lines) tree lines some within.0) (forest_all levels lines trees rows columns rows_in columns_in within.1)

-- the words before the root, with a reader for the root that inverts writing
titled_again : (v : Version) → title_in (title_word (title_of v)) ≡ Ok (title_of v)
titled_again version.One = refl
titled_again version.Two = refl
titled_again version.Pivoted = refl

versioned_again : (v : Version) → version_in (title_of v) (version_word v) ≡ Ok v
versioned_again version.One = refl
versioned_again version.Two = refl
versioned_again version.Pivoted = refl

whole_again : (read : Header → Reader Tree) (v : Version) (rows columns : ℕ) (root : Tree) (words : List (List ℕ)) → rows ≤ 1000 → columns ≤ 1000 → Again (read (record { version = v; sizes = record { rows = rows; columns = columns } })) words root → (size : ℕ) (opening : List (ℕ × List ℕ))
    → texts_of opening ≡ title_word (title_of v) ∷ version_word v ∷ decimal rows ∷ decimal columns ∷ words → read_whole read (record { size = size; words = opening }) ≡ Ok (record { rows = rows; columns = columns; root = root })
whole_again read v rows columns root words few_rows few_columns again size [] e = absurd (cc)
whole_again read v rows columns root words few_rows few_columns again size (a ∷ []) e = absurd (cc)
whole_again read v rows columns root words few_rows few_columns again size (a ∷ b ∷ []) e = absurd (cc)
whole_again read v rows columns root words few_rows few_columns again size (a ∷ b ∷ p ∷ []) e = absurd (cc)
whole_again read v rows columns root words few_rows few_columns again size (a ∷ b ∷ p ∷ q ∷ rest) e =
    let ae : a.1 ≡ title_word (title_of v) = cc in
    let be : b.1 ≡ version_word v = cc in
    let pe : p.1 ≡ decimal rows = cc in
    let qe : q.1 ≡ decimal columns = cc in
    let re : texts_of rest ≡ words = cc in
    let titled : title_in a.1 ≡ Ok (title_of v) = ap title_in ae ∙ titled_again v in
    let versioned : version_in (title_of v) b.1 ≡ Ok v = ap (version_in (title_of v)) be ∙ versioned_again v in
    let row_count : limited 1000 p.1 ≡ Ok rows = ap (limited 1000) pe ∙ limited_again 1000 rows few_rows (omega arith) in
    let column_count : limited 1000 q.1 ≡ Ok columns = ap (limited 1000) qe ∙ limited_again 1000 columns few_columns (omega arith) in
    let here : read (record { version = v; sizes = record { rows = rows; columns = columns } }) (record { size = size; words = rest }) ≡ Ok (root, record { size = size; words = [] }) =
    ap (λ ws. read (record { version = v; sizes = record { rows = rows; columns = columns } }) (record { size = size; words = ws })) (sym (append-nil rest)) ∙ again size rest [] re in
    rw (titled, versioned, row_count, column_count, here) refl

title_is_word : (v : Version) → IsWord (title_word (title_of v))
title_is_word version.One = plain_word _ _ (refl, (refl, (refl, (refl, (refl, (refl, (refl, (refl, tt))))))))
title_is_word version.Two = plain_word _ _ (refl, (refl, (refl, (refl, (refl, (refl, (refl, (refl, tt))))))))
title_is_word version.Pivoted = plain_word _ _ (refl, (refl, (refl, (refl, (refl, (refl, (refl, (refl, (refl, (refl, tt))))))))))

version_is_word : (v : Version) → IsWord (version_word v)
version_is_word version.One = plain_word _ _ (refl, tt)
version_is_word version.Two = plain_word _ _ (refl, tt)
version_is_word version.Pivoted = plain_word _ _ (refl, tt)

pub tree_again : (rows columns : ℕ) (root : Tree) → IsTreeFor rows columns root → tree (text_of (tree_text rows columns root)) ≡ Ok (record { rows = rows; columns = columns; root = root })
tree_again rows columns root is =
    let sizes : Sizes = record { rows = rows; columns = columns } in
    let part = part_of (lines_at_root root) 2001 root is.nodes in
    let some : IsSome sizes None (lines_at_root root) = record {
      rows = record { increases = part.rows_increase; below = is.root_rows; within = all_of (λ x. Unit {0}) (λ x. tt) (lines_at_root root).rows };
      columns = record { increases = part.columns_increase; below = is.root_columns; within = all_of (λ x. Unit {0}) (λ x. tt) (lines_at_root root).columns };
    } in
    let all : AllByRecursion AreWords (tree_lines rows columns root) = (
      (title_is_word (version_of root), (version_is_word (version_of root), tt)),
      (
        (decimal_word rows (let h = is.rows_in in omega (arith, h)), (decimal_word columns (let h = is.columns_in in omega (arith, h)), tt)),
        node_all sizes is.rows_in is.columns_in 2001 None root (lines_at_root root) some is.nodes,
      ),
    ) in
    let words = words_in_lines (tree_lines rows columns root) all ∙ ap (λ ws. title_word (title_of (version_of root)) ∷ version_word (version_of root) ∷ decimal rows ∷ decimal columns ∷ ws) (node_joined root) in
    whole_again (λ header. node header 2001 None) (version_of root) rows columns root (node_words root) is.rows_in is.columns_in (node_again (version_of root) sizes is.rows_in is.columns_in 2001 None root (lines_at_root root) (known root) some is.nodes) (length (tree_text rows columns root)) (words_from 0 (tree_text rows columns root)) words
