-- A tree that was read has the properties of all trees.
use Rattle.std.proofs.Common.{◌≡◌, ◌≤◌, ◌-◌, ◌∙◌, ℕ, zero, suc, Bool, true, false, List, [], ◌∷◌, ◌++◌, length, Contains, Option, Some, None, Result, Ok, refl, ap, sym, subst, arith}
use Rattle.std.specs.Prelude.{option_map}
use Rattle.std.specs.List.{AllByRecursion}
use Rattle.std.specs.List.Sorted.{IsStrictlyIncreasing}
use Rattle.std.proofs.lemmas.List.{length_push}
use Rattle.cmr_base.specs.declared.line.Line.{Line}
use Rattle.cmr_base.specs.declared.line_set.LineSet.{LineSet}
use Rattle.cmr_base.specs.declared.network.Network as net
use Rattle.cmr_base.specs.declared.network.Pair.{Pair}
use Rattle.cmr_base.specs.declared.separation.Connector.{Connector}
use Rattle.cmr_base.specs.declared.separation.Two.{Two}
use Rattle.cmr_base.specs.declared.separation.Three.{Three}
use Rattle.cmr_base.specs.declared.position.Position.{Position}
use Rattle.cmr_base.specs.declared.separation.Form.{Form}
use Rattle.cmr_base.specs.LineSets.{AllBelow}
use Rattle.cmr_base.specs.Reductions.{HasLine}
use Rattle.cmr_base.specs.Separations.{first_is_flat, second_is_flat}
use Rattle.tree_type.specs.Sides.{HasConnector}
use Rattle.cmr_base.proofs.Lists.{all-append, all_contained}
use Rattle.cmr_base.proofs.IncreasingLists.{IncreasesIn, increases_along, increasing_in_range}
use Rattle.text_fields.specs.TextWords.{Text}
use Rattle.text_fields.specs.Result.{◌>>=◌}
use Rattle.text_fields.specs.Reading.{Fault, field, times, fields}
use Rattle.text_fields.proofs.Fields.{field_ok, fields_ok}
use Rattle.text_fields.proofs.Results.{bind_ok, ok_same}
use Rattle.text_fields.specs.Spelling.{texts_of}
use Rattle.tree_type.specs.DecompositionTrees.{Finding, Empty, Cycle, Reduced, OneSum, Network, Conetwork, R10, TwoSum, ThreeSum, Enumerated, Violator, Undecided, Pivoted, Tree, Trees, Branch, trees_from, count_trees, lines_at_root}
use Rattle.tree_type.specs.Invariant.{AreLinesOf, HasArcsAndWalks, size_of, FitsLines, HasChildren, IsTreeWithin, AreTreesWithin, IsTreeFor}
use Rattle.tree_type.proofs.Forests.{count_list}
use Rattle.tree_text.specs.declared.error.TreeKind.{TreeKind}
use Rattle.tree_text.specs.declared.error.TreeKind.TheVariants.{Short}
use Rattle.tree_text.specs.declared.kind_word.KindWord.{KindWord}
use Rattle.tree_text.specs.declared.kind_word.KindWord.TheVariants as kind
use Rattle.tree_text.specs.declared.value.Sizes.{Sizes}
use Rattle.tree_text.specs.declared.header.Header.{Header}
use Rattle.tree_text.specs.declared.header.Version.{Version}
use Rattle.tree_text.specs.ReadFindings.{NodeOpening}
use Rattle.tree_text.specs.KindWords.{kind_in}
use Rattle.tree_text.specs.TreeValues.{limited, line_of, step_in}
use Rattle.tree_text.specs.TreeReading.{increasing_lines, line_set, another_pair, network, connector, two, three, pivot_place, own_part, opening, another_tree, too_deep, node}
use Rattle.tree_text.proofs.WordsRead.{times_keep, spelled_all, limited_ok, IsAmong, line_of_ok, step_ok, lines_ok}

-- a value that a field has read
pub field_value : {A : Type 0} (parse : List ℕ → Result A TreeKind) (P : A → Type 0) → ((word : List ℕ) (x : A) → parse word ≡ Ok x → P x)
    → (text : Text) (x : A × Text) → field Short parse text ≡ Ok x → P x.0
field_value parse P each text x h = let f = field_ok Short parse text x.0 x.1 h in each f.word.1 x.0 f.parsed

-- an increasing list of lines below a bound, all of them among the lines of `whole`
pub record AreSome (most : ℕ) (whole : Option (List ℕ)) (lines : List ℕ) : Type 0 where
  pub increases : IsStrictlyIncreasing lines
  pub below : AllBelow most lines
  pub within : AllByRecursion (IsAmong whole) lines

increasing_ok : (most : ℕ) (whole : Option (List ℕ)) (n : ℕ) (text : Text) (lines : List ℕ × Text) → increasing_lines most whole n text ≡ Ok lines → AreSome most whole lines.0
increasing_ok most whole n text lines h =
    let read = lines_ok most whole n [] text lines.0 lines.1 h in
    let increases : IncreasesIn 0 most lines.0 = subst (IncreasesIn 0 most) (sym read.lines_are) read.increases in
    record {
      increases = increases_along 0 most lines.0 increases;
      below = increasing_in_range 0 most lines.0 increases;
      within = subst (AllByRecursion (IsAmong whole)) (sym read.lines_are) read.within;
    }

pub record IsSome (sizes : Sizes) (whole : Option LineSet) (lines : LineSet) : Type 0 where
  pub rows : AreSome sizes.rows (option_map (λ lines. lines.rows) whole) lines.rows
  pub columns : AreSome sizes.columns (option_map (λ lines. lines.columns) whole) lines.columns

pub line_set_ok : (sizes : Sizes) (whole : Option LineSet) (text : Text) (lines : LineSet × Text) → line_set sizes whole text ≡ Ok lines → IsSome sizes whole lines.0
line_set_ok sizes whole text lines h =
    let whole_rows = option_map (λ (lines : LineSet). lines.rows) whole in
    let whole_columns = option_map (λ (lines : LineSet). lines.columns) whole in
    let p = bind_ok (field Short (limited sizes.rows) text) (λ (p : ℕ × Text). field Short (limited sizes.columns) p.1 >>= λ (q : ℕ × Text). increasing_lines sizes.rows whole_rows p.0 q.1 >>= λ (rows : List ℕ × Text). increasing_lines sizes.columns whole_columns q.0 rows.1 >>= λ (columns : List ℕ × Text). Ok (record { rows = rows.0; columns = columns.0 }, columns.1)) lines h in
    let q = bind_ok (field Short (limited sizes.columns) p.0.1) (λ (q : ℕ × Text). increasing_lines sizes.rows whole_rows p.0.0 q.1 >>= λ (rows : List ℕ × Text). increasing_lines sizes.columns whole_columns q.0 rows.1 >>= λ (columns : List ℕ × Text). Ok (record { rows = rows.0; columns = columns.0 }, columns.1)) lines p.2 in
    let rows = bind_ok (increasing_lines sizes.rows whole_rows p.0.0 q.0.1) (λ (rows : List ℕ × Text). increasing_lines sizes.columns whole_columns q.0.0 rows.1 >>= λ (columns : List ℕ × Text). Ok (record { rows = rows.0; columns = columns.0 }, columns.1)) lines q.2 in
    let columns = bind_ok (increasing_lines sizes.columns whole_columns q.0.0 rows.0.1) (λ (columns : List ℕ × Text). Ok (record { rows = rows.0.0; columns = columns.0 }, columns.1)) lines rows.2 in
    let made : LineSet = record { rows = rows.0.0; columns = columns.0.0 } in
    let e = ok_same (made, columns.0.1) lines columns.2 in
    subst (IsSome sizes whole) (ap (λ (p : LineSet × Text). p.0) e) (record {
      rows = increasing_ok sizes.rows whole_rows p.0.0 q.0.1 rows.0 rows.1;
      columns = increasing_ok sizes.columns whole_columns q.0.0 rows.0.1 columns.0 columns.1;
    })

lines_of_whole : (sizes : Sizes) (whole lines : LineSet) → IsSome sizes (Some whole) lines → AreLinesOf lines whole
lines_of_whole sizes whole lines some = record {
  rows_increase = some.rows.increases;
  columns_increase = some.columns.increases;
  rows = λ row h. all_contained (Contains whole.rows) lines.rows row some.rows.within h;
  columns = λ column h. all_contained (Contains whole.columns) lines.columns column some.columns.within h;
}

pairs_ok : (last n : ℕ) (text : Text) (pairs : List Pair × Text) → times (another_pair last) n [] text ≡ Ok pairs
    → (length pairs.0 ≡ n) × AllByRecursion (λ pair. (pair.tail ≤ last) × (pair.head ≤ last)) pairs.0
pairs_ok last n text pairs h =
    let all = times_keep (another_pair last) (λ k pairs. (length pairs ≡ k) × AllByRecursion (λ pair. (pair.tail ≤ last) × (pair.head ≤ last)) pairs) keeps n 0 [] text pairs.0 pairs.1 (refl, tt) h in
    (let e = all.0 in omega (arith, e), all.1)
  where
    keeps : (k : ℕ) (s : List Pair) (text : Text) (next : List Pair) (rest : Text)
        → (length s ≡ k) × AllByRecursion (λ pair. (pair.tail ≤ last) × (pair.head ≤ last)) s → another_pair last s text ≡ Ok (next, rest)
        → (length next ≡ suc k) × AllByRecursion (λ pair. (pair.tail ≤ last) × (pair.head ≤ last)) next
    keeps k s text next rest held made =
        let tail = bind_ok (field Short (limited last) text) (λ (tail : ℕ × Text). field Short (limited last) tail.1 >>= λ (head : ℕ × Text). Ok (s ++ (record { tail = tail.0; head = head.0 }) ∷ [], head.1)) (next, rest) made in
        let head = bind_ok (field Short (limited last) tail.0.1) (λ (head : ℕ × Text). Ok (s ++ (record { tail = tail.0.0; head = head.0 }) ∷ [], head.1)) (next, rest) tail.2 in
        let pair : Pair = record { tail = tail.0.0; head = head.0.0 } in
        let e = ap (λ (p : List Pair × Text). p.0) (ok_same (s ++ pair ∷ [], head.0.1) (next, rest) head.2) in
        let low = field_value (limited last) (λ n. n ≤ last) (limited_ok last) text tail.0 tail.1 in
        let high = field_value (limited last) (λ n. n ≤ last) (limited_ok last) tail.0.1 head.0 head.1 in
        subst (λ ps. (length ps ≡ suc k) × AllByRecursion (λ pair. (pair.tail ≤ last) × (pair.head ≤ last)) ps) e (
          (let l = length_push s pair in let h = held.0 in omega (arith, l, h)),
          all-append (λ pair. (pair.tail ≤ last) × (pair.head ≤ last)) s (pair ∷ []) held.1 ((low, high), tt),
        )

network_ok : (arcs walks : ℕ) (text : Text) (n : net.Network × Text) → network arcs walks text ≡ Ok n → HasArcsAndWalks arcs walks n.0
network_ok arc_count walk_count text n h =
    let arcs = bind_ok (times (another_pair arc_count) arc_count [] text) (λ (arcs : List Pair × Text). times (another_pair arc_count) walk_count [] arcs.1 >>= λ (walks : List Pair × Text). Ok (record { arcs = arcs.0; walks = walks.0 }, walks.1)) n h in
    let walks = bind_ok (times (another_pair arc_count) walk_count [] arcs.0.1) (λ (walks : List Pair × Text). Ok (record { arcs = arcs.0.0; walks = walks.0 }, walks.1)) n arcs.2 in
    let made : net.Network = record { arcs = arcs.0.0; walks = walks.0.0 } in
    let e = ap (λ (p : net.Network × Text). p.0) (ok_same (made, walks.0.1) n walks.2) in
    let first = pairs_ok arc_count arc_count text arcs.0 arcs.1 in
    let second = pairs_ok arc_count walk_count arcs.0.1 walks.0 walks.1 in
    subst (HasArcsAndWalks arc_count walk_count) e (record { arc_count = first.0; walk_count = second.0; arc_nodes = first.1; walk_nodes = second.1 })

module _ (sizes : Sizes) (lines : LineSet) where
  row_ok : (text : Text) (x : ℕ × Text) → field Short (line_of sizes.rows lines.rows) text ≡ Ok x → Contains lines.rows x.0
  row_ok text x h = field_value (line_of sizes.rows lines.rows) (Contains lines.rows) (line_of_ok sizes.rows lines.rows) text x h

  column_ok : (text : Text) (x : ℕ × Text) → field Short (line_of sizes.columns lines.columns) text ≡ Ok x → Contains lines.columns x.0
  column_ok text x h = field_value (line_of sizes.columns lines.columns) (Contains lines.columns) (line_of_ok sizes.columns lines.columns) text x h

  connector_ok : (flat : Bool) (text : Text) (found : Connector × Text) → connector sizes lines flat text ≡ Ok found → HasConnector flat lines.rows lines.columns found.0
  connector_ok true text found h =
      let row = bind_ok (field Short (line_of sizes.rows lines.rows) text) (λ (row : ℕ × Text). field Short (line_of sizes.columns lines.columns) row.1 >>= λ (column : ℕ × Text). field Short (line_of sizes.columns lines.columns) column.1 >>= λ (other : ℕ × Text). Ok (record { row = row.0; column = column.0; other = other.0 }, other.1)) found h in
      let column = bind_ok (field Short (line_of sizes.columns lines.columns) row.0.1) (λ (column : ℕ × Text). field Short (line_of sizes.columns lines.columns) column.1 >>= λ (other : ℕ × Text). Ok (record { row = row.0.0; column = column.0; other = other.0 }, other.1)) found row.2 in
      let other = bind_ok (field Short (line_of sizes.columns lines.columns) column.0.1) (λ (other : ℕ × Text). Ok (record { row = row.0.0; column = column.0.0; other = other.0 }, other.1)) found column.2 in
      let made : Connector = record { row = row.0.0; column = column.0.0; other = other.0.0 } in
      let e = ap (λ (p : Connector × Text). p.0) (ok_same (made, other.0.1) found other.2) in
      subst (HasConnector true lines.rows lines.columns) e (row_ok text row.0 row.1, column_ok row.0.1 column.0 column.1, column_ok column.0.1 other.0 other.1)
  connector_ok false text found h =
      let row = bind_ok (field Short (line_of sizes.rows lines.rows) text) (λ (row : ℕ × Text). field Short (line_of sizes.columns lines.columns) row.1 >>= λ (column : ℕ × Text). field Short (line_of sizes.rows lines.rows) column.1 >>= λ (other : ℕ × Text). Ok (record { row = row.0; column = column.0; other = other.0 }, other.1)) found h in
      let column = bind_ok (field Short (line_of sizes.columns lines.columns) row.0.1) (λ (column : ℕ × Text). field Short (line_of sizes.rows lines.rows) column.1 >>= λ (other : ℕ × Text). Ok (record { row = row.0.0; column = column.0; other = other.0 }, other.1)) found row.2 in
      let other = bind_ok (field Short (line_of sizes.rows lines.rows) column.0.1) (λ (other : ℕ × Text). Ok (record { row = row.0.0; column = column.0.0; other = other.0 }, other.1)) found column.2 in
      let made : Connector = record { row = row.0.0; column = column.0.0; other = other.0.0 } in
      let e = ap (λ (p : Connector × Text). p.0) (ok_same (made, other.0.1) found other.2) in
      subst (HasConnector false lines.rows lines.columns) e (row_ok text row.0 row.1, column_ok row.0.1 column.0 column.1, row_ok column.0.1 other.0 other.1)

  set_ok : (text : Text) (set : LineSet × Text) → line_set sizes (Some lines) text ≡ Ok set → AreLinesOf set.0 lines
  set_ok text set h = lines_of_whole sizes lines set.0 (line_set_ok sizes (Some lines) text set h)

  two_ok : (text : Text) (found : Two × Text) → two sizes lines text ≡ Ok found → (trees : Trees) → FitsLines lines (TwoSum found.0) trees
  two_ok text found h trees =
      let row = bind_ok (field Short (line_of sizes.rows lines.rows) text) (λ (row : ℕ × Text). field Short (line_of sizes.columns lines.columns) row.1 >>= λ (column : ℕ × Text). line_set sizes (Some lines) column.1 >>= λ (side : LineSet × Text). Ok (record { side = side.0; row = row.0; column = column.0 }, side.1)) found h in
      let column = bind_ok (field Short (line_of sizes.columns lines.columns) row.0.1) (λ (column : ℕ × Text). line_set sizes (Some lines) column.1 >>= λ (side : LineSet × Text). Ok (record { side = side.0; row = row.0.0; column = column.0 }, side.1)) found row.2 in
      let side = bind_ok (line_set sizes (Some lines) column.0.1) (λ (side : LineSet × Text). Ok (record { side = side.0; row = row.0.0; column = column.0.0 }, side.1)) found column.2 in
      let made : Two = record { side = side.0.0; row = row.0.0; column = column.0.0 } in
      let e = ap (λ (p : Two × Text). p.0) (ok_same (made, side.0.1) found side.2) in
      subst (λ two. FitsLines lines (TwoSum two) trees) e (set_ok column.0.1 side.0 side.1, row_ok text row.0 row.1, column_ok row.0.1 column.0 column.1)

  place_ok : (text : Text) (found : Position × Text) → pivot_place sizes lines text ≡ Ok found → Contains lines.rows found.0.row × Contains lines.columns found.0.column
  place_ok text found h =
      let row = bind_ok (field Short (line_of sizes.rows lines.rows) text) (λ (row : ℕ × Text). field Short (line_of sizes.columns lines.columns) row.1 >>= λ (column : ℕ × Text). Ok (record { row = row.0; column = column.0 }, column.1)) found h in
      let column = bind_ok (field Short (line_of sizes.columns lines.columns) row.0.1) (λ (column : ℕ × Text). Ok (record { row = row.0.0; column = column.0 }, column.1)) found row.2 in
      let made : Position = record { row = row.0.0; column = column.0.0 } in
      let e = ap (λ (p : Position × Text). p.0) (ok_same (made, column.0.1) found column.2) in
      subst (λ (place : Position). Contains lines.rows place.row × Contains lines.columns place.column) e (row_ok text row.0 row.1, column_ok row.0.1 column.0 column.1)

  three_ok : (form : Form) (text : Text) (found : Three × Text) → three sizes lines form text ≡ Ok found → (trees : Trees) → FitsLines lines (ThreeSum found.0) trees
  three_ok form text found h trees =
      let first = bind_ok (connector sizes lines (first_is_flat form) text) (λ (first : Connector × Text). connector sizes lines (second_is_flat form) first.1 >>= λ (second : Connector × Text). line_set sizes (Some lines) second.1 >>= λ (side : LineSet × Text). Ok (record { form = form; side = side.0; first = first.0; second = second.0 }, side.1)) found h in
      let second = bind_ok (connector sizes lines (second_is_flat form) first.0.1) (λ (second : Connector × Text). line_set sizes (Some lines) second.1 >>= λ (side : LineSet × Text). Ok (record { form = form; side = side.0; first = first.0.0; second = second.0 }, side.1)) found first.2 in
      let side = bind_ok (line_set sizes (Some lines) second.0.1) (λ (side : LineSet × Text). Ok (record { form = form; side = side.0; first = first.0.0; second = second.0.0 }, side.1)) found second.2 in
      let made : Three = record { form = form; side = side.0.0; first = first.0.0; second = second.0.0 } in
      let e = ap (λ (p : Three × Text). p.0) (ok_same (made, side.0.1) found side.2) in
      subst (λ three. FitsLines lines (ThreeSum three) trees) e (set_ok second.0.1 side.0 side.1, connector_ok (first_is_flat form) text first.0 first.1, connector_ok (second_is_flat form) first.0.1 second.0 second.1)

  -- the finding fits the lines, whatever the children, if their number is right
  abbrev IsFitting : Finding × ℕ → Type 0
  IsFitting own = (trees : Trees) → count_trees trees ≡ own.1 → FitsLines lines own.0 trees × HasChildren own.0 (count_trees trees)

  fitting_from : (own : Finding × ℕ) (rest : Text) (found : (Finding × ℕ) × Text) → ◌≡◌ {A = Result ((Finding × ℕ) × Text) (Fault TreeKind)} (Ok (own, rest)) (Ok found) → IsFitting own → IsFitting found.0
  fitting_from own rest found h fits = subst IsFitting (ap (λ (p : (Finding × ℕ) × Text). p.0) (ok_same (own, rest) found h)) fits

  own_part_ok : (kind : KindWord) (text : Text) (found : (Finding × ℕ) × Text) → own_part sizes lines kind text ≡ Ok found → IsFitting found.0
  own_part_ok kind.Empty text found h = fitting_from (Empty, 0) text found h (λ trees e. (tt, e))
  own_part_ok kind.Cycle text found h =
      let fault = bind_ok (line_set sizes (Some lines) text) (λ (fault : LineSet × Text). Ok ((Cycle fault.0, 0), fault.1)) found h in
      fitting_from (Cycle fault.0.0, 0) fault.0.1 found fault.2 (λ trees e. (set_ok text fault.0 fault.1, e))
  own_part_ok kind.Reduced text found h =
      let count = bind_ok (field Short (limited (size_of lines)) text) (λ (count : ℕ × Text). fields Short (step_in sizes lines) count.0 count.1 >>= λ (steps : List Line × Text). Ok ((Reduced steps.0, 1), steps.1)) found h in
      let steps = bind_ok (fields Short (step_in sizes lines) count.0.0 count.0.1) (λ (steps : List Line × Text). Ok ((Reduced steps.0, 1), steps.1)) found count.2 in
      let few = field_value (limited (size_of lines)) (λ n. n ≤ size_of lines) (limited_ok (size_of lines)) text count.0 count.1 in
      let read = fields_ok Short (step_in sizes lines) count.0.0 [] count.0.1 steps.0.0 steps.0.1 steps.1 in
      let all = spelled_all (step_in sizes lines) (HasLine lines.rows lines.columns) (step_ok sizes lines) (texts_of read.prefix) read.read read.spell in
      fitting_from (Reduced steps.0.0, 1) steps.0.1 found steps.2 (λ trees e. (
        (subst (AllByRecursion (HasLine lines.rows lines.columns)) (sym read.values_are) all, (let n = ap length read.values_are ∙ read.count in omega (arith, n, few))),
        e,
      ))
  own_part_ok kind.OneSum text found h =
      let count = bind_ok (field Short (limited (size_of lines)) text) (λ (count : ℕ × Text). Ok ((OneSum, count.0), count.1)) found h in
      let few = field_value (limited (size_of lines)) (λ n. n ≤ size_of lines) (limited_ok (size_of lines)) text count.0 count.1 in
      fitting_from (OneSum, count.0.0) count.0.1 found count.2 (λ trees e. (omega (arith, e, few), tt))
  own_part_ok kind.Network text found h =
      let n = bind_ok (network (length lines.rows) (length lines.columns) text) (λ (found : net.Network × Text). Ok ((Network found.0, 0), found.1)) found h in
      fitting_from (Network n.0.0, 0) n.0.1 found n.2 (λ trees e. (network_ok (length lines.rows) (length lines.columns) text n.0 n.1, e))
  own_part_ok kind.Conetwork text found h =
      let n = bind_ok (network (length lines.columns) (length lines.rows) text) (λ (found : net.Network × Text). Ok ((Conetwork found.0, 0), found.1)) found h in
      fitting_from (Conetwork n.0.0, 0) n.0.1 found n.2 (λ trees e. (network_ok (length lines.columns) (length lines.rows) text n.0 n.1, e))
  own_part_ok kind.R10 text found h = fitting_from (R10, 0) text found h (λ trees e. (tt, e))
  own_part_ok kind.TwoSum text found h =
      let sum = bind_ok (two sizes lines text) (λ (found : Two × Text). Ok ((TwoSum found.0, 2), found.1)) found h in
      fitting_from (TwoSum sum.0.0, 2) sum.0.1 found sum.2 (λ trees e. (two_ok text sum.0 sum.1 trees, e))
  own_part_ok (kind.ThreeSum form) text found h =
      let sum = bind_ok (three sizes lines form text) (λ (found : Three × Text). Ok ((ThreeSum found.0, 2), found.1)) found h in
      fitting_from (ThreeSum sum.0.0, 2) sum.0.1 found sum.2 (λ trees e. (three_ok form text sum.0 sum.1 trees, e))
  own_part_ok kind.Enumerated text found h = fitting_from (Enumerated, 0) text found h (λ trees e. (tt, e))
  own_part_ok kind.Violator text found h =
      let fault = bind_ok (line_set sizes (Some lines) text) (λ (fault : LineSet × Text). Ok ((Violator fault.0, 0), fault.1)) found h in
      fitting_from (Violator fault.0.0, 0) fault.0.1 found fault.2 (λ trees e. (set_ok text fault.0 fault.1, e))
  own_part_ok kind.Undecided text found h = fitting_from (Undecided, 0) text found h (λ trees e. (tt, e))
  own_part_ok kind.Pivoted text found h =
      let place = bind_ok (pivot_place sizes lines text) (λ (found : Position × Text). Ok ((Pivoted found.0, 1), found.1)) found h in
      fitting_from (Pivoted place.0.0, 1) place.0.1 found place.2 (λ trees e. (place_ok text place.0 place.1, e))

-- the opening of a node that was read
record IsOpening (sizes : Sizes) (parent : Option LineSet) (head : NodeOpening) : Type 0 where
  lines : IsSome sizes parent head.lines
  fits : (trees : Trees) → count_trees trees ≡ head.children → FitsLines head.lines head.finding trees × HasChildren head.finding (count_trees trees)

opening_ok : (header : Header) (parent : Option LineSet) (text : Text) (head : NodeOpening × Text) → opening header parent text ≡ Ok head → IsOpening header.sizes parent head.0
opening_ok header parent text head h =
    let sizes = header.sizes in
    let kind = bind_ok (field Short (kind_in header.version) text) (λ (kind : KindWord × Text). line_set sizes parent kind.1 >>= λ (lines : LineSet × Text). own_part sizes lines.0 kind.0 lines.1 >>= λ (own : (Finding × ℕ) × Text). Ok (record { lines = lines.0; finding = (own.0).0; children = (own.0).1 }, own.1)) head h in
    let lines = bind_ok (line_set sizes parent kind.0.1) (λ (lines : LineSet × Text). own_part sizes lines.0 kind.0.0 lines.1 >>= λ (own : (Finding × ℕ) × Text). Ok (record { lines = lines.0; finding = (own.0).0; children = (own.0).1 }, own.1)) head kind.2 in
    let own = bind_ok (own_part sizes lines.0.0 kind.0.0 lines.0.1) (λ (own : (Finding × ℕ) × Text). Ok (record { lines = lines.0.0; finding = (own.0).0; children = (own.0).1 }, own.1)) head lines.2 in
    let made : NodeOpening = record { lines = lines.0.0; finding = (own.0.0).0; children = (own.0.0).1 } in
    let e = ap (λ (p : NodeOpening × Text). p.0) (ok_same (made, own.0.1) head own.2) in
    subst (IsOpening sizes parent) e (record { lines = line_set_ok sizes parent kind.0.1 lines.0 lines.1; fits = own_part_ok sizes lines.0.0 kind.0.0 lines.0.1 own.0 own.1 })

trees_push : (parent : LineSet) (levels : ℕ) (trees : List Tree) (tree : Tree) → AreTreesWithin parent levels (trees_from trees)
    → IsTreeWithin parent levels tree → AreTreesWithin parent levels (trees_from (trees ++ tree ∷ []))
trees_push parent levels [] tree all one = (one, tt)
trees_push parent levels (first ∷ trees) tree all one = (all.0, trees_push parent levels trees tree all.1 one)

-- a node that was read: its lines are lines of the parent, and the rest is as in every tree
record IsRead (sizes : Sizes) (levels : ℕ) (parent : Option LineSet) (tree : Tree) : Type 0 where
  lines : IsSome sizes parent (lines_at_root tree)
  within : (whole : LineSet) → AreLinesOf (lines_at_root tree) whole → IsTreeWithin whole levels tree

child_kept : (header : Header) (levels : ℕ) (lines : LineSet) → ((text : Text) (tree : Tree × Text) → node header levels (Some lines) text ≡ Ok tree → IsRead header.sizes levels (Some lines) tree.0)
    → (k : ℕ) (s : List Tree) (text : Text) (next : List Tree) (rest : Text) → (length s ≡ k) × AreTreesWithin lines levels (trees_from s)
    → another_tree (node header levels (Some lines)) s text ≡ Ok (next, rest)
    → (length next ≡ suc k) × AreTreesWithin lines levels (trees_from next)
child_kept header levels lines each k s text next rest held made =
    let one = bind_ok (node header levels (Some lines) text) (λ (tree : Tree × Text). Ok (s ++ tree.0 ∷ [], tree.1)) (next, rest) made in
    let e = ap (λ (p : List Tree × Text). p.0) (ok_same (s ++ one.0.0 ∷ [], one.0.1) (next, rest) one.2) in
    let is = each text one.0 one.1 in
    let tree = is.within lines (lines_of_whole header.sizes lines (lines_at_root one.0.0) is.lines) in
    subst (λ trees. (length trees ≡ suc k) × AreTreesWithin lines levels (trees_from trees)) e (
      (let l = length_push s one.0.0 in let h = held.0 in omega (arith, l, h)),
      trees_push lines levels s one.0.0 held.1 tree,
    )

node_ok : (header : Header) (levels : ℕ) (parent : Option LineSet) (text : Text) (tree : Tree × Text) → node header levels parent text ≡ Ok tree → IsRead header.sizes levels parent tree.0
node_ok header zero parent text tree h = absurd (let f = field_ok Short too_deep text tree.0 tree.1 h in let p = f.parsed in cc)
node_ok header (suc levels) parent text tree h =
    let head = bind_ok (opening header parent text) (λ (head : NodeOpening × Text). times (another_tree (node header levels (Some (head.0).lines))) (head.0).children [] head.1 >>= λ (children : List Tree × Text). Ok (Branch (head.0).lines (head.0).finding (trees_from children.0), children.1)) tree h in
    let lines = (head.0.0).lines in
    let finding = (head.0.0).finding in
    let count = (head.0.0).children in
    let children = bind_ok (times (another_tree (node header levels (Some lines))) count [] head.0.1) (λ (children : List Tree × Text). Ok (Branch lines finding (trees_from children.0), children.1)) tree head.2 in
    let e = ap (λ (p : Tree × Text). p.0) (ok_same (Branch lines finding (trees_from children.0.0), children.0.1) tree children.2) in
    let is = opening_ok header parent text head.0 head.1 in
    let all = times_keep (another_tree (node header levels (Some lines))) (λ k trees. (length trees ≡ k) × AreTreesWithin lines levels (trees_from trees)) (child_kept header levels lines (λ text tree. node_ok header levels (Some lines) text tree)) count 0 [] head.0.1 children.0.0 children.0.1 (refl, tt) children.1 in
    let counted : count_trees (trees_from children.0.0) ≡ count = (let n = count_list children.0.0 in let m = all.0 in omega (arith, n, m)) in
    let fits = is.fits (trees_from children.0.0) counted in
    let same : suc levels - 1 ≡ levels = omega arith in
    subst (IsRead header.sizes (suc levels) parent) e (record { lines = is.lines; within = λ whole part. (omega arith, part, fits.0, fits.1, subst (λ k. AreTreesWithin lines k (trees_from children.0.0)) (sym same) all.1) })

itself : (lines : LineSet) → IsStrictlyIncreasing lines.rows → IsStrictlyIncreasing lines.columns → AreLinesOf lines lines
itself lines rows columns = record { rows_increase = rows; columns_increase = columns; rows = λ row h. h; columns = λ column h. h }

-- a root that was read is a tree for a matrix of these sizes
pub root_ok : (version : Version) (rows columns : ℕ) (text : Text) (tree : Tree) (rest : Text) → rows ≤ 1000 → columns ≤ 1000
    → node (record { version = version; sizes = record { rows = rows; columns = columns } }) 2001 None text ≡ Ok (tree, rest) → IsTreeFor rows columns tree
root_ok version rows columns text tree rest few_rows few_columns h =
    let is = node_ok (record { version = version; sizes = record { rows = rows; columns = columns } }) 2001 None text (tree, rest) h in record {
      rows_in = few_rows;
      columns_in = few_columns;
      root_rows = is.lines.rows.below;
      root_columns = is.lines.columns.below;
      nodes = is.within (lines_at_root tree) (itself (lines_at_root tree) is.lines.rows.increases is.lines.columns.increases);
    }
