-- The greatest length of the text of a graph.
use Rattle.std.proofs.Common.{◌<◌, ◌≤◌, ◌+◌, ◌*◌, ◌++◌, ℕ, List, [], ◌∷◌, length, ap, arith, length-append}
use Rattle.std.specs.Fmt.{decimal}
use Rattle.std.proofs.lemmas.Fmt.{length-decimal-le_succ}
use Rattle.std.proofs.lemmas.List.Concat.{flat_map-append}
use Rattle.cmr_base.specs.declared.network.Pair.{Pair}
use Rattle.cmr_base.specs.Trees.{IsNetworkOf}
use Rattle.text_fields.specs.Written.{text_line, text_of_lines}
use Rattle.graph_text.specs.declared.read.SizedNetwork.{SizedNetwork}
use Rattle.graph_text.specs.GraphTexts.{column_letter, edge_lines, edge_words, graph_text, row_letter}
use Rattle.graph_text.proofs.WrittenEdges.{AreSmall, small_pairs}

line_short : (letter line : ℕ) (edge : Pair) → edge.tail ≤ 1000 → edge.head ≤ 1000 → line < 1000 → length (text_line (edge_words letter line edge)) ≤ 3007
line_short letter line edge low near few =
    let name = letter ∷ decimal (line + 1) in
    let t = length-decimal-le_succ edge.tail (omega (arith, low)) in
    let h = length-decimal-le_succ edge.head (omega (arith, near)) in
    let n = length-decimal-le_succ (line + 1) (omega (arith, few)) in
    let after = length-append (decimal edge.head) (32 ∷ name) in
    let words = length-append (decimal edge.tail) (32 ∷ (decimal edge.head ++ (32 ∷ name))) in
    let all = length-append (decimal edge.tail ++ (32 ∷ (decimal edge.head ++ (32 ∷ name)))) (10 ∷ []) in
    omega arith

lines_short : (letter line : ℕ) (edges : List Pair) → line + length edges ≤ 1000 → AreSmall edges → length (text_of_lines (edge_lines letter line edges)) ≤ 3007 * length edges
lines_short letter line [] few small = omega arith
lines_short letter line (edge ∷ edges) few small =
    let first = line_short letter line edge (small.0).0 (small.0).1 (omega (arith, few)) in
    let others = lines_short letter (line + 1) edges (omega (arith, few)) small.1 in
    let both = length-append (text_line (edge_words letter line edge)) (text_of_lines (edge_lines letter (line + 1) edges)) in
    omega arith

-- at most the length of a file of a matrix
pub graph_text_within : (net : SizedNetwork) → net.rows ≤ 1000 → net.columns ≤ 1000 → IsNetworkOf net.net net.rows net.columns → length (graph_text net.net) ≤ 16777216
graph_text_within net few near is =
    let arcs = net.net.arcs in
    let walks = net.net.walks in
    let row_lines = edge_lines row_letter 0 arcs in
    let column_lines = edge_lines column_letter 0 walks in
    let tree = is.tree in
    let row_count = tree.count in
    let column_count = is.count in
    let small_arcs = small_pairs net.rows arcs few (λ k l. tree.nodes k (omega (arith, l, row_count))) in
    let small_walks = small_pairs net.rows walks few (λ k l. is.nodes k (omega (arith, l, column_count))) in
    let rows = lines_short row_letter 0 arcs (omega (arith, few, row_count)) small_arcs in
    let columns = lines_short column_letter 0 walks (omega (arith, near, column_count)) small_walks in
    let whole = ap length (flat_map-append text_line row_lines column_lines) in
    let both = length-append (text_of_lines row_lines) (text_of_lines column_lines) in
    omega arith
