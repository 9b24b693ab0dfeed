use Rattle.std.proofs.Common.{◌≡◌, ◌≤◌, length}
use Rattle.graph_text.specs.GraphReading.{edges_from, no_edges}
use Rattle.graph_text.proofs.read.read_edges.Given as goal

-- the reading of the remaining words gives the whole reading
abbrev pub invariant-edges : goal.invariant-edges
invariant-edges l = record {
  size : l.words.size ≡ l.fn.words.size;
  read : edges_from l.fn.words.size l.edges l.words.words ≡ edges_from l.fn.words.size no_edges l.fn.words.words;
  rows : length l.edges.rows ≤ 1000;
  columns : length l.edges.columns ≤ 1000;
}

abbrev pub decreases-edges : goal.decreases-edges
decreases-edges l = length l.words.words
