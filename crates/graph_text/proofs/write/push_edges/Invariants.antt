use Rattle.std.proofs.Common.{◌≡◌, ◌++◌, take}
use Rattle.text_fields.specs.Written.{text_of_lines}
use Rattle.graph_text.specs.GraphTexts.{edge_lines}
use Rattle.graph_text.proofs.write.push_edges.Given as goal

-- the edges so far
abbrev pub invariant-loop-line : goal.invariant-loop-line
invariant-loop-line l = l.text.items ≡ l.fn.text.items ++ text_of_lines (edge_lines l.letter 0 (take l.line l.edges))
