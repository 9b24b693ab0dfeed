use Rattle.std.proofs.Common.{◌++◌, ◌∙◌, List, ℕ, Ok, length, ap, sym, subst}
use Rattle.std.proofs.lemmas.List.Concat.{flat_map-append}
use Rattle.text_fields.specs.TextWords.{text_of, words_from}
use Rattle.text_fields.specs.Written.{text_line, text_of_lines}
use Rattle.graph_text.specs.declared.read.SizedNetwork.{SizedNetwork}
use Rattle.graph_text.specs.GraphTexts.{row_letter, column_letter, edge_lines, graph_text}
use Rattle.graph_text.specs.GraphReading.{IsGraph}
use Rattle.graph_text.proofs.ReadAgain.{graph_again}
use Rattle.graph_text.proofs.WrittenEdges.{written_is_text}
use Rattle.graph_text.proofs.write.write_graph.Goals as goal

pub returns-clause-text : goal.returns-clause-text
returns-clause-text c =
    let rows = edge_lines row_letter 0 c.args.net.now.arcs in
    let columns = edge_lines column_letter 0 c.args.net.now.walks in
    c.in_ok-push_edges-2.ensures
    ∙ ap (λ (bytes : List ℕ). bytes ++ text_of_lines columns) (c.in_ok-push_edges.ensures ∙ ap (λ (bytes : List ℕ). bytes ++ text_of_lines rows) c.new-text.ensures.items)
    ∙ sym (flat_map-append text_line rows columns)

pub returns-clause-again : goal.returns-clause-again
returns-clause-again c few near is =
    let net : SizedNetwork = record { net = c.args.net.now; rows = c.args.rows; columns = c.args.columns } in
    let text = graph_text c.args.net.now in
    subst (λ (bytes : List ℕ). IsGraph (text_of bytes) (Ok net)) (sym (returns-clause-text c)) (graph_again (length text) (words_from 0 text) net (written_is_text net few near is))
