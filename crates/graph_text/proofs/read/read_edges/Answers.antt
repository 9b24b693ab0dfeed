use Rattle.std.proofs.Common.{◌≡◌, ◌∷◌, ◌∙◌, ℕ, List, ap, sym}
use Rattle.std.proofs.lemmas.Result.{err_from_is_err_and}
use Rattle.text_fields.specs.TextWords.{Text}
use Rattle.graph_text.specs.declared.edges.Edge.{Edge}
use Rattle.graph_text.specs.declared.edges.Element.{Element}
use Rattle.graph_text.specs.GraphReading.{edges_from, no_edges}
use Rattle.graph_text.proofs.EdgeSteps.{edge_fails, edge_keeps_size, edge_read, edges_few}
use Rattle.graph_text.proofs.read.read_edges.Goals as goal

pub returns-in_err-element-clause-read : goal.returns-in_err-element-clause-read
returns-in_err-element-clause-read c =
    let size = c.args.words.now.size in
    let edges = c.edges.edges in
    let text = c.next.new.self in
    let word : ℕ × List ℕ = (c.in-Some.place, c.in-Some.word.now) in
    let total = edges_from size no_edges c.args.words.now.words in
    let same : text.size ≡ size = sym (ap (λ (t : Text). t.size) c.in-Some.ensures) ∙ c.edges.invariant.size in
    let before : edges_from size edges (word ∷ text.words) ≡ total = sym (ap (λ (t : Text). edges_from size edges t.words) c.in-Some.ensures) ∙ c.edges.invariant.read in
    let p = err_from_is_err_and c.from_residual-in_err-element.result c.from_residual-in_err-element.ensures.1 in
    let e = c.in_err-element.field-0.0 in
    rw (p.1, p.2) (edge_fails size edges word text c.in_ok-tail.tail total same c.in_ok-tail.ensures before e c.in_err-element.ensures.read)

pub edges-preserved : goal.edges-preserved
edges-preserved c =
    let size = c.args.words.now.size in
    let edges = c.edges.edges in
    let text = c.next.new.self in
    let word : ℕ × List ℕ = (c.in-Some.place, c.in-Some.word.now) in
    let total = edges_from size no_edges c.args.words.now.words in
    let same : text.size ≡ size = sym (ap (λ (t : Text). t.size) c.in-Some.ensures) ∙ c.edges.invariant.size in
    let before : edges_from size edges (word ∷ text.words) ≡ total = sym (ap (λ (t : Text). edges_from size edges t.words) c.in-Some.ensures) ∙ c.edges.invariant.read in
    let found : Element × Edge = (c.in_ok-element.element, c.in_ok-element.edge) in
    let few = edges_few edges c.in_ok-element.element c.in_ok-element.edge c.edges.invariant.rows c.edges.invariant.columns c.in_ok-element.ensures.row c.in_ok-element.ensures.column in
    rw c.in_ok-push.ensures (record {
      size = edge_keeps_size edges c.in_ok-tail.tail text found c.read_edge.new.words c.in_ok-element.ensures.read ∙ same;
      read = edge_read size edges word text c.in_ok-tail.tail total same c.in_ok-tail.ensures before found c.read_edge.new.words c.in_ok-element.ensures.read;
      rows = few.0;
      columns = few.1;
    })
