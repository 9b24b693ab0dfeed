use Rattle.std.proofs.Common.{◌≡◌, ◌∙◌, Result, sym, subst, length}
use Rattle.std.proofs.lemmas.Bool.{false≢true}
use Rattle.std.proofs.lemmas.Result.{err_from_is_err_and}
use Rattle.text_fields.specs.Reading.{Fails, Fault}
use Rattle.text_fields.specs.TextWords.{words_from}
use Rattle.graph_text.specs.declared.error.GraphKind.{GraphKind}
use Rattle.graph_text.specs.declared.read.SizedNetwork.{SizedNetwork}
use Rattle.cmr_base.specs.Trees.{IsTree}
use Rattle.text_fields.proofs.Results.{ok_same}
use Rattle.graph_text.proofs.FoundTexts.{graph_found}
use Rattle.graph_text.proofs.ReadAgain.{graph_again}
use Rattle.graph_text.proofs.read.read_graph.Goals as goal

pub returns-in_err-sized-clause-only : goal.returns-in_err-sized-clause-only
returns-in_err-sized-clause-only c net is =
    let bytes = c.args.bytes.now in
    let p = err_from_is_err_and c.from_residual.result c.from_residual.ensures.1 in
    let again = graph_again (length bytes) (words_from 0 bytes) net is in
    rw (p.1, p.2) (subst (λ (r : Result SizedNetwork (Fault GraphKind)). Fails c.in_err-sized.field-0.0 r) again.0 c.in_err-sized.ensures)

pub returns-then-branch-clause-found : goal.returns-then-branch-clause-found
returns-then-branch-clause-found c =
    let bytes = c.args.bytes.now in
    graph_found (length bytes) (words_from 0 bytes) c.in_ok-sized.sized c.in_ok-sized.ensures (c.in_ok-is_tree.ensures.0 c.if-branch.true)

pub returns-then-branch-clause-only : goal.returns-then-branch-clause-only
returns-then-branch-clause-only c net is =
    let bytes = c.args.bytes.now in
    let again = graph_again (length bytes) (words_from 0 bytes) net is in
    sym again.0 ∙ c.in_ok-sized.ensures

pub returns-else-branch-clause-only : goal.returns-else-branch-clause-only
returns-else-branch-clause-only c net is =
    let bytes = c.args.bytes.now in
    let again = graph_again (length bytes) (words_from 0 bytes) net is in
    let same : c.in_ok-sized.sized ≡ net = ok_same c.in_ok-sized.sized net (sym c.in_ok-sized.ensures ∙ again.0) in
    absurd (false≢true (sym c.if-branch.false ∙ c.in_ok-is_tree.ensures.1 (subst (λ (n : SizedNetwork). IsTree n.net.arcs n.rows) (sym same) again.1)))
