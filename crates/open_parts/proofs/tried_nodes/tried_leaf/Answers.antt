use Rattle.std.proofs.Common.{◌≡◌, Some, None, subst}
use Rattle.std.proofs.lemmas.Result.{IfOk-weaker}
use Rattle.tree_type.specs.DecompositionTrees.{Branch, NoTrees, Undecided, Violator, tree_of}
use Rattle.open_parts.specs.Rests.{IsFoundInRests}
use Rattle.open_parts.proofs.tried_nodes.tried_leaf.Goals as goal

pub returns-in-Some : goal.returns-in-Some
returns-in-Some g c =
    let search = c.args.search.now in
    let lines = c.args.lines.now in
    IfOk-weaker c.leaf.result (λ node. tree_of node ≡ Branch lines (Violator c.in-Some.fault) NoTrees) _
    (λ node e. (Some c.in-Some.fault, subst (IsFoundInRests search.limit search.matrix.now lines) c.in-Some.is c.in_ok-fault.ensures, e)) c.leaf.ensures

pub returns-in-None : goal.returns-in-None
returns-in-None g c =
    let search = c.args.search.now in
    let lines = c.args.lines.now in
    IfOk-weaker c.leaf-in-None.result (λ node. tree_of node ≡ Branch lines Undecided NoTrees) _
    (λ node e. (None, subst (IsFoundInRests search.limit search.matrix.now lines) c.in-None.is c.in_ok-fault.ensures, e)) c.leaf-in-None.ensures
