use Rattle.std.proofs.Common.{[], false, None, sym, subst}
use Rattle.tree_type.specs.declared.refusal.Rule.TheVariants as rule
use Rattle.tree_type.specs.DecompositionTrees.{tree_of}
use Rattle.tree_type.specs.Places.{AllLines, places}
use Rattle.tree_type.specs.Soundness.{IsFirstBroken}
use Rattle.cert_check.specs.Answers.{Answers, AnswersOn, AnswersBelow, IsRuleAt, KeepsOwn, IsValidNode, nodes_below}
use Rattle.cert_check.proofs.Answering.{broken_here, answers_below, if_ok, itself, root_stands, whole_answer}
use Rattle.cert_check.proofs.check_tree.accept.Goals as goal

pub returns-in-Some : goal.returns-in-Some
returns-in-Some c =
    let m = c.args.matrix.now in
    let tree = tree_of c.args.tree.now.root in
    let due = AllLines c.args.tree.now.rows c.args.tree.now.columns in
    subst (λ path. IsFirstBroken m (places c.args.tree.now.rows c.args.tree.now.columns tree) path c.in-Some.rule) (sym c.new-path.ensures)
    (broken_here m [] [] due tree c.in-Some.rule ((subst (IsRuleAt m false due tree) c.in-Some.is c.in_ok-rule.ensures.rule) m [] [] (itself m)))

pub returns-in-None : goal.returns-in-None
returns-in-None c =
    let m = c.args.matrix.now in
    let tree = tree_of c.args.tree.now.root in
    let due = AllLines c.args.tree.now.rows c.args.tree.now.columns in
    if_ok (AnswersBelow m false c.new-path.result (tree_of c.root.result.now)) (Answers m c.args.tree.now)
    (λ answer h. whole_answer m c.args.tree.now answer
    (answers_below m [] [] due tree answer ((subst (IsRuleAt m false due tree) c.in-None.is c.in_ok-rule.ensures.rule) m [] [] (itself m))
    (subst (λ path. AnswersOn m (nodes_below path [] tree) answer) c.new-path.ensures
    (subst (λ node. AnswersOn m (nodes_below c.new-path.result [] (tree_of node)) answer) c.root.ensures.root (h m [] (itself m))))))
    c.check_below.result c.check_below.ensures

pub check_below-requires-clause-valid : goal.check_below-requires-clause-valid
check_below-requires-clause-valid c =
    let m = c.args.matrix.now in
    let tree = tree_of c.args.tree.now.root in
    let kept = (subst (IsRuleAt m false (AllLines c.args.tree.now.rows c.args.tree.now.columns) tree) c.in-None.is c.in_ok-rule.ensures.rule) m [] [] (itself m) rule.Size in
    subst (λ node. IsValidNode m (tree_of node)) (sym c.root.ensures.root) (root_stands m c.args.tree.now.rows c.args.tree.now.columns tree c.root.ensures.tree kept.0 kept.1)

pub check_below-requires-clause-own : goal.check_below-requires-clause-own
check_below-requires-clause-own c =
    let m = c.args.matrix.now in
    subst (λ node. KeepsOwn m (tree_of node) None) (sym c.root.ensures.root) (subst (KeepsOwn m (tree_of c.args.tree.now.root)) c.in-None.is c.in_ok-rule.ensures.own)
