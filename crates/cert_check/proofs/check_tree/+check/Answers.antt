use Rattle.std.proofs.Common.{true, ◌+◌, ◌++◌, [], ◌∷◌, drop, List, ℕ, ap, sym, subst, arith}
use Rattle.tree_type.specs.DecompositionTrees.{tree_of, children_of, Pivoted, NoTrees}
use Rattle.tree_type.specs.Places.{places_from}
use Rattle.tree_type.specs.Soundness.{IsFirstBroken}
use Rattle.tree_type.specs.NodeCounts.{node_count}
use Rattle.cert_check.specs.Answers.{AnswersOn, AnswersFrom, AnswersBelow, IsRuleAt, KeepsOwn, IsValidNode, nodes_below, due_child_of}
use Rattle.cmr_base.specs.PlacedPivots.{pivoted_part}
use Rattle.pivots.specs.PivotedParts.{IsPivotedPart}
use Rattle.cert_check.proofs.Answering.{answers_below, broken_here, if_ok, pivoted_is, goes_pivoted, only_child, first_valid, valid_pivoted}
use Rattle.cert_check.proofs.OwnRules.{own_lines, own_pivot}
use Rattle.cert_check.proofs.Children.{all_left, few_children, left_next, left_none, left_refused, left_valid, no_pivot}
use Rattle.std.proofs.lemmas.List.{drop_all}
use Rattle.cert_check.proofs.check_tree.+check.Goals as goal

pub check_child-returns-in-Some : goal.check_child-returns-in-Some
check_child-returns-in-Some t c =
    let path = c.args.path.now ++ c.args.number ∷ [] in
    let due = due_child_of (tree_of c.args.parent.now) c.args.number in
    let child = tree_of c.args.child.now in
    λ m pivots after. subst (λ (longer : List ℕ). IsFirstBroken m (places_from path pivots due child) longer c.in-Some.rule) (sym c.in_ok-longer.ensures)
    (broken_here m path pivots due child c.in-Some.rule ((subst (IsRuleAt c.args.matrix.now c.args.pivoted due child) c.in-Some.is c.in_ok-rule.ensures.rule) m pivots path after))

pub check_child-returns-in-None : goal.check_child-returns-in-None
check_child-returns-in-None t c =
    let here = c.args.matrix.now in
    let path = c.args.path.now ++ c.args.number ∷ [] in
    let due = due_child_of (tree_of c.args.parent.now) c.args.number in
    let child = tree_of c.args.child.now in
    if_ok (AnswersBelow here c.args.pivoted c.in_ok-longer.longer child) (AnswersFrom here c.args.pivoted path due child)
    (λ answer h m pivots after. answers_below m path pivots due child answer ((subst (IsRuleAt here c.args.pivoted due child) c.in-None.is c.in_ok-rule.ensures.rule) m pivots path after)
    (subst (λ (longer : List ℕ). AnswersOn m (nodes_below longer pivots child) answer) c.in_ok-longer.ensures (h m pivots after)))
    c.check_below.result c.check_below.ensures

pub check_child-check_below-requires : goal.check_child-check_below-requires
check_child-check_below-requires t c =
    let own = subst (KeepsOwn c.args.matrix.now (tree_of c.args.child.now)) c.in-None.is c.in_ok-rule.ensures.own in (omega (arith, c.decreases), (c.requires, own))

pub check_below-prove-unreachable-requires : goal.check_below-prove-unreachable-requires
check_below-prove-unreachable-requires t c =
    omega (arith, few_children c.args.matrix.now (tree_of c.args.node.now) c.requires.valid, c.child_count-count.ensures, c.rows.ensures.rows, c.columns.ensures.columns, c.rows.ensures.shape.height_in, c.rows.ensures.shape.width_in)

pub check_below-loop-number-init : goal.check_below-loop-number-init
check_below-loop-number-init t c =
    let node = c.args.node.now in
    all_left c.args.matrix.now c.args.pivoted c.args.path.now (tree_of node) (no_pivot node c.in_default.not-Pivoted) c.requires.valid

pub check_below-check_child-requires : goal.check_below-check_child-requires
check_below-check_child-requires t c =
    let number = c.loop-number.number in
    let tree = tree_of c.args.node.now in
    let trees = children_of tree in (
      omega (arith, c.decreases, c.child-child.ensures.fewer),
      left_valid c.args.matrix.now c.args.pivoted c.args.path.now tree number (tree_of c.child-child.result.now) (drop number trees) (drop (number + 1) trees) c.child-child.ensures.rest c.loop-number.invariant,
    )

pub check_below-returns-in-Some : goal.check_below-returns-in-Some
check_below-returns-in-Some t c =
    let number = c.loop-number.number in
    let here = c.args.matrix.now in
    let below = c.args.pivoted in
    let path = c.args.path.now in
    let tree = tree_of c.args.node.now in
    let trees = children_of tree in
    let child = tree_of c.child-child.result.now in
    left_refused here below path tree number child (drop number trees) (drop (number + 1) trees) c.child-child.ensures.rest c.loop-number.invariant c.in-Some.refusal
    (subst (AnswersFrom here below (path ++ number ∷ []) (due_child_of tree number) child) c.in-Some.is c.in_ok-refusal.ensures)

pub check_below-loop-number-preserved : goal.check_below-loop-number-preserved
check_below-loop-number-preserved t c =
    let number = c.loop-number.number in
    let here = c.args.matrix.now in
    let below = c.args.pivoted in
    let path = c.args.path.now in
    let tree = tree_of c.args.node.now in
    let trees = children_of tree in
    let child = tree_of c.child-child.result.now in
    left_next here below path tree number child (drop number trees) (drop (number + 1) trees) c.child-child.ensures.rest c.loop-number.invariant (number + 1) (omega arith)
    (subst (AnswersFrom here below (path ++ number ∷ []) (due_child_of tree number) child) c.in_default-2.is c.in_ok-refusal.ensures)

pub check_below-returns : goal.check_below-returns
check_below-returns t c =
    let number = c.loop-number.number in
    let tree = tree_of c.args.node.now in
    left_none c.args.matrix.now c.args.pivoted c.args.path.now tree number (drop number (children_of tree)) (drop_all number (children_of tree) (omega (arith, c.loop-number-test.false, c.child_count-count.ensures))) c.loop-number.invariant

pub check_below-check_pivoted-requires : goal.check_below-check_pivoted-requires
check_below-check_pivoted-requires t c =
    let here = c.args.matrix.now in
    let node = c.args.node.now in
    let place = c.in-Pivoted.place in
    let child = c.in-Pivoted.child in
    let own = own_pivot here node place child c.in-Pivoted.is c.requires.valid c.requires.own in (
      omega (arith, c.decreases, ap node_count (pivoted_is node place child c.in-Pivoted.is), ap (λ n. node_count (tree_of n)) c.deref.ensures),
      (
        own_lines here node c.requires.valid,
        (
          own.0,
          (
            own.1,
            subst (λ node'. IsValidNode here (tree_of node')) (sym c.deref.ensures)
                (first_valid here node.lines (Pivoted place) (tree_of child.value) NoTrees (subst (IsValidNode here) (pivoted_is node place child c.in-Pivoted.is) c.requires.valid)),
          ),
        ),
      ),
    )

pub check_pivoted-check_child-requires : goal.check_pivoted-check_child-requires
check_pivoted-check_child-requires t c =
    let here = c.args.matrix.now in
    let lines = c.args.parent.now.lines in
    let child = tree_of c.args.child.now in
    let made = subst (IsPivotedPart here lines c.args.place) c.in-Ternary.is c.in_ok-after.ensures in
    (omega (arith, c.decreases), subst (λ after. IsValidNode after child) (sym made.is) (valid_pivoted here lines c.args.place child c.requires.valid))

pub check_below-returns-in-Pivoted : goal.check_below-returns-in-Pivoted
check_below-returns-in-Pivoted t c =
    let here = c.args.matrix.now in
    let below = c.args.pivoted in
    let node = c.args.node.now in
    let place = c.in-Pivoted.place in
    let child = c.in-Pivoted.child in
    if_ok (AnswersFrom (pivoted_part here node.lines place) true (c.args.path.now ++ 0 ∷ []) (due_child_of (tree_of node) 0) (tree_of c.deref.result.now)) (AnswersBelow here below c.args.path.now (tree_of node))
    (λ answer h. only_child here below c.args.path.now (tree_of node) node.lines (Pivoted place) (pivoted_part here node.lines place) true (goes_pivoted here below node.lines place) (tree_of child.value) answer
    (pivoted_is node place child c.in-Pivoted.is)
    (subst (λ node'. AnswersFrom (pivoted_part here node.lines place) true (c.args.path.now ++ 0 ∷ []) (due_child_of (tree_of node) 0) (tree_of node') answer) c.deref.ensures h))
    c.check_pivoted.result c.check_pivoted.ensures
