-- Answers on nodes, combined.
use Rattle.std.proofs.Common.{◌≡◌, ◌<◌, ◌≤◌, ◌∙◌, ◌-◌, ℕ, Bool, true, false, List, [], ◌∷◌, ◌++◌, append_assoc, append-nil, length, get_or, Option, Some, None, IsTrue, ◌↔◌, Result, Ok, Err, IfOk, refl, ap, sym, subst, arith}
use Rattle.std.specs.List.{AllByRecursion}
use Rattle.std.proofs.lemmas.Bool.{true≢false}
use Rattle.cmr_base.specs.Matrix.{Matrix, height}
use Rattle.std.specs.declared.alloc.Global.{Global}
use Rattle.std.specs.declared.boxed.Box.{Box}
use Rattle.cmr_base.specs.declared.line_set.LineSet.{LineSet}
use Rattle.cmr_base.proofs.Lists.{all-append}
use Rattle.tree_type.specs.declared.refusal.Refusal.{Refusal}
use Rattle.tree_type.specs.declared.refusal.Rule.{Rule}
use Rattle.tree_type.specs.declared.refusal.Rule.TheVariants as rule
use Rattle.tree_type.specs.DecompositionTrees.{Finding, Pivoted, Tree, Trees, Branch, NoTrees, MoreTrees, SizedTree, one_tree, lines_at_root, tree_of, trees_below, finding_of}
use Rattle.tree_type.specs.declared.tree.Node.{Node}
use Rattle.tree_type.proofs.NodeTrees.{said, tree_is, said_pivoted}
use Rattle.tree_type.specs.declared.tree.Kind.{Kind}
use Rattle.tree_type.specs.declared.tree.Kind.TheVariants as kind
use Rattle.tree_type.specs.Invariant.{AreLines, AreTreesWithin, IsTreeFor}
use Rattle.tree_type.specs.Places.{due_child, Due, AllLines, MadePivot, matrix_after, pivots_below, Place, places, places_from, lines_of_each}
use Rattle.tree_type.specs.Soundness.{HasItsSizes, HasItsLines, Demands, MayStand, Keeps, KeepsAll, rule_number, BreaksFirst, IsFirstBroken}
use Rattle.tree_type.proofs.PlacedLines.{lines_within}
use Rattle.cmr_base.specs.declared.position.Position.{Position}
use Rattle.cmr_base.specs.PlacedPivots.{pivoted_part}
use Rattle.tree_laws.proofs.PivotedMatrices.{lines_pivoted}
use Rattle.cert_check.specs.Answers.{Answers, AnswersOn, AnswersFrom, AnswersBelow, IsValidNode, nodes_below, place_of, IsAfter, has_pivot, IsRuleAt, IsOwnRule, due_from, due_child_of, unless, KeepsOwn}

pub opened : (path : List ℕ) (pivots : List MadePivot) (due : Due) (tree : Tree) → places_from path pivots due tree ≡ place_of path pivots due tree ∷ nodes_below path pivots tree
opened path pivots due (Branch lines finding trees) = refl

-- the node itself breaks a rule
pub broken_here : (m : Matrix) (path : List ℕ) (pivots : List MadePivot) (due : Due) (tree : Tree) (broken : Rule) → BreaksFirst m (place_of path pivots due tree) broken
    → IsFirstBroken m (places_from path pivots due tree) path broken
broken_here m path pivots due tree broken h = record {
  before = [];
  place = place_of path pivots due tree;
  after = nodes_below path pivots tree;
  order = opened path pivots due tree;
  sound = tt;
  breaks = h;
  path_is = refl;
}

-- the nodes before keep all rules
pub answers_after : (m : Matrix) (prefix back : List Place) (answer : Option Refusal) → AllByRecursion (KeepsAll m) prefix → AnswersOn m back answer → AnswersOn m (prefix ++ back) answer
answers_after m prefix back None sound h = all-append (KeepsAll m) prefix back sound h
answers_after m prefix back (Some refusal) sound h = record {
  before = prefix ++ h.before;
  place = h.place;
  after = h.after;
  order = ap (λ nodes. prefix ++ nodes) h.order ∙ sym (append_assoc prefix h.before (h.place ∷ h.after));
  sound = all-append (KeepsAll m) prefix h.before sound h.sound;
  breaks = h.breaks;
  path_is = h.path_is;
}

-- the answer on these nodes is the answer if more nodes follow
pub broken_before : (m : Matrix) (prefix back : List Place) (refusal : Refusal) → AnswersOn m prefix (Some refusal) → AnswersOn m (prefix ++ back) (Some refusal)
broken_before m prefix back refusal h = record {
  before = h.before;
  place = h.place;
  after = h.after ++ back;
  order = ap (λ nodes. nodes ++ back) h.order ∙ append_assoc h.before (h.place ∷ h.after) back;
  sound = h.sound;
  breaks = h.breaks;
  path_is = h.path_is;
}

pub answers_below : (m : Matrix) (path : List ℕ) (pivots : List MadePivot) (due : Due) (tree : Tree) (answer : Option Refusal)
    → KeepsAll m (place_of path pivots due tree) → AnswersOn m (nodes_below path pivots tree) answer
    → AnswersOn m (places_from path pivots due tree) answer
answers_below m path pivots due tree answer here h =
    subst (λ nodes. AnswersOn m nodes answer) (sym (opened path pivots due tree)) (answers_after m (place_of path pivots due tree ∷ []) (nodes_below path pivots tree) answer (here, tt) h)

-- the children of a node satisfy `IsValidNode` if the node does
pub children_valid : (m : Matrix) (lines : LineSet) (finding : Finding) (trees : Trees) → IsValidNode m (Branch lines finding trees)
    → (levels : ℕ) × AreLines m lines × AreTreesWithin lines levels trees
children_valid m lines finding trees (parent, levels, are, within) = (levels - 1, lines_within m lines parent within.1 are, within.4)

pub first_valid : (m : Matrix) (lines : LineSet) (finding : Finding) (tree : Tree) (trees : Trees) → IsValidNode m (Branch lines finding (MoreTrees tree trees)) → IsValidNode m tree
first_valid m lines finding tree trees h = let w = children_valid m lines finding (MoreTrees tree trees) h in (lines, w.0, w.1, w.2.0)

pub valid_pivoted : (m : Matrix) (lines : LineSet) (place : Position) (tree : Tree) → IsValidNode m tree → IsValidNode (pivoted_part m lines place) tree
valid_pivoted m lines place tree (parent, levels, are, within) = (parent, levels, lines_pivoted m lines place parent are, within)

last_rule : (r : Rule) → rule_number r ≤ 16
last_rule rule.Size = omega arith
last_rule rule.Lines = omega arith
last_rule rule.NotEmpty = omega arith
last_rule rule.NotViolator = omega arith
last_rule rule.NotReducible = omega arith
last_rule rule.NotApart = omega arith
last_rule rule.NotNetwork = omega arith
last_rule rule.NotR10 = omega arith
last_rule rule.CycleFault = omega arith
last_rule rule.TooShort = omega arith
last_rule rule.BadConnector = omega arith
last_rule rule.CornerSign = omega arith
last_rule rule.BadBlock = omega arith
last_rule rule.TooMany = omega arith
last_rule rule.NotClean = omega arith
last_rule rule.NotPivot = omega arith
last_rule rule.BelowPivot = omega arith

module _ (m : Matrix) (path : List ℕ) (pivots : List MadePivot) (due : Due) (tree : Tree) where
  keeps_own : HasItsSizes m due → HasItsLines due (lines_at_root tree) → (broken : Rule) → (rule_number broken ≡ 16 → MayStand pivots (finding_of tree))
      → Demands broken (matrix_after m pivots) (lines_at_root tree) (finding_of tree) (lines_of_each (trees_below tree))
      → Keeps m (place_of path pivots due tree) broken
  keeps_own sizes has rule.Size may h = sizes
  keeps_own sizes has rule.Lines may h = has
  keeps_own sizes has rule.NotEmpty may h = h
  keeps_own sizes has rule.NotViolator may h = h
  keeps_own sizes has rule.NotReducible may h = h
  keeps_own sizes has rule.NotApart may h = h
  keeps_own sizes has rule.NotNetwork may h = h
  keeps_own sizes has rule.NotR10 may h = h
  keeps_own sizes has rule.CycleFault may h = h
  keeps_own sizes has rule.TooShort may h = h
  keeps_own sizes has rule.BadConnector may h = h
  keeps_own sizes has rule.CornerSign may h = h
  keeps_own sizes has rule.BadBlock may h = h
  keeps_own sizes has rule.TooMany may h = h
  keeps_own sizes has rule.NotClean may h = h
  keeps_own sizes has rule.NotPivot may h = h
  keeps_own sizes has rule.BelowPivot may h = may refl

  own_keeps : (broken : Rule) → Keeps m (place_of path pivots due tree) broken → Demands broken (matrix_after m pivots) (lines_at_root tree) (finding_of tree) (lines_of_each (trees_below tree))
  own_keeps rule.Size h = tt
  own_keeps rule.Lines h = tt
  own_keeps rule.NotEmpty h = h
  own_keeps rule.NotViolator h = h
  own_keeps rule.NotReducible h = h
  own_keeps rule.NotApart h = h
  own_keeps rule.NotNetwork h = h
  own_keeps rule.NotR10 h = h
  own_keeps rule.CycleFault h = h
  own_keeps rule.TooShort h = h
  own_keeps rule.BadConnector h = h
  own_keeps rule.CornerSign h = h
  own_keeps rule.BadBlock h = h
  own_keeps rule.TooMany h = h
  own_keeps rule.NotClean h = h
  own_keeps rule.NotPivot h = h
  own_keeps rule.BelowPivot h = tt

own_demands : (m : Matrix) (tree : Tree) → IsOwnRule m tree None → (broken : Rule) → Demands broken m (lines_at_root tree) (finding_of tree) (lines_of_each (trees_below tree))
own_demands m (Branch lines finding trees) h = h

own_broken : (m : Matrix) (tree : Tree) (broken : Rule) → IsOwnRule m tree (Some broken)
    → (¬ (Demands broken m (lines_at_root tree) (finding_of tree) (lines_of_each (trees_below tree)))) × ((earlier : Rule) → rule_number earlier < rule_number broken → Demands earlier m (lines_at_root tree) (finding_of tree) (lines_of_each (trees_below tree)))
own_broken m (Branch lines finding trees) broken h = h

module _ (here : Matrix) (below_pivot : Bool) (due : Due) (tree : Tree) (sizes : (m : Matrix) (pivots : List MadePivot) → IsAfter m pivots here below_pivot → HasItsSizes m due) where
  -- the node does not have the lines that it must have
  pub lines_at : ¬ (HasItsLines due (lines_at_root tree)) → IsRuleAt here below_pivot due tree (Some rule.Lines)
  lines_at has_not = λ m pivots path after. record { breaks = has_not; keeps = λ earlier l. before m pivots path after earlier l }
    where
      before : (m : Matrix) (pivots : List MadePivot) (path : List ℕ) → IsAfter m pivots here below_pivot → (earlier : Rule) → rule_number earlier < 1 → Keeps m (place_of path pivots due tree) earlier
      before m pivots path after rule.Size l = sizes m pivots after
      before m pivots path after rule.Lines l = absurd (omega (arith, l))
      before m pivots path after rule.NotEmpty l = absurd (omega (arith, l))
      before m pivots path after rule.NotViolator l = absurd (omega (arith, l))
      before m pivots path after rule.NotReducible l = absurd (omega (arith, l))
      before m pivots path after rule.NotApart l = absurd (omega (arith, l))
      before m pivots path after rule.NotNetwork l = absurd (omega (arith, l))
      before m pivots path after rule.NotR10 l = absurd (omega (arith, l))
      before m pivots path after rule.CycleFault l = absurd (omega (arith, l))
      before m pivots path after rule.TooShort l = absurd (omega (arith, l))
      before m pivots path after rule.BadConnector l = absurd (omega (arith, l))
      before m pivots path after rule.CornerSign l = absurd (omega (arith, l))
      before m pivots path after rule.BadBlock l = absurd (omega (arith, l))
      before m pivots path after rule.TooMany l = absurd (omega (arith, l))
      before m pivots path after rule.NotClean l = absurd (omega (arith, l))
      before m pivots path after rule.NotPivot l = absurd (omega (arith, l))
      before m pivots path after rule.BelowPivot l = absurd (omega (arith, l))

  module _ (has : HasItsLines due (lines_at_root tree)) where
    -- demands on the current matrix are demands on the matrix after the pivots
    after_demands : (m : Matrix) (pivots : List MadePivot) → IsAfter m pivots here below_pivot → (r : Rule)
        → Demands r here (lines_at_root tree) (finding_of tree) (lines_of_each (trees_below tree))
        → Demands r (matrix_after m pivots) (lines_at_root tree) (finding_of tree) (lines_of_each (trees_below tree))
    after_demands m pivots after r h = subst (λ w. Demands r w (lines_at_root tree) (finding_of tree) (lines_of_each (trees_below tree))) (sym after.matrix) h

    -- if the lines are right, a broken rule on the finding is the first broken rule
    pub own_refused : (broken : Rule) → IsOwnRule here tree (Some broken) → IsRuleAt here below_pivot due tree (Some broken)
    own_refused broken h = λ m pivots path after. record {
      breaks = λ keeps. (own_broken here tree broken h).0 (subst (λ w. Demands broken w (lines_at_root tree) (finding_of tree) (lines_of_each (trees_below tree))) after.matrix (own_keeps m path pivots due tree broken keeps));
      keeps = λ earlier l. keeps_own m path pivots due tree (sizes m pivots after) has earlier (λ e. absurd (omega (arith, e, l, last_rule broken))) (after_demands m pivots after earlier ((own_broken here tree broken h).1 earlier l));
    }

    -- otherwise the rule on findings below pivots is next
    pub own_kept : IsOwnRule here tree None → ((pivots : List MadePivot) → has_pivot pivots ≡ below_pivot → MayStand pivots (finding_of tree)) → IsRuleAt here below_pivot due tree None
    own_kept own may = λ m pivots path after broken. keeps_own m path pivots due tree (sizes m pivots after) has broken (λ e. may pivots after.pivoted) (after_demands m pivots after broken (own_demands here tree own broken))

    -- the same at a place at which the finding is allowed
    pub own_rule_at : ((pivots : List MadePivot) → has_pivot pivots ≡ below_pivot → MayStand pivots (finding_of tree)) → (answer : Option Rule)
        → IsOwnRule here tree answer → IsRuleAt here below_pivot due tree answer
    own_rule_at may None own = own_kept own may
    own_rule_at may (Some broken) own = own_refused broken own

    pub below_pivot_refused : IsOwnRule here tree None → ((pivots : List MadePivot) → has_pivot pivots ≡ below_pivot → ¬ (MayStand pivots (finding_of tree)))
        → IsRuleAt here below_pivot due tree (Some rule.BelowPivot)
    below_pivot_refused own may_not = λ m pivots path after. record {
      breaks = may_not pivots after.pivoted;
      keeps = λ earlier l. keeps_own m path pivots due tree (sizes m pivots after) has earlier (λ e. absurd (omega (arith, e, l))) (after_demands m pivots after earlier (own_demands here tree own earlier));
    }

    -- the test of findings below pivots decides
    pub below_pivot_decides : (may : Bool) → ((pivots : List MadePivot) → has_pivot pivots ≡ below_pivot → IsTrue may ↔ MayStand pivots (finding_of tree))
        → IsOwnRule here tree None → IsRuleAt here below_pivot due tree (unless may rule.BelowPivot)
    below_pivot_decides true is own = own_kept own (λ pivots e. (is pivots e).0 refl)
    below_pivot_decides false is own = below_pivot_refused own (λ pivots e valid. true≢false (sym ((is pivots e).1 valid)))

pub own_is_kept : (m : Matrix) (tree : Tree) (answer : Option Rule) → IsOwnRule m tree answer → KeepsOwn m tree answer
own_is_kept m tree None own = own
own_is_kept m tree (Some broken) own = tt

pub own_stays : (m : Matrix) (tree : Tree) (may : Bool) (broken : Rule) → IsOwnRule m tree None → KeepsOwn m tree (unless may broken)
own_stays m tree true broken own = own
own_stays m tree false broken own = tt

pub sizes_due : (due : Option LineSet) (m : Matrix) → HasItsSizes m (due_from due)
sizes_due None m = tt
sizes_due (Some lines) m = tt

pub lines_is : (node : Node) → lines_at_root (tree_of node) ≡ node.lines
lines_is node = ap lines_at_root (tree_is node)

pub if_ok : {A E : Type 0} (P Q : A → Type 0) → ((x : A) → P x → Q x) → (r : Result A E) → IfOk r P → IfOk r Q
if_ok P Q f (Ok x) h = f x h
if_ok P Q f (Err e) h = tt

-- ---- the root

-- the root is a node with lines of the matrix
pub root_stands : (m : Matrix) (rows columns : ℕ) (tree : Tree) → IsTreeFor rows columns tree → rows ≡ height m → columns ≡ m.width → IsValidNode m tree
root_stands m rows columns (Branch lines finding trees) within e f = (
  lines,
  2001,
  record {
    rows = record { increasing = within.nodes.1.rows_increase; in_range = subst (λ n. (k : ℕ) → k < length lines.rows → get_or lines.rows k 0 < n) e within.root_rows };
    columns = record { increasing = within.nodes.1.columns_increase; in_range = subst (λ n. (k : ℕ) → k < length lines.columns → get_or lines.columns k 0 < n) f within.root_columns };
  },
  within.nodes,
)

-- the current matrix after no pivot is the matrix itself
pub itself : (m : Matrix) → IsAfter m [] m false
itself m = record { matrix = refl; pivoted = refl }

-- without a pivot the current matrix is the matrix itself
pub root_matrix : (m : Matrix) (pivots : List MadePivot) (here : Matrix) → IsAfter m pivots here false → m ≡ here
root_matrix m [] here after = after.matrix
root_matrix m (last ∷ pivots) here after = absurd (true≢false after.pivoted)

pub root_sizes : (here : Matrix) (rows columns : ℕ) → rows ≡ height here → columns ≡ here.width → (m : Matrix) (pivots : List MadePivot)
    → IsAfter m pivots here false → HasItsSizes m (AllLines rows columns)
root_sizes here rows columns e f m pivots after = subst (λ w. HasItsSizes w (AllLines rows columns)) (sym (root_matrix m pivots here after)) (e, f)

-- the root has no pivot above it
pub root_may : (finding : Finding) (pivots : List MadePivot) → has_pivot pivots ≡ false → MayStand pivots finding
root_may finding [] e = tt
root_may finding (last ∷ pivots) e = absurd (true≢false e)

-- the sizes differ
pub other_sizes : (here : Matrix) (rows columns : ℕ) (tree : Tree) → ((rows ≡ height here) → (columns ≡ here.width) → ⊥) → IsRuleAt here false (AllLines rows columns) tree (Some rule.Size)
other_sizes here rows columns tree differ = λ m pivots path after. record {
  breaks = λ same. let is = subst (λ w. HasItsSizes w (AllLines rows columns)) (root_matrix m pivots here after) same in differ is.0 is.1;
  keeps = λ earlier l. absurd (omega (arith, l));
}

-- an answer on all nodes is an answer on the tree
pub whole_answer : (m : Matrix) (tree : SizedTree) (answer : Option Refusal) → AnswersOn m (places tree.rows tree.columns (tree_of tree.root)) answer → Answers m tree answer
whole_answer m tree None h = h
whole_answer m tree (Some refusal) h = h

-- ---- nodes by their kinds

pub kind_is : (node : Node) (k : Kind) (f : Finding) (trees : Trees) → node.kind ≡ k → said k ≡ (f, trees) → tree_of node ≡ Branch node.lines f trees
kind_is node k f trees e h = tree_is node ∙ ap (λ s. Branch node.lines s.0 s.1) (ap said e ∙ h)

pub pivoted_is : (node : Node) (place : Position) (child : Box Node Global) → node.kind ≡ kind.Pivoted place child → tree_of node ≡ Branch node.lines (Pivoted place) (one_tree (tree_of child.value))
pivoted_is node place child e = kind_is node (kind.Pivoted place child) (Pivoted place) (one_tree (tree_of child.value)) e (said_pivoted place child)

-- the current matrix at the children of a node, and whether a pivot is above them
abbrev pub GoesOn : Matrix → Bool → LineSet → Finding → Matrix → Bool → Type 0
GoesOn here below_pivot lines f next below_next = (m : Matrix) (pivots : List MadePivot) → IsAfter m pivots here below_pivot → IsAfter m (pivots_below lines f pivots) next below_next

-- the current matrix after the pivot
pub goes_pivoted : (here : Matrix) (below_pivot : Bool) (lines : LineSet) (place : Position) → GoesOn here below_pivot lines (Pivoted place) (pivoted_part here lines place) true
goes_pivoted here below_pivot lines place m pivots after = record { matrix = ap (λ w. pivoted_part w lines place) after.matrix; pivoted = refl }

module _ (here : Matrix) (below_pivot : Bool) (path : List ℕ) (tree : Tree) (lines : LineSet) (f : Finding) (next : Matrix) (below_next : Bool) (goes : GoesOn here below_pivot lines f next below_next) where
  -- the answer of an only child
  pub only_child : (child : Tree) (answer : Option Refusal) → tree ≡ Branch lines f (MoreTrees child NoTrees)
      → AnswersFrom next below_next (path ++ 0 ∷ []) (due_child_of tree 0) child answer → AnswersBelow here below_pivot path tree answer
  only_child child answer e h = λ m pivots after.
      let below = pivots_below lines f pivots in
      subst (λ t. AnswersOn m (nodes_below path pivots t) answer) (sym e)
      (subst (λ nodes. AnswersOn m nodes answer) (sym (append-nil (places_from (path ++ 0 ∷ []) below (due_child lines f 0) child)))
      (subst (λ t. AnswersOn m (places_from (path ++ 0 ∷ []) below (due_child_of t 0) child) answer) e (h m below (goes m pivots after))))
