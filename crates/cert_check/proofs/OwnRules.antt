-- The first rule that the finding of a node breaks, from the tests of its kind.
use Rattle.std.proofs.Common.{◌≡◌, ◌≢◌, pos, ◌<◌, ◌≤◌, ◌∙◌, min, length, map, ap, ◌↔◌, IsTrue, ℕ, Bool, true, false, Contains, Option, None, refl, sym, subst, arith}
use Rattle.std.proofs.lemmas.List.{length-map}
use Rattle.std.specs.declared.alloc.Global.{Global}
use Rattle.std.specs.declared.boxed.Box.{Box}
use Rattle.cmr_base.specs.declared.line_set.LineSet.{LineSet}
use Rattle.cmr_base.specs.declared.separation.Two.{Two}
use Rattle.cmr_base.specs.declared.separation.Three.{Three}
use Rattle.cmr_base.specs.Separations.{first_is_flat, second_is_flat}
use Rattle.tree_type.specs.Sides.{HasConnector}
use Rattle.cmr_base.specs.Matrix.{Matrix, height, entry}
use Rattle.cmr_base.specs.Violator.{HasNoViolator}
use Rattle.cmr_base.specs.CyclePlaces.{HasNoCycleFault}
use Rattle.cmr_base.specs.R10.{IsR10}
use Rattle.tree_type.specs.declared.refusal.Rule.{Rule}
use Rattle.tree_type.specs.declared.refusal.Rule.TheVariants as rule
use Rattle.tree_type.specs.DecompositionTrees.{Finding, Cycle, R10, Enumerated, TwoSum, ThreeSum, Violator, Pivoted, Trees, Branch, NoTrees, two_trees, one_tree, tree_of}
use Rattle.tree_type.specs.declared.tree.Node.{Node}
use Rattle.tree_type.specs.declared.tree.Kind.{Kind}
use Rattle.tree_type.specs.Invariant.{AreLines}
use Rattle.tree_type.specs.Places.{lines_of_each}
use Rattle.tree_type.specs.Soundness.{part, Demands, rule_number}
use Rattle.tree_type.specs.declared.tree.Kind.TheVariants as kind
use Rattle.tree_type.proofs.NodeTrees.{said, tree_is, said_cycle, said_two_sum, said_three_sum, said_violator}
use Rattle.tree_type.proofs.PlacedLines.{lines_within}
use Rattle.cmr_base.specs.declared.position.Position.{Position}
use Rattle.cmr_base.specs.PlacedPivots.{IsPlaceIn, IsTernaryPivot}
use Rattle.cert_check.specs.Answers.{IsValidNode, IsFirstBrokenRule, Says, IsOwnRule, unless}
use Rattle.cert_check.proofs.Answering.{kind_is, pivoted_is, children_valid}
use Rattle.cert_check.proofs.SumRules.{false_not}

-- the finding of a node decides
pub own_of : (m : Matrix) (node : Node) (k : Kind) (f : Finding) (trees : Trees) (answer : Option Rule) → node.kind ≡ k → said k ≡ (f, trees)
    → IsFirstBrokenRule m node.lines f (lines_of_each trees) answer → IsOwnRule m (tree_of node) answer
own_of m node k f trees answer e h first = subst (λ tree. IsOwnRule m tree answer) (sym (kind_is node k f trees e h)) first

branch_valid : (m : Matrix) (node : Node) (k : Kind) (f : Finding) (trees : Trees) → node.kind ≡ k → said k ≡ (f, trees) → IsValidNode m (tree_of node) → IsValidNode m (Branch node.lines f trees)
branch_valid m node k f trees e h valid = subst (IsValidNode m) (kind_is node k f trees e h) valid

pub own_lines : (m : Matrix) (node : Node) → IsValidNode m (tree_of node) → AreLines m node.lines
own_lines m node valid = (children_valid m node.lines (said node.kind).0 (said node.kind).1 (subst (IsValidNode m) (tree_is node) valid)).1

pub cycle_lines : (m : Matrix) (node : Node) (fault : LineSet) → node.kind ≡ kind.Cycle fault → IsValidNode m (tree_of node) → AreLines m fault
cycle_lines m node fault e valid = go (branch_valid m node (kind.Cycle fault) (Cycle fault) NoTrees e (said_cycle fault) valid)
  where
    go : IsValidNode m (Branch node.lines (Cycle fault) NoTrees) → AreLines m fault
    go (parent, levels, are, within) = lines_within m fault node.lines within.2 (lines_within m node.lines parent within.1 are)

pub violator_lines : (m : Matrix) (node : Node) (fault : LineSet) → node.kind ≡ kind.Violator fault → IsValidNode m (tree_of node) → AreLines m fault
violator_lines m node fault e valid = go (branch_valid m node (kind.Violator fault) (Violator fault) NoTrees e (said_violator fault) valid)
  where
    go : IsValidNode m (Branch node.lines (Violator fault) NoTrees) → AreLines m fault
    go (parent, levels, are, within) = lines_within m fault node.lines within.2 (lines_within m node.lines parent within.1 are)

pub two_lines : (m : Matrix) (node : Node) (two : Two) (one_child two_child : Box Node Global) → node.kind ≡ kind.TwoSum two one_child two_child
    → IsValidNode m (tree_of node) → Contains node.lines.rows two.row × Contains node.lines.columns two.column
two_lines m node two one_child two_child e valid = go (branch_valid m node (kind.TwoSum two one_child two_child) (TwoSum two) (two_trees (tree_of one_child.value) (tree_of two_child.value)) e (said_two_sum two one_child two_child) valid)
  where
    go : IsValidNode m (Branch node.lines (TwoSum two) (two_trees (tree_of one_child.value) (tree_of two_child.value))) → Contains node.lines.rows two.row × Contains node.lines.columns two.column
    go (parent, levels, are, within) = (within.2.1, within.2.2)

pub three_lines : (m : Matrix) (node : Node) (t : Three) (one_child two_child : Box Node Global) → node.kind ≡ kind.ThreeSum t one_child two_child → IsValidNode m (tree_of node)
    → HasConnector (first_is_flat t.form) node.lines.rows node.lines.columns t.first × HasConnector (second_is_flat t.form) node.lines.rows node.lines.columns t.second
three_lines m node t one_child two_child e valid = go (branch_valid m node (kind.ThreeSum t one_child two_child) (ThreeSum t) (two_trees (tree_of one_child.value) (tree_of two_child.value)) e (said_three_sum t one_child two_child) valid)
  where
    go : IsValidNode m (Branch node.lines (ThreeSum t) (two_trees (tree_of one_child.value) (tree_of two_child.value)))
        → HasConnector (first_is_flat t.form) node.lines.rows node.lines.columns t.first × HasConnector (second_is_flat t.form) node.lines.rows node.lines.columns t.second
    go (parent, levels, are, within) = (within.2.1, within.2.2)

pub pivot_lines : (m : Matrix) (node : Node) (place : Position) (child : Box Node Global) → node.kind ≡ kind.Pivoted place child → IsValidNode m (tree_of node)
    → Contains node.lines.rows place.row × Contains node.lines.columns place.column
pivot_lines m node place child e valid = go (subst (IsValidNode m) (pivoted_is node place child e) valid)
  where
    go : IsValidNode m (Branch node.lines (Pivoted place) (one_tree (tree_of child.value))) → Contains node.lines.rows place.row × Contains node.lines.columns place.column
    go (parent, levels, are, within) = (within.2.0, within.2.1)

-- a pivoted node that keeps its rule
pub own_pivot : (m : Matrix) (node : Node) (place : Position) (child : Box Node Global) → node.kind ≡ kind.Pivoted place child → IsValidNode m (tree_of node) → IsOwnRule m (tree_of node) None
    → IsPlaceIn m node.lines place × IsTernaryPivot m node.lines place
own_pivot m node place child e valid own = go (subst (λ tree. IsOwnRule m tree None) (pivoted_is node place child e) own)
  where
    go : IsOwnRule m (Branch node.lines (Pivoted place) (one_tree (tree_of child.value))) None → IsPlaceIn m node.lines place × IsTernaryPivot m node.lines place
    go keeps =
        let lines = pivot_lines m node place child e valid in
        let own = keeps rule.NotPivot in (record { row = lines.0; column = lines.1; nonzero = own.0 }, own.1)

-- ---- one rule

pub few_lines : (a b rows columns least : ℕ) → a ≡ rows → b ≡ columns → least ≡ min a b → least ≤ 24 → min rows columns ≤ 24
few_lines a b rows columns least e f g h = subst (λ n. min rows n ≤ 24) f (subst (λ n. min n b ≤ 24) e (subst (λ n. n ≤ 24) g h))

-- the sizes of a part are the lengths of its lists of lines
pub part_sizes : (m : Matrix) (lines : LineSet) (whole : Matrix) → whole ≡ part m lines → min (height whole) whole.width ≡ min (length lines.rows) (length lines.columns)
part_sizes m lines whole e = ap (λ p. min (height p) p.width) e ∙ ap (λ n. min n (length lines.columns)) (length-map lines.rows (λ row. map (entry m row) lines.columns))

pub enumerated_says : (m : Matrix) (lines : LineSet) (whole : Matrix) (b : Bool) → whole ≡ part m lines → min (length lines.rows) (length lines.columns) ≤ 24
    → IsTrue b ↔ HasNoViolator whole → Says m lines Enumerated (unless b rule.NotClean)
enumerated_says m lines whole b e few h = go b (subst (λ p. IsTrue b ↔ HasNoViolator p) e h)
  where
    go : (b : Bool) → IsTrue b ↔ HasNoViolator (part m lines) → Says m lines Enumerated (unless b rule.NotClean)
    go true h children = kept
      where
        kept : (broken : Rule) → Demands broken m lines Enumerated children
        kept rule.TooMany = few
        kept rule.NotClean = h.0 refl
        kept _ = tt
    go false h children = (false_not h, before)
      where
        before : (earlier : Rule) → rule_number earlier < rule_number rule.NotClean → Demands earlier m lines Enumerated children
        before rule.TooMany l = few
        before rule.NotClean l = absurd (omega (arith, l))
        before _ l = tt

pub r10_says : (m : Matrix) (lines : LineSet) (whole : Matrix) (b : Bool) → whole ≡ part m lines → IsR10 whole → IsTrue b ↔ HasNoCycleFault (entry whole) → Says m lines R10 (unless b rule.CycleFault)
r10_says m lines whole b e is h = go b (subst IsR10 e is) (subst (λ p. IsTrue b ↔ HasNoCycleFault (entry p)) e h)
  where
    go : (b : Bool) → IsR10 (part m lines) → IsTrue b ↔ HasNoCycleFault (entry (part m lines)) → Says m lines R10 (unless b rule.CycleFault)
    go true is h children = kept
      where
        kept : (broken : Rule) → Demands broken m lines R10 children
        kept rule.NotR10 = is
        kept rule.CycleFault = h.0 refl
        kept _ = tt
    go false is h children = (false_not h, before)
      where
        before : (earlier : Rule) → rule_number earlier < rule_number rule.CycleFault → Demands earlier m lines R10 children
        before rule.NotR10 l = is
        before rule.CycleFault l = absurd (omega (arith, l))
        before _ l = tt

pub pivot_says : (m : Matrix) (lines : LineSet) (place : Position) (yes : Bool) → entry m place.row place.column ≢ pos 0
    → IsTrue yes ↔ IsTernaryPivot m lines place → Says m lines (Pivoted place) (unless yes rule.NotPivot)
pivot_says m lines place true nonzero h children = kept
  where
    kept : (broken : Rule) → Demands broken m lines (Pivoted place) children
    kept rule.NotPivot = (nonzero, h.0 refl)
    kept _ = tt
pivot_says m lines place false nonzero h children = (λ keeps. false_not h keeps.1, before)
  where
    before : (earlier : Rule) → rule_number earlier < rule_number rule.NotPivot → Demands earlier m lines (Pivoted place) children
    before rule.NotPivot l = absurd (omega (arith, l))
    before _ l = tt
