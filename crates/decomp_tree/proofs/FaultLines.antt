-- The fault that the verdict of a tree names has lines of the tree's root.
use Rattle.std.proofs.Common.{◌≡◌, ◌-◌, inl, inr, ℕ, Contains, Option, Some, None, refl, subst}
use Rattle.cmr_base.specs.declared.line_set.LineSet.{LineSet}
use Rattle.cmr_base.proofs.Lists.{all_contain, all_weaker}
use Rattle.cmr_base.proofs.Options.{some_or, some_same}
use Rattle.pivots.specs.PivotedParts.{AreAmong}
use Rattle.tree_type.specs.DecompositionTrees.{Finding, Empty, Cycle, Reduced, OneSum, Network, Conetwork, R10, TwoSum, ThreeSum, Enumerated, Violator, Undecided, Pivoted, Tree, Trees, Branch, NoTrees, MoreTrees, lines_at_root}
use Rattle.cmr_base.specs.Matrix.{Matrix}
use Rattle.tree_type.specs.Invariant.{AreLines, AreLinesOf, FitsLines, IsTreeWithin, AreTreesWithin}
use Rattle.tree_type.specs.Verdicts.{Verdict, Yes, No, Open, first_in, first_among, fault_at, open_at, verdict_from, verdict_of}
use Rattle.decomp_tree.specs.PivotedShapes.{HasFaultAmong}

pub lines_of_lines : (a b c : LineSet) → AreLinesOf a b → AreLinesOf b c → AreLinesOf a c
lines_of_lines a b c x y = record {
  rows_increase = x.rows_increase;
  columns_increase = x.columns_increase;
  rows = λ row h. y.rows row (x.rows row h);
  columns = λ column h. y.columns column (x.columns column h);
}

-- lines of others are lines of themselves
pub lines_of_lines_of : (lines parent : LineSet) → AreLinesOf lines parent → AreLinesOf lines lines
lines_of_lines_of lines parent are = record { rows_increase = are.rows_increase; columns_increase = are.columns_increase; rows = λ row h. h; columns = λ column h. h }

-- all lines are among themselves
pub lines_themselves : (m : Matrix) (lines : LineSet) → AreLines m lines → AreLinesOf lines lines
lines_themselves m lines are = record { rows_increase = are.rows.increasing; columns_increase = are.columns.increasing; rows = λ row h. h; columns = λ column h. h }

fault_here : (lines : LineSet) (finding : Finding) (trees : Trees) (fault : LineSet) → FitsLines lines finding trees → fault_at lines finding ≡ Some fault → AreLinesOf fault lines
fault_here lines (Cycle found) trees fault fits e = subst (λ f. AreLinesOf f lines) (some_same found fault e) fits
fault_here lines (Violator found) trees fault fits e = subst (λ f. AreLinesOf f lines) (some_same found fault e) fits
fault_here lines Empty trees fault fits e = cc
fault_here lines (Reduced steps) trees fault fits e = cc
fault_here lines OneSum trees fault fits e = cc
fault_here lines (Network net) trees fault fits e = cc
fault_here lines (Conetwork net) trees fault fits e = cc
fault_here lines R10 trees fault fits e = cc
fault_here lines (TwoSum two) trees fault fits e = cc
fault_here lines (ThreeSum three) trees fault fits e = cc
fault_here lines Enumerated trees fault fits e = cc
fault_here lines Undecided trees fault fits e = cc
fault_here lines (Pivoted place) trees fault fits e = cc

mutual
  pub fault_in : (parent : LineSet) (levels : ℕ) (tree : Tree) (fault : LineSet) → IsTreeWithin parent levels tree → first_in fault_at tree ≡ Some fault → AreLinesOf fault (lines_at_root tree)
  fault_in parent levels (Branch lines finding trees) fault within e = elim (some_or (fault_at lines finding) (first_among fault_at trees) fault e) [
    | inl here ↦ fault_here lines finding trees fault within.2 here
    | inr below ↦ fault_below lines (levels - 1) trees fault within.4 below
  ]

  fault_below : (lines : LineSet) (levels : ℕ) (trees : Trees) (fault : LineSet) → AreTreesWithin lines levels trees → first_among fault_at trees ≡ Some fault → AreLinesOf fault lines
  fault_below lines levels NoTrees fault within e = cc
  fault_below lines levels (MoreTrees (Branch child finding trees) others) fault within e = elim (some_or (first_in fault_at (Branch child finding trees)) (first_among fault_at others) fault e) [
    | inl here ↦ lines_of_lines fault child lines (fault_in lines levels (Branch child finding trees) fault within.0 here) within.0.1
    | inr later ↦ fault_below lines levels others fault within.1 later
  ]

fault_from : (fault undecided : Option LineSet) (found : LineSet) → verdict_from fault undecided ≡ No found → fault ≡ Some found
fault_from None None found e = cc
fault_from None (Some left) found e = cc
fault_from (Some fault) undecided found e = cc

-- the fault of a verdict is the first that a node names
pub fault_of_verdict : (tree : Tree) (fault : LineSet) → verdict_of tree ≡ No fault → first_in fault_at tree ≡ Some fault
fault_of_verdict tree fault e = fault_from (first_in fault_at tree) (first_in open_at tree) fault e

pub among_lines : (fault lines : LineSet) → AreLinesOf fault lines → AreAmong lines fault.rows fault.columns
among_lines fault lines are = record {
  rows = all_weaker (Contains fault.rows) (Contains lines.rows) are.rows fault.rows (all_contain fault.rows);
  columns = all_weaker (Contains fault.columns) (Contains lines.columns) are.columns fault.columns (all_contain fault.columns);
}

pub fault_among : (parent : LineSet) (levels : ℕ) (tree : Tree) → IsTreeWithin parent levels tree → HasFaultAmong (lines_at_root tree) (verdict_of tree)
fault_among parent levels tree within = go (verdict_of tree) refl
  where
    go : (v : Verdict) → verdict_of tree ≡ v → HasFaultAmong (lines_at_root tree) v
    go Yes e = tt
    go (No fault) e = among_lines fault (lines_at_root tree) (fault_in parent levels tree fault within (fault_of_verdict tree fault e))
    go (Open left) e = tt
