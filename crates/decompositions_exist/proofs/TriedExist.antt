-- A matrix has a decomposition with pivots whose open parts are tried.
use Rattle.std.proofs.Common.{ℕ, zero, suc, List, [], ◌∷◌, Option, Some, None, get_or, refl}
use Rattle.cmr_base.specs.declared.line.Line.{Line}
use Rattle.cmr_base.specs.declared.line_set.LineSet.{LineSet}
use Rattle.cmr_base.specs.LineSets.{AllBelow}
use Rattle.cmr_base.specs.Matrix.{Matrix, IsMatrix, height}
use Rattle.cmr_base.specs.Members.{IsIn}
use Rattle.cmr_base.specs.Reductions.{columns_without, rows_without}
use Rattle.cmr_base.proofs.ListsWithout.{contains_from_in}
use Rattle.cmr_base.proofs.Members.{in_at}
use Rattle.cmr_base.proofs.Places.{contained_below}
use Rattle.cmr_base.proofs.RemovedLines.{columns_increase, columns_within, rows_increase, rows_within}
use Rattle.tree_type.specs.DecompositionTrees.{Tree, Branch, lines_at_root}
use Rattle.tree_type.specs.Invariant.{AreLines, IsTreeFor}
use Rattle.tree_type.specs.Soundness.{part}
use Rattle.tree_type.specs.Verdicts.{No, Open, Verdict, Yes, verdict_of}
use Rattle.tree_type.proofs.PlacedLines.{part_is}
use Rattle.decomp_tree.specs.Shapes.{set_in}
use Rattle.decomp_tree.proofs.PivotedRoots.{pivoted_shapes_are_trees}
use Rattle.open_parts.specs.Rests.{GoesOnAfter, RemovesInTurn, rest_without, turns_of}
use Rattle.open_parts.specs.TriedShapes.{IsTriedIf, IsTriedIfOpen, IsTriedLeaf, IsTriedWith, leaf_with}
use Rattle.decompositions_exist.proofs.NotExcluded.{NotExcluded}
use Rattle.decompositions_exist.proofs.PivotedExist.{refined_exists, shape_with_exists}
use Rattle.decompositions_exist.proofs.ShapesExist.{whole_shape_exists}

below : (bound : ℕ) (xs ys : List ℕ) → ((x : ℕ) → IsIn x xs → IsIn x ys) → AllBelow bound ys → AllBelow bound xs
below bound xs ys within low k l = contained_below bound ys (get_or xs k 0) low (contains_from_in ys (get_or xs k 0) (within (get_or xs k 0) (in_at xs k l)))

module _ (limit : ℕ) (m : Matrix) (is : IsMatrix m) where
  rest_are : (kept : LineSet) (line : Line) → AreLines m kept → AreLines m (rest_without kept line)
  rest_are kept line are = record {
    rows = record { increasing = rows_increase line kept.rows are.rows.increasing; in_range = below (height m) (rows_without kept.rows line) kept.rows (rows_within line kept.rows) are.rows.in_range };
    columns = record { increasing = columns_increase line kept.columns are.columns.increasing; in_range = below m.width (columns_without kept.columns line) kept.columns (columns_within line kept.columns) are.columns.in_range };
  }

  -- the search ends from these lines
  abbrev EndsFrom : List Line → LineSet → Type 0
  EndsFrom turns kept = NotExcluded ((found : Option LineSet) × RemovesInTurn limit m turns kept found)

  goes_on : (turns : List Line) (kept rest : LineSet) → EndsFrom turns kept → EndsFrom turns rest → (verdict : Verdict)
      → NotExcluded ((found : Option LineSet) × GoesOnAfter (RemovesInTurn limit m turns) kept rest verdict found)
  goes_on turns kept rest with_line without_line Yes none = with_line none
  goes_on turns kept rest with_line without_line (No fault) none = none (Some (set_in rest fault), refl)
  goes_on turns kept rest with_line without_line (Open left) none = without_line none

  leaves_out_exists : (turns : List Line) (kept : LineSet) → AreLines m kept → EndsFrom turns kept
  leaves_out_exists [] kept are none = none (None, refl)
  leaves_out_exists (line ∷ turns) kept are none =
      let rest = rest_without kept line in
      let rest_lines = rest_are kept line are in
      whole_shape_exists limit (part m rest) (part_is m rest is rest_lines) (λ tree.
      goes_on turns kept rest (leaves_out_exists turns kept are) (leaves_out_exists turns rest rest_lines) (verdict_of tree.0) (λ found. none (found.0, (tree.0, tree.1, found.1))))

  leaf_exists : (lines : LineSet) → AreLines m lines → NotExcluded ((tree : Tree) × IsTriedLeaf limit m lines tree)
  leaf_exists lines are none = leaves_out_exists (turns_of lines) lines are (λ found. none (leaf_with lines found.0, (found.0, found.1, refl)))

  root_are : (tree : Tree) → IsTreeFor (height m) m.width tree → AreLines m (lines_at_root tree)
  root_are (Branch lines finding trees) is_tree = record {
    rows = record { increasing = is_tree.nodes.1.rows_increase; in_range = is_tree.root_rows };
    columns = record { increasing = is_tree.nodes.1.columns_increase; in_range = is_tree.root_columns };
  }

  if_open : (drawn : Tree) → IsTreeFor (height m) m.width drawn → (verdict : Verdict) → NotExcluded ((tree : Tree) × IsTriedIfOpen limit m drawn verdict tree)
  if_open drawn is_tree Yes none = none (drawn, refl)
  if_open drawn is_tree (No fault) none = none (drawn, refl)
  if_open drawn is_tree (Open left) none = refined_exists m (IsTriedLeaf limit m) leaf_exists (lines_at_root drawn) 2001 drawn (root_are drawn is_tree) is_tree.nodes none

  if_pivots : (pivots : ℕ) (drawn : Tree) → IsTreeFor (height m) m.width drawn → NotExcluded ((tree : Tree) × IsTriedIf pivots limit m drawn tree)
  if_pivots zero drawn is_tree none = none (drawn, refl)
  if_pivots (suc more) drawn is_tree none = if_open drawn is_tree (verdict_of drawn) none

  -- the matrix has a decomposition whose open parts are tried
  pub tried_with_exists : (pivots : ℕ) → NotExcluded ((tree : Tree) × IsTriedWith limit pivots m tree)
  tried_with_exists pivots none = shape_with_exists limit pivots m is (λ drawn. if_pivots pivots drawn.0 (pivoted_shapes_are_trees limit pivots m drawn.0 is drawn.1) (λ tree.
      none (tree.0, record { drawn = drawn.0; shape = drawn.1; tried = tree.1 })))
