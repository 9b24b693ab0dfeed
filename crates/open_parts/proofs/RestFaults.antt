-- The fault of a decomposition of a submatrix, by the line numbers of the whole matrix.
use Rattle.std.proofs.Common.{◌≡◌, ◌<◌, ◌≤◌, ℕ, [], length, subst}
use Rattle.cmr_base.specs.declared.line_set.LineSet.{LineSet}
use Rattle.cmr_base.specs.Matrix.{Matrix, height, entry, IsMatrix}
use Rattle.cmr_base.specs.LineSets.{AllBelow}
use Rattle.cmr_base.specs.Violator.{IsViolator}
use Rattle.cmr_base.proofs.Lists.{all_by_places}
use Rattle.tree_type.specs.DecompositionTrees.{Tree, lines_at_root}
use Rattle.tree_type.specs.Invariant.{AreLines, AreLinesOf, IsTreeFor}
use Rattle.tree_type.specs.Places.{AllLines}
use Rattle.tree_type.specs.Soundness.{part}
use Rattle.tree_type.specs.Verdicts.{No, verdict_of}
use Rattle.tree_type.proofs.PlacedLines.{lines_within, part_is}
use Rattle.tree_laws.specs.Laws.{VerdictMeans}
use Rattle.tree_laws.proofs.SoundTrees.{verdict_means}
use Rattle.decomp_tree.specs.Seen.{IsPlacedSet}
use Rattle.decomp_tree.specs.Shapes.{IsShape, set_in}
use Rattle.decomp_tree.proofs.FaultLines.{fault_in, fault_of_verdict}
use Rattle.decomp_tree.proofs.Kept.{named_lines}
use Rattle.decomp_tree.proofs.Numbered.{height_in, violator_in}
use Rattle.decomp_tree.proofs.OneTree.{due_here}
use Rattle.decomp_tree.proofs.PivotedRoots.{shapes_are_sound, shapes_are_trees}
use Rattle.decomp_tree.proofs.Roots.{root_lines}

module _ (limit : ℕ) (m : Matrix) (lines : LineSet) (is : IsMatrix m) (are : AreLines m lines) (tree : Tree) (shape : IsShape limit (part m lines) tree) (fault : LineSet) (says : verdict_of tree ≡ No fault) where
  n : Matrix
  n = part m lines

  is_part : IsMatrix (part m lines)
  is_part = part_is m lines is are

  is_tree : IsTreeFor (height (part m lines)) (part m lines).width tree
  is_tree = shapes_are_trees limit (part m lines) tree is_part shape

  -- the fault has lines of the submatrix
  fault_are : AreLines (part m lines) fault
  fault_are =
      let root = due_here limit (part m lines) [] [] (AllLines (height (part m lines)) (part m lines).width) tree shape in
      lines_within (part m lines) fault (lines_at_root tree) (fault_in (lines_at_root tree) 2001 tree fault is_tree.nodes (fault_of_verdict tree fault says))
      (root_lines (part m lines) is_part (lines_at_root tree) root.0 root.1)

  pub fault_placed : IsPlacedSet lines fault
  fault_placed = record { rows = subst (λ k. AllBelow k fault.rows) (height_in m lines) fault_are.rows.in_range; columns = fault_are.columns.in_range }

  pub fault_among : AreLinesOf (set_in lines fault) lines
  fault_among = named_lines lines fault are.rows.increasing are.columns.increasing fault_placed fault_are.rows.increasing fault_are.columns.increasing

  -- it is a violator of the matrix
  pub fault_violates : limit ≤ 24 → IsViolator (entry m) (set_in lines fault).rows (set_in lines fault).columns
  fault_violates few =
      let sound = shapes_are_sound limit few (part m lines) is_part tree shape in
      let told = subst (VerdictMeans (part m lines)) says (verdict_means (part m lines) is_part (height (part m lines)) (part m lines).width tree is_tree sound) in
      violator_in m lines fault.rows fault.columns (all_by_places (λ r. r < length lines.rows) fault.rows 0 fault_placed.rows) (all_by_places (λ c. c < length lines.columns) fault.columns 0 fault_placed.columns) told.violator
