-- Lines without a violator among them, and cycle faults.
use Rattle.std.proofs.Common.{◌<◌, length, map, Contains, subst}
use Rattle.std.specs.List.{AllByRecursion}
use Rattle.cmr_base.specs.declared.line_set.LineSet.{LineSet}
use Rattle.cmr_base.specs.Matrix.{Matrix, height, entry, IsMatrix}
use Rattle.cmr_base.specs.CyclePlaces.{HasNoCycleFault}
use Rattle.cmr_base.proofs.Lists.{all_weaker, all-map}
use Rattle.cmr_base.proofs.IncreasingLists.{row_set_increases, column_set_increases, increasing_below}
use Rattle.tree_laws.proofs.FreeSets.{IsFreeOn}
use Rattle.ghouila.proofs.SignsUnique.{no_violator_no_fault}
use Rattle.tree_type.specs.Invariant.{AreLines}
use Rattle.tree_type.specs.Soundness.{part}
use Rattle.tree_type.proofs.PlacedLines.{part_is}
use Rattle.decomp_tree.specs.Shapes.{numbered}
use Rattle.decomp_tree.specs.Seen.{HasNoneAmong}
use Rattle.decomp_tree.proofs.Kept.{named_contained}
use Rattle.decomp_tree.proofs.Numbered.{height_in, violator_in}

-- in both forms
pub none_from_free : (m : Matrix) (lines : LineSet) → IsFreeOn m lines → HasNoneAmong m lines
none_from_free m lines free R C rows columns v = free (record { R = R; C = C; rows = rows; columns = columns; violator = v })

pub free_from_none : (m : Matrix) (lines : LineSet) → HasNoneAmong m lines → IsFreeOn m lines
free_from_none m lines none v = none v.R v.C v.rows v.columns v.violator

module _ (m : Matrix) (is : IsMatrix m) (lines : LineSet) (are : AreLines m lines) where
  -- lines without a violator among them have no cycle fault
  pub no_fault_among : HasNoneAmong m lines → HasNoCycleFault (entry (part m lines))
  no_fault_among none = no_violator_no_fault (part m lines) inner.rectangular inner.small (λ R C rows columns v.
      let low_rows = subst (λ k. AllByRecursion (λ r. r < k) R) (height_in m lines) (increasing_below 0 (height (part m lines)) R (row_set_increases (part m lines) R rows)) in
      let low_columns = increasing_below 0 (length lines.columns) C (column_set_increases (part m lines) C columns) in
      none (map (numbered lines.rows) R) (map (numbered lines.columns) C)
      (all-map (Contains lines.rows) (numbered lines.rows) R (all_weaker (λ r. r < length lines.rows) (λ r. Contains lines.rows (numbered lines.rows r)) (named_contained lines.rows) R low_rows))
      (all-map (Contains lines.columns) (numbered lines.columns) C (all_weaker (λ c. c < length lines.columns) (λ c. Contains lines.columns (numbered lines.columns c)) (named_contained lines.columns) C low_columns))
      (violator_in m lines R C low_rows low_columns v))
    where
      inner : IsMatrix (part m lines)
      inner = part_is m lines is are
