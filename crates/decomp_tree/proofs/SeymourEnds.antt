-- A matrix whose open lines end without a three-separation has a violator among them, if Seymour's theorem holds.
use Rattle.std.proofs.Common.{◌⊎◌, inl, inr, ℕ, zero, suc}
use Rattle.std.specs.List.{Contains}
use Rattle.cmr_base.specs.declared.line_set.LineSet.{LineSet}
use Rattle.cmr_base.specs.Matrix.{Matrix, IsMatrix}
use Rattle.cmr_base.specs.PlacedPivots.{pivoted_part}
use Rattle.cmr_base.specs.Violator.{HasNoViolator}
use Rattle.cmr_base.proofs.Lists.{all_weaker}
use Rattle.ghouila.proofs.ViolatedLines.{free_from_submatrix, submatrix_from_free}
use Rattle.pivots.proofs.PartLaws.{none_among_from_free, free_from_none_among, part_pivots_keep_violators, part_pivots_stay_matrices}
use Rattle.pivots.specs.PartLaws.{HasNoViolatorAmong}
use Rattle.separating_places.proofs.ChosenPlaces.{chosen_place_in}
use Rattle.tree_type.specs.Invariant.{AreLines, AreLinesOf}
use Rattle.tree_type.specs.Soundness.{part}
use Rattle.tree_type.proofs.PlacedLines.{part_is}
use Rattle.decomp_tree.specs.OpenEnds.{EndsOpen}
use Rattle.decomp_tree.specs.SeymourEnds.{AreAllMade, OpenEndsRefute, SeymourDecomposes}

-- lines among these contain no violator if these contain none
fewer_free : (m : Matrix) (lines left : LineSet) → AreLinesOf left lines → HasNoViolatorAmong m lines → HasNoViolatorAmong m left
fewer_free m lines left within none R C is_rows is_columns among =
    none R C is_rows is_columns (record { rows = all_weaker (Contains left.rows) (Contains lines.rows) within.rows R among.rows; columns = all_weaker (Contains left.columns) (Contains lines.columns) within.columns C among.columns })

among_free : (m : Matrix) (lines : LineSet) → HasNoViolator (part m lines) → HasNoViolatorAmong m lines
among_free m lines free = none_among_from_free m lines (free_from_submatrix m lines.rows lines.columns free)

part_free : (m : Matrix) (lines : LineSet) → AreLines m lines → HasNoViolatorAmong m lines → HasNoViolator (part m lines)
part_free m lines are none = submatrix_from_free m lines.rows lines.columns (free_from_none_among m lines are.rows.in_range are.columns.in_range none)

refute : SeymourDecomposes → (limit pivots state : ℕ) (m : Matrix) (lines : LineSet) → IsMatrix m → AreLines m lines → EndsOpen limit pivots state m lines
    → AreAllMade limit pivots state m lines ⊎ (¬ (HasNoViolator (part m lines)))
refute seymour limit zero state m lines is are e = inl tt
refute seymour limit (suc pivots) state m lines is are (inl late) = inr (λ free. seymour limit (part m lines) (part_is m lines is are) late.case late.no_separation free)
refute seymour limit (suc pivots) state m lines is are (inr l) =
    let after = pivoted_part m lines l.chosen.place in
    elim (refute seymour limit pivots l.chosen.state after l.left (part_pivots_stay_matrices m lines l.chosen.place is l.ternary) l.are l.ends) [
      | inl made ↦ inl (record { chosen = l.chosen; at = l.at; ternary = l.ternary; left = l.left; are = l.are; within = l.within; case = l.case; ends = made })
      | inr violated ↦ inr (λ free. violated (part_free after l.left l.are (fewer_free after lines l.left l.within
          ((part_pivots_keep_violators m lines l.chosen.place is.small are.rows are.columns (chosen_place_in m lines state l.chosen l.at)).0 (among_free m lines free)))))
    ]

pub open_ends_refute : OpenEndsRefute
open_ends_refute seymour limit pivots m lines is are end = refute seymour limit end.made 1 m lines is are end.ends
