-- Sets of lines that contain no violator.
use Rattle.std.proofs.Common.{◌<◌, Contains}
use Rattle.cmr_base.specs.declared.line_set.LineSet.{LineSet}
use Rattle.cmr_base.specs.Matrix.{Matrix, height, entry}
use Rattle.cmr_base.specs.LineSets.{first_lines}
use Rattle.cmr_base.specs.Violator.{HasNoViolator}
use Rattle.cmr_base.proofs.ListedLines.{contains_first_lines}
use Rattle.ghouila.proofs.ViolatedLines.{FreeIn, narrower, free_from_submatrix}
use Rattle.ghouila.proofs.ViolatedLines as violated
use Rattle.tree_type.specs.Soundness.{part}

-- these lines contain no violator
abbrev pub IsFreeOn : Matrix → LineSet → Type 0
IsFreeOn m lines = FreeIn (entry m) (Contains lines.rows) (Contains lines.columns)

pub free_from_part : (m : Matrix) (lines : LineSet) → HasNoViolator (part m lines) → IsFreeOn m lines
free_from_part m lines none = free_from_submatrix m lines.rows lines.columns none

-- all lines of the matrix
pub none_from_free : (m : Matrix) → FreeIn (entry m) (Contains (first_lines (height m))) (Contains (first_lines m.width)) → HasNoViolator m
none_from_free m free = violated.none_from_free m
    (narrower (entry m) (Contains (first_lines (height m))) (Contains (first_lines m.width)) (λ r. r < height m) (λ c. c < m.width) (contains_first_lines (height m)) (contains_first_lines m.width) free)
