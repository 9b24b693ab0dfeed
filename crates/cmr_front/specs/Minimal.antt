-- The minimal submatrix without a property, which a tool reports if its file is requested.
use Rattle.std.specs.Prelude.{◌≡◌, ◌++◌, ℕ, List, [], Option, Some, None, IsSomeAnd, codes}
use Rattle.cmr_base.specs.Matrix.{Matrix, height}
use Rattle.cmr_base.specs.GreedySets.{IsGreedySet, IsMinimalWithout}
use Rattle.cmr_base.specs.declared.line_set.LineSet.{LineSet}
use Rattle.matrix_text.specs.CanonicalMatrices.{submatrix_text}
use Rattle.cmr_front.specs.Printed.{line_set_text}
use Rattle.cmr_front.specs.Report.{File, asked_file}

-- the greedy set: it lacks the property and is minimal with that
pub record IsMinimalSet (P : Matrix → Type 0) (m : Matrix) (lines : LineSet) : Type 0 where
  pub greedy : IsGreedySet P m lines.rows lines.columns
  pub minimal : IsMinimalWithout P m lines.rows lines.columns

-- this set if its file is requested, and none otherwise
abbrev pub IsMinimalAsked : (Matrix → Type 0) → Matrix → Option (List ℕ) → Option LineSet → Type 0
IsMinimalAsked P m None found = found ≡ None
IsMinimalAsked P m (Some name) found = IsSomeAnd found (IsMinimalSet P m)

-- its line of output
abbrev pub minimal_line : Option LineSet → List ℕ
minimal_line None = []
minimal_line (Some lines) = codes "minimal " ++ line_set_text lines.rows lines.columns ++ codes "\n"

-- its file
abbrev pub minimal_file : Option (List ℕ) → Matrix → Option LineSet → List File
minimal_file name m None = []
minimal_file name m (Some lines) = asked_file name (submatrix_text (height m) m.width lines)
