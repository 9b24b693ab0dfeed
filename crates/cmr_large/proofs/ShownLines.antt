-- The lines that a verdict names are lines of the matrix.
use Rattle.std.proofs.Common.{◌≡◌, ◌≤◌, ◌++◌, ◌∙◌, ℕ, List, ◌∷◌, length, slice_index_or, ap, subst, arith}
use Rattle.std.proofs.Math.Seq.{get_or-append_seam}
use Rattle.std.proofs.lemmas.List.{length-append}
use Rattle.std.specs.List.{Contains}
use Rattle.cmr_base.specs.declared.limits.TheConstants.{MAX_LINES}
use Rattle.cmr_base.specs.declared.line_set.LineSet.{LineSet}
use Rattle.cmr_base.specs.LineSets.{AllBelow}
use Rattle.cmr_base.specs.Matrix.{IsTernary, Matrix}
use Rattle.sparse_matrix.specs.SparseRows.{SparseRows, matrix_of_runs}
use Rattle.core_parts.proofs.MarkedRuns.{height_of_runs}
use Rattle.large_unimodular.specs.declared.verdict.LargeVerdict.{LargeVerdict}
use Rattle.large_unimodular.specs.declared.verdict.LargeVerdict.TheVariants.{Yes, No, Open}
use Rattle.large_unimodular.specs.LargeVerdicts.{IsFirstOpen, IsLargeVerdict}
use Rattle.large_unimodular.proofs.LargeMeaning.{contained_lines, verdicts_mean}
use Rattle.cmr_large.specs.LargeReports.{IsUndecidedPart, NamesLines}

contained : (parts before after : List LineSet) (lines : LineSet) → parts ≡ before ++ lines ∷ after → Contains parts lines
contained parts before after lines e = (
  length before,
  (let long = ap length e in let both = length-append before (lines ∷ after) in omega (arith, long, both)),
  ap (λ (all : List LineSet). slice_index_or all (length before) lines) e ∙ get_or-append_seam before lines after lines,
)

module _ (limit pivots : ℕ) (m : Matrix) (few : limit ≤ MAX_LINES) (is : IsTernary m) where
  -- the part that an undecided verdict names stays open
  pub undecided_part : (lines : LineSet) → IsLargeVerdict limit pivots m (Open lines) → IsUndecidedPart limit pivots m lines
  undecided_part lines right =
      let among = contained right.parts right.verdict_is.before right.verdict_is.after lines right.verdict_is.order in
      record {
        are_lines = contained_lines m right.parts lines is right.are among;
        parts = right.parts;
        are = right.are;
        among = among;
        stays = right.verdict_is.stays;
      }

  pub names_lines : (verdict : LargeVerdict) → IsLargeVerdict limit pivots m verdict → NamesLines m verdict
  names_lines Yes right = tt
  names_lines (No lines) right = let refuted = verdicts_mean limit pivots m (No lines) few is right in record { rows = refuted.row_set; columns = refuted.column_set }
  names_lines (Open lines) right = (undecided_part lines right).are_lines

module _ (m : SparseRows) (verdict : LargeVerdict) (lines : LineSet) (names : NamesLines (matrix_of_runs m) verdict) where
  pub violator_rows : verdict ≡ No lines → AllBelow (length m.runs) lines.rows
  violator_rows e = subst (λ (n : ℕ). AllBelow n lines.rows) (height_of_runs m) (subst (NamesLines (matrix_of_runs m)) e names).rows.in_range

  pub violator_columns : verdict ≡ No lines → AllBelow m.width lines.columns
  violator_columns e = (subst (NamesLines (matrix_of_runs m)) e names).columns.in_range

  pub open_rows : verdict ≡ Open lines → AllBelow (length m.runs) lines.rows
  open_rows e = subst (λ (n : ℕ). AllBelow n lines.rows) (height_of_runs m) (subst (NamesLines (matrix_of_runs m)) e names).rows.in_range

  pub open_columns : verdict ≡ Open lines → AllBelow m.width lines.columns
  open_columns e = (subst (NamesLines (matrix_of_runs m)) e names).columns.in_range
