-- The report of a verdict on a matrix of any size, and what its answer means.
use Rattle.std.specs.Prelude.{◌≡◌, ◌≤◌, ◌++◌, ℕ, List, [], length, Option, Contains, codes}
use Rattle.std.specs.Fmt.{decimal}
use Rattle.cmr_base.specs.declared.limits.TheConstants.{MAX_LINES}
use Rattle.cmr_base.specs.declared.line_set.LineSet.{LineSet}
use Rattle.cmr_base.specs.Matrix.{IsTernary, Matrix, height}
use Rattle.cmr_base.specs.LineSets.{submatrix_sum}
use Rattle.matrix_text.specs.CanonicalMatrices.{submatrix_text}
use Rattle.tree_type.specs.Invariant.{AreLines}
use Rattle.core_parts.specs.CoreParts.{AreCoreParts}
use Rattle.large_unimodular.specs.declared.part_verdicts.PartVerdict.TheVariants as own
use Rattle.large_unimodular.specs.declared.verdict.LargeVerdict.{LargeVerdict}
use Rattle.large_unimodular.specs.declared.verdict.LargeVerdict.TheVariants as verdicts
use Rattle.large_unimodular.specs.LargeVerdicts.{HasVerdict, IsLargeVerdict}
use Rattle.cmr_front.specs.declared.status.Answer.{Answer}
use Rattle.cmr_front.specs.declared.status.Answer.TheVariants.{Yes, No, Undecided, Refused}
use Rattle.cmr_front.specs.Printed.{violator_line}
use Rattle.cmr_front.specs.Report.{File, Report, asked_file}
use Rattle.cmr_front.specs.Status.{answer_status}
use Rattle.cmr_evidence.specs.Unimodular.{IsNotUnimodular, IsUnimodular}

-- ---- the report

abbrev pub answer_for : LargeVerdict → Answer
answer_for verdicts.Yes = Yes
answer_for (verdicts.No lines) = No
answer_for (verdicts.Open lines) = Undecided

abbrev pub answer_line : LargeVerdict → List ℕ
answer_line verdicts.Yes = codes "totally unimodular: yes\n"
answer_line (verdicts.No lines) = codes "totally unimodular: no\n"
answer_line (verdicts.Open lines) = codes "totally unimodular: undecided\n"

-- the numbers of rows and columns of an open part
abbrev pub open_size_line : LineSet → List ℕ
open_size_line lines = codes "open " ++ decimal (length lines.rows) ++ codes "x" ++ decimal (length lines.columns) ++ codes "\n"

-- the violator with its sum, or the size of the open part
abbrev pub shown_line : Matrix → LargeVerdict → List ℕ
shown_line m verdicts.Yes = []
shown_line m (verdicts.No lines) = violator_line lines.rows lines.columns (submatrix_sum m lines.rows lines.columns)
shown_line m (verdicts.Open lines) = open_size_line lines

-- the file of the violator or of the open part
abbrev pub shown_file : Option (List ℕ) → Matrix → LargeVerdict → List File
shown_file name m verdicts.Yes = []
shown_file name m (verdicts.No lines) = asked_file name (submatrix_text (height m) m.width lines)
shown_file name m (verdicts.Open lines) = asked_file name (submatrix_text (height m) m.width lines)

abbrev pub large_report : Option (List ℕ) → Matrix → LargeVerdict → Report
large_report name m verdict = record {
  status = answer_status (answer_for verdict);
  output = answer_line verdict ++ shown_line m verdict;
  error = [];
  files = shown_file name m verdict;
}

-- the lines that a verdict names are lines of the matrix
abbrev pub NamesLines : Matrix → LargeVerdict → Type 0
NamesLines m verdicts.Yes = Unit {0}
NamesLines m (verdicts.No lines) = AreLines m lines
NamesLines m (verdicts.Open lines) = AreLines m lines

-- the report of a right verdict on a matrix with entries -1, 0 and 1
pub record LargeDecides (limit pivots : ℕ) (name : Option (List ℕ)) (m : Matrix) (report : Report) : Type 0 where
  pub limit_in : limit ≤ MAX_LINES
  pub ternary : IsTernary m
  pub verdict : LargeVerdict
  pub right : IsLargeVerdict limit pivots m verdict
  pub report_is : report ≡ large_report name m verdict

-- ---- what an answer means

-- a connected part of the core that stays open with this budget and this number of pivots
pub record IsUndecidedPart (limit pivots : ℕ) (m : Matrix) (lines : LineSet) : Type 0 where
  pub are_lines : AreLines m lines
  pub parts : List LineSet
  pub are : AreCoreParts m parts
  pub among : Contains parts lines
  pub stays : HasVerdict limit pivots m own.Open lines

-- A yes says that the matrix is totally unimodular. A no names a violator. Undecided names a connected part of the core that stays open.
abbrev pub LargeAnswerMeans : (limit pivots : ℕ) → Matrix → Answer → Type 0
LargeAnswerMeans limit pivots m Yes = IsUnimodular m
LargeAnswerMeans limit pivots m No = (lines : LineSet) × IsNotUnimodular m lines
LargeAnswerMeans limit pivots m Undecided = (lines : LineSet) × IsUndecidedPart limit pivots m lines
LargeAnswerMeans limit pivots m Refused = ⊥
