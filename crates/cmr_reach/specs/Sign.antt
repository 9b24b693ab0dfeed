-- The order of the arguments of `sign`, its reports, and the meaning of its answers.
use Rattle.std.specs.Prelude.{◌≡◌, ◌+◌, ◌++◌, ℕ, ℤ, pos, negsuc, false, List, [], ◌∷◌, Option, Some, None, Ok, codes}
use Rattle.std.specs.Fmt.{decimal}
use Rattle.cmr_base.specs.declared.line_set.LineSet.{LineSet}
use Rattle.cmr_base.specs.Matrix.{Matrix}
use Rattle.cmr_base.specs.LineSets.{submatrix_sum}
use Rattle.cmr_base.specs.Signing.{IsSigning, IsTotallyUnimodular}
use Rattle.ghouila.specs.declared.by_pivots.Pivot.{Pivot}
use Rattle.ghouila.specs.Answer.{IsViolatorAmong}
use Rattle.sign_tool.specs.declared.signing.SetSigning.{SetSigning}
use Rattle.sign_tool.specs.declared.signing.SetSigning.TheVariants.{Signed, Violated}
use Rattle.sign_tool.specs.SetSignings.{HasStepForEachRow, IsEndOfRun, SignsSetOrViolates}
use Rattle.cmr_front.specs.declared.status.Answer.{Answer}
use Rattle.cmr_front.specs.declared.status.Answer.TheVariants.{Yes, No, Undecided, Refused}
use Rattle.cmr_front.specs.declared.outcome.FaultKind.TheVariants as faults
use Rattle.cmr_front.specs.Inputs.{InputFile}
use Rattle.cmr_front.specs.MatrixText.{matrix_file, matrix_in}
use Rattle.cmr_front.specs.Printed.{violator_line}
use Rattle.cmr_front.specs.Report.{Report}
use Rattle.cmr_front.specs.Status.{answer_status}
use Rattle.cmr_front.specs.Texts.{ReportsText, pair_tool}
use Rattle.cmr_front.specs.Tool.{Tool}
use Rattle.cmr_reach.specs.RowSet.{set_of_text}
use Rattle.clap.specs.Words.{App, Row, Text, first_of}
use Rattle.cmr_front.specs.declared.matrix_file.MatrixForm.{MatrixForm}
use Rattle.cmr_front.specs.Words.Arguments.{form_rule, operand_rule, tool_app}
use Rattle.cmr_front.specs.Words.Parsing.{form_in, matches_in}
use Rattle.cmr_front.specs.Words.ReadWords.{◌>>=◌}
use Rattle.cmr_reach.specs.declared.tools.sign.SignOptions.{SignOptions}

-- ---- the arguments

-- the options of `sign`
pub record SignOrder : Type 0 where
  pub form : MatrixForm
  pub matrix : List ℕ
  pub rows : List ℕ

-- [-i FORMAT] MATRIX ROWS
abbrev pub sign_app : App
sign_app = tool_app (codes "sign") (form_rule ∷ operand_rule (codes "matrix") ∷ operand_rule (codes "rows") ∷ [])

abbrev pub sign_order_in : List Row → Option SignOrder
sign_order_in values = do
  form ← form_in values
  matrix ← first_of (codes "matrix") values
  rows ← first_of (codes "rows") values
  Some (record { form = form; matrix = matrix; rows = rows })

abbrev pub sign_order : List Text → Option SignOrder
sign_order words = matches_in sign_app words >>= sign_order_in

abbrev pub sign_order_of : SignOptions → SignOrder
sign_order_of options = record { form = options.form; matrix = options.matrix.now; rows = options.rows.now }

-- ---- the printed lines

abbrev pub sign_mark : ℤ → List ℕ
sign_mark (pos n) = codes " +\n"
sign_mark (negsuc n) = codes " -\n"

-- a line for each row of the set, with its sign
abbrev pub sign_lines : List ℕ → List ℤ → List ℕ
sign_lines [] signs = []
sign_lines (row ∷ rows) [] = []
sign_lines (row ∷ rows) (sign ∷ signs) = codes "row " ++ decimal (row + 1) ++ sign_mark sign ++ sign_lines rows signs

abbrev pub sign_step_words : ℕ → Option ℕ → List ℕ
sign_step_words row None = codes "aside " ++ decimal (row + 1)
sign_step_words row (Some column) = codes "pivot " ++ decimal (row + 1) ++ codes " " ++ decimal (column + 1)

-- a line for each step of the run
abbrev pub step_lines : List Pivot → List ℕ
step_lines [] = []
step_lines (step ∷ steps) = sign_step_words step.row step.column ++ codes "\n" ++ step_lines steps

abbrev pub signed_report : List ℕ → List ℤ → List Pivot → Report
signed_report rows signs steps = record {
  status = answer_status Yes;
  output = codes "signed: yes\n" ++ sign_lines rows signs ++ step_lines steps;
  error = [];
  files = [];
}

abbrev pub violated_report : Matrix → LineSet → Report
violated_report m lines = record {
  status = answer_status No;
  output = codes "signed: no\n" ++ violator_line lines.rows lines.columns (submatrix_sum m lines.rows lines.columns);
  error = [];
  files = [];
}

abbrev pub sign_report : Matrix → List ℕ → SetSigning → Report
sign_report m rows (Signed signs steps) = signed_report rows signs steps
sign_report m rows (Violated lines) = violated_report m lines

-- the answer of the run on these rows, which is right
pub record IsAnswerFor (m : Matrix) (rows : List ℕ) (answer : SetSigning) : Type 0 where
  pub right : SignsSetOrViolates m rows answer
  pub run : IsEndOfRun m rows answer
  pub steps : HasStepForEachRow rows answer

-- on a matrix and a set of its rows: the answer of the run
pub record SignDecides (m : Matrix) (rows : List ℕ) (report : Report) : Type 0 where
  pub answer : SetSigning
  pub is_answer : IsAnswerFor m rows answer
  pub report_is : report ≡ sign_report m rows answer

-- ---- the meaning

-- the signs at the end of the run are a signing of the rows
pub record IsSignedByRun (m : Matrix) (rows : List ℕ) (signs : List ℤ) (steps : List Pivot) : Type 0 where
  pub signing : IsSigning m rows signs
  pub run : IsEndOfRun m rows (Signed signs steps)

-- the lines at the end of the run are a violator with rows among these, so the matrix is not totally unimodular
pub record IsViolatedByRun (m : Matrix) (rows : List ℕ) (lines : LineSet) : Type 0 where
  pub violator : IsViolatorAmong m rows lines.rows lines.columns
  pub run : IsEndOfRun m rows (Violated lines)
  pub not_unimodular : ¬ (IsTotallyUnimodular m)

abbrev pub SignMeans : Matrix → List ℕ → Answer → Type 0
SignMeans m rows Yes = (signs : List ℤ) × (steps : List Pivot) × IsSignedByRun m rows signs steps
SignMeans m rows No = (lines : LineSet) × IsViolatedByRun m rows lines
SignMeans m rows Undecided = ⊥
SignMeans m rows Refused = ⊥

-- ---- the tool

-- on the texts of the matrix and of the rows: a fault of the matrix has precedence
abbrev pub SignReports : SignOrder → List ℕ → List ℕ → Report → Type 0
SignReports o matrix rows report =
    ReportsText faults.Matrix o.matrix (λ m. ReportsText faults.Matrix o.rows (λ lines. SignDecides m lines.rows) (set_of_text m rows)) (matrix_in o.form false matrix) report

abbrev pub SignSays : SignOrder → List ℕ → List ℕ → Answer → Type 0
SignSays o matrix rows answer = (m : Matrix) × (matrix_in o.form false matrix ≡ Ok m) × ((lines : LineSet) × (set_of_text m rows ≡ Ok lines) × SignMeans m lines.rows answer)

abbrev pub sign_files : SignOrder → List InputFile
sign_files o = matrix_file o.matrix ∷ matrix_file o.rows ∷ []

abbrev pub sign_tool : SignOrder → Tool
sign_tool o = pair_tool (sign_files o) (SignReports o) (SignSays o)
