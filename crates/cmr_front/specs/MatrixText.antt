-- Tools that read one matrix text.
use Rattle.std.specs.Prelude.{◌≡◌, ℕ, Bool, List, [], ◌∷◌, Result, Ok}
use Rattle.cmr_base.specs.Matrix.{Matrix}
use Rattle.text_fields.specs.TextWords.{text_of}
use Rattle.text_fields.specs.Reading.{Fault}
use Rattle.matrix_text.specs.declared.error.TextKind.{TextKind}
use Rattle.matrix_text.specs.Dense.{dense}
use Rattle.matrix_text.specs.Sparse.{sparse}
use Rattle.cmr_front.specs.declared.input.InputKind.TheVariants.{MatrixText}
use Rattle.cmr_front.specs.declared.matrix_file.MatrixForm.{MatrixForm}
use Rattle.cmr_front.specs.declared.matrix_file.MatrixForm.TheVariants.{Dense, Sparse}
use Rattle.cmr_front.specs.declared.outcome.FaultKind.TheVariants as faults
use Rattle.cmr_front.specs.declared.status.Answer.{Answer}
use Rattle.cmr_front.specs.Inputs.{InputFile}
use Rattle.cmr_front.specs.Report.{Report}
use Rattle.cmr_front.specs.Texts.{ReportsText}
use Rattle.cmr_front.specs.Tool.{Tool}

-- the file that holds a matrix text, and how it is read
pub record Source : Type 0 where
  pub form : MatrixForm
  pub binary : Bool
  pub file : List ℕ

abbrev pub source : MatrixForm → Bool → List ℕ → Source
source form binary file = record { form = form; binary = binary; file = file }

abbrev pub matrix_file : List ℕ → InputFile
matrix_file name = record { name = name; kind = MatrixText }

-- the matrix that a text of this form represents, or its first fault
abbrev pub matrix_in : MatrixForm → Bool → List ℕ → Result Matrix (Fault TextKind)
matrix_in Dense binary bytes = dense binary (text_of bytes)
matrix_in Sparse binary bytes = sparse binary (text_of bytes)

-- the reports on the one text
abbrev pub ReportsMatrix : Source → (Matrix → Report → Type 0) → List (List ℕ) → Report → Type 0
ReportsMatrix s Decides [] report = ⊥
ReportsMatrix s Decides (bytes ∷ []) report = ReportsText faults.Matrix s.file Decides (matrix_in s.form s.binary bytes) report
ReportsMatrix s Decides (bytes ∷ other ∷ texts) report = ⊥

-- the meaning of an answer for the matrix that the text represents
abbrev pub SaysOfMatrix : Source → (Matrix → Answer → Type 0) → List (List ℕ) → Answer → Type 0
SaysOfMatrix s Says texts answer = (bytes : List ℕ) × (texts ≡ bytes ∷ []) × (m : Matrix) × (matrix_in s.form s.binary bytes ≡ Ok m) × Says m answer

-- the tool that decides on the matrix
abbrev pub matrix_tool : Source → Type 0 → (Matrix → Report → Type 0) → (Matrix → Answer → Type 0) → Tool
matrix_tool s InRanges Decides Says = record {
  inputs = matrix_file s.file ∷ [];
  InRanges = InRanges;
  Reports = ReportsMatrix s Decides;
  Means = SaysOfMatrix s Says;
}
