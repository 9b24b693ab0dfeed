-- The matrix that a text of any size represents, and tools that read it.
use Rattle.std.specs.Prelude.{◌≡◌, ℕ, List, Result, Ok}
use Rattle.cmr_base.specs.Matrix.{Matrix}
use Rattle.text_fields.specs.Reading.{Fault}
use Rattle.text_fields.specs.TextWords.{text_of}
use Rattle.matrix_text.specs.declared.error.TextKind.{TextKind}
use Rattle.sparse_text.specs.LargeTexts.{large_dense, large_sparse}
use Rattle.cmr_front.specs.declared.matrix_file.MatrixForm.{MatrixForm}
use Rattle.cmr_front.specs.declared.matrix_file.MatrixForm.TheVariants.{Dense, Sparse}
use Rattle.cmr_front.specs.declared.outcome.FaultKind.TheVariants as faults
use Rattle.cmr_front.specs.declared.status.Answer.{Answer}
use Rattle.cmr_front.specs.Report.{Report}
use Rattle.cmr_front.specs.Texts.{ReportsText}

-- the matrix that a text of this form represents, or its first fault
abbrev pub large_in : MatrixForm → List ℕ → Result Matrix (Fault TextKind)
large_in Dense bytes = large_dense (text_of bytes)
large_in Sparse bytes = large_sparse (text_of bytes)

-- the reports on the matrix that a text represents, or on its first fault
abbrev pub ReportsLarge : MatrixForm → List ℕ → (Matrix → Report → Type 0) → List ℕ → Report → Type 0
ReportsLarge form file Decides bytes report = ReportsText faults.Matrix file Decides (large_in form bytes) report

-- the text represents a matrix that satisfies the meaning of an answer
abbrev pub SaysOfLarge : MatrixForm → (Matrix → Answer → Type 0) → List ℕ → Answer → Type 0
SaysOfLarge form Says bytes answer = (m : Matrix) × (large_in form bytes ≡ Ok m) × Says m answer
