-- Two reports on one text are alike if two decisions on its matrix are.
use Rattle.std.proofs.Common.{◌≡◌, ◌∙◌, ℕ, List, [], ◌∷◌, Result, Ok, Err, refl, sym}
use Rattle.cmr_base.specs.Matrix.{Matrix, IsMatrix}
use Rattle.text_fields.specs.Reading.{Fault}
use Rattle.matrix_text.specs.declared.error.TextKind.{TextKind}
use Rattle.cmr_front.specs.declared.outcome.FaultKind.{FaultKind}
use Rattle.cmr_front.specs.declared.outcome.FaultKind.TheVariants as faults
use Rattle.cmr_front.specs.declared.status.Answer.{Answer}
use Rattle.cmr_front.specs.MatrixText.{Source, ReportsMatrix, matrix_in, matrix_tool}
use Rattle.cmr_front.specs.Report.{Report}
use Rattle.cmr_front.specs.Texts.{ReportsText}
use Rattle.cmr_front.specs.Tool.{HasOneReport}
use Rattle.cmr_front.proofs.MatrixText.{read_is_matrix}

module _ (Alike : Report → Report → Type 0) (equal : (r s : Report) → r ≡ s → Alike r s) where
  pub alike_of_text : {A K : Type 0} (kind_of : K → FaultKind) (file : List ℕ) (Decides : A → Report → Type 0) (read : Result A (Fault K))
      → ((x : A) → read ≡ Ok x → (r s : Report) → Decides x r → Decides x s → Alike r s) → (r s : Report)
      → ReportsText kind_of file Decides read r → ReportsText kind_of file Decides read s → Alike r s
  alike_of_text kind_of file Decides (Ok x) one r s a b = one x refl r s a b
  alike_of_text kind_of file Decides (Err fault) one r s a b = equal r s (a ∙ sym b)

  -- a matrix that is read is within the limits
  pub alike_of_matrix : (source : Source) (Decides : Matrix → Report → Type 0)
      → ((m : Matrix) → IsMatrix m → (r s : Report) → Decides m r → Decides m s → Alike r s) → (bytes : List (List ℕ)) (r s : Report)
      → ReportsMatrix source Decides bytes r → ReportsMatrix source Decides bytes s → Alike r s
  alike_of_matrix source Decides one [] r s a b = absurd a
  alike_of_matrix source Decides one (bytes ∷ []) r s a b =
      alike_of_text faults.Matrix source.file Decides (matrix_in source.form source.binary bytes) (λ m read. one m (read_is_matrix source.form source.binary bytes m read)) r s a b
  alike_of_matrix source Decides one (bytes ∷ other ∷ others) r s a b = absurd a

-- the texts determine the report if the matrix does
pub one_report_of_matrix : (source : Source) (InRanges : Type 0) (Decides : Matrix → Report → Type 0) (Says : Matrix → Answer → Type 0)
    → ((m : Matrix) → IsMatrix m → (r s : Report) → Decides m r → Decides m s → r ≡ s) → HasOneReport (matrix_tool source InRanges Decides Says)
one_report_of_matrix source InRanges Decides Says one = alike_of_matrix (λ r s. r ≡ s) (λ r s e. e) source Decides one

-- the decisions on a matrix determine the reports on its text
pub matrix_either : (source : Source) (Decides Others : Matrix → Report → Type 0) → ((m : Matrix) (report : Report) → Decides m report → Others m report) → (bytes : List (List ℕ)) (report : Report)
    → ReportsMatrix source Decides bytes report → ReportsMatrix source Others bytes report
matrix_either source Decides Others each [] report h = h
matrix_either source Decides Others each (bytes ∷ []) report h = go (matrix_in source.form source.binary bytes) h
  where
    go : (read : Result Matrix (Fault TextKind)) → ReportsText faults.Matrix source.file Decides read report → ReportsText faults.Matrix source.file Others read report
    go (Ok m) d = each m report d
    go (Err fault) e = e
matrix_either source Decides Others each (bytes ∷ other ∷ others) report h = h
