-- Tools that read one matrix text.
use Rattle.std.proofs.Common.{◌≡◌, ℕ, Bool, true, List, [], ◌∷◌, Ok, Err, length, map, get_or, ap, sym, subst, refl, arith}
use Rattle.cmr_base.specs.Matrix.{Matrix, IsMatrix}
use Rattle.cmr_base.specs.Trees.{IsBinary}
use Rattle.text_fields.specs.TextWords.{text_of}
use Rattle.matrix_text.proofs.BinaryTexts.{dense_binary, sparse_binary}
use Rattle.matrix_text.proofs.ReadMatrices.{dense_is_matrix, sparse_is_matrix}
use Rattle.cmr_front.specs.declared.input.Text.{Text}
use Rattle.cmr_front.specs.declared.matrix_file.MatrixForm.{MatrixForm}
use Rattle.cmr_front.specs.declared.matrix_file.MatrixForm.TheVariants.{Dense, Sparse}
use Rattle.cmr_front.specs.declared.outcome.FaultKind.TheVariants as faults
use Rattle.cmr_front.specs.declared.outcome.Outcome.{Outcome}
use Rattle.cmr_front.specs.declared.outcome.Stop.{Stop}
use Rattle.cmr_front.specs.declared.status.Answer.{Answer}
use Rattle.cmr_front.specs.declared.status.Failure.TheVariants as failures
use Rattle.cmr_front.specs.Inputs.{bytes_of}
use Rattle.cmr_front.specs.MatrixText.{Source, ReportsMatrix, SaysOfMatrix, matrix_file, matrix_in, matrix_tool}
use Rattle.cmr_front.specs.Outcome.{outcome_report}
use Rattle.cmr_front.specs.Report.{Report}
use Rattle.cmr_front.specs.Status.{answer_status, failure_status}
use Rattle.cmr_front.specs.Stopped.{StopsText}
use Rattle.cmr_front.specs.Tool.{IsDecision, IsFaultOfFile, IsLawful}
use Rattle.cmr_front.proofs.Statuses.{IsAnswered}
use Rattle.cmr_front.proofs.Texts.{answered, fault_of_last, fault_reported, one_of_text, read_reported}

-- a matrix that is read is within the limits
pub read_is_matrix : (form : MatrixForm) (binary : Bool) (bytes : List ℕ) (m : Matrix) → matrix_in form binary bytes ≡ Ok m → IsMatrix m
read_is_matrix Dense binary bytes m read = dense_is_matrix binary (text_of bytes) m read
read_is_matrix Sparse binary bytes m read = sparse_is_matrix binary (text_of bytes) m read

-- and has only zeros and ones if it is read as 0/1
pub read_is_binary : (form : MatrixForm) (bytes : List ℕ) (m : Matrix) → matrix_in form true bytes ≡ Ok m → IsBinary m
read_is_binary Dense bytes m read = dense_binary true (text_of bytes) (Ok m) read refl
read_is_binary Sparse bytes m read = sparse_binary true (text_of bytes) (Ok m) read refl

-- the text of a list with one item
pub one_text : (ts : List Text) (t : Text) → length ts ≡ 1 → t ≡ get_or ts 0 t → map bytes_of ts ≡ bytes_of t ∷ []
one_text [] t one is = absurd (omega arith)
one_text (first ∷ []) t one is = ap (λ (x : Text). bytes_of x ∷ []) (sym is)
one_text (first ∷ second ∷ ts) t one is = absurd (omega arith)

module _ (s : Source) (Decides : Matrix → Report → Type 0) where
  -- what is decided on the matrix
  pub decided : (ts : List Text) (t : Text) (m : Matrix) (outcome : Outcome) → length ts ≡ 1 → t ≡ get_or ts 0 t → matrix_in s.form s.binary (bytes_of t) ≡ Ok m
      → Decides m (outcome_report outcome) → IsDecision (ReportsMatrix s Decides (map bytes_of ts)) (Ok outcome)
  decided ts t m outcome one is read d =
      subst (λ bytes. ReportsMatrix s Decides bytes (outcome_report outcome)) (sym (one_text ts t one is)) (read_reported faults.Matrix s.file Decides (matrix_in s.form s.binary (bytes_of t)) m (outcome_report outcome) read d)

  -- a text at fault
  pub faulty : (ts : List Text) (t : Text) (stop : Stop) → length ts ≡ 1 → t ≡ get_or ts 0 t → StopsText faults.Matrix s.file (matrix_in s.form s.binary (bytes_of t)) stop
      → IsDecision (ReportsMatrix s Decides (map bytes_of ts)) (Err stop)
  faulty ts t stop one is h =
      subst (λ bytes. IsDecision (ReportsMatrix s Decides bytes) (Err stop)) (sym (one_text ts t one is)) (fault_reported faults.Matrix s.file Decides (matrix_in s.form s.binary (bytes_of t)) stop h)

  one_status : ((m : Matrix) (r t : Report) → Decides m r → Decides m t → r.status ≡ t.status) → (bytes : List (List ℕ)) (r t : Report)
      → ReportsMatrix s Decides bytes r → ReportsMatrix s Decides bytes t → r.status ≡ t.status
  one_status one [] r t a b = absurd a
  one_status one (bytes ∷ []) r t a b = one_of_text faults.Matrix s.file Decides one (matrix_in s.form s.binary bytes) r t a b
  one_status one (bytes ∷ other ∷ others) r t a b = absurd a

  at_fault : ((m : Matrix) (r : Report) → Decides m r → IsAnswered r) → (bytes : List (List ℕ)) (r : Report) → ReportsMatrix s Decides bytes r → r.status ≡ failure_status failures.Text
      → IsFaultOfFile (matrix_file s.file ∷ []) r
  at_fault answers [] r d is = absurd d
  at_fault answers (bytes ∷ []) r d is = fault_of_last faults.Matrix s.file Decides (matrix_file s.file ∷ []) (0, omega arith, refl) answers (matrix_in s.form s.binary bytes) r d is
  at_fault answers (bytes ∷ other ∷ others) r d is = absurd d

  module _ (Says : Matrix → Answer → Type 0) (says : (m : Matrix) (r : Report) (answer : Answer) → Decides m r → r.status ≡ answer_status answer → Says m answer) where
    means : (bytes : List (List ℕ)) (r : Report) (answer : Answer) → ReportsMatrix s Decides bytes r → r.status ≡ answer_status answer → SaysOfMatrix s Says bytes answer
    means [] r answer a is = absurd a
    means (bytes ∷ []) r answer a is =
        let found = answered faults.Matrix s.file Decides (matrix_in s.form s.binary bytes) r answer a is in
        (bytes, refl, found.0, found.1, says found.0 r answer found.2 is)
    means (bytes ∷ other ∷ others) r answer a is = absurd a

    -- the tool is lawful if its decisions are answers and lawful
    pub lawful : (InRanges : Type 0) → ((m : Matrix) (r t : Report) → Decides m r → Decides m t → r.status ≡ t.status) → ((m : Matrix) (r : Report) → Decides m r → IsAnswered r)
        → IsLawful (matrix_tool s InRanges Decides Says)
    lawful InRanges one answers = record { one_status = one_status one; means = means; at_fault = at_fault answers }
