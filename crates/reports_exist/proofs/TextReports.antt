-- Tools that have a report on each text, from their decisions.
use Rattle.std.proofs.Common.{◌≡◌, ℕ, List, [], ◌∷◌, length, Result, Ok, Err, refl, arith}
use Rattle.cmr_base.specs.Matrix.{Matrix}
use Rattle.text_fields.specs.Reading.{Fault}
use Rattle.cmr_front.specs.declared.outcome.FaultKind.{FaultKind}
use Rattle.cmr_front.specs.declared.outcome.FaultKind.TheVariants as faults
use Rattle.cmr_front.specs.MatrixText.{ReportsMatrix, Source, matrix_in}
use Rattle.cmr_front.specs.OneText.{ReportsOne}
use Rattle.cmr_front.specs.Outcome.{bad_text}
use Rattle.cmr_front.specs.Report.{Report}
use Rattle.cmr_front.specs.Texts.{ReportsPair, ReportsText}
use Rattle.decompositions_exist.proofs.NotExcluded.{NotExcluded}

-- there is no proof that there is no report
abbrev pub HasReport : (Report → Type 0) → Type 0
HasReport Reports = NotExcluded ((report : Report) × Reports report)

-- one report is it
pub this_report : (report : Report) → HasReport (λ other. other ≡ report)
this_report report none = none (report, refl)

-- on a text that represents something, or is at fault
pub on_text : {A K : Type 0} (kind_of : K → FaultKind) (file : List ℕ) (Decides : A → Report → Type 0) (read : Result A (Fault K))
    → ((x : A) → read ≡ Ok x → HasReport (Decides x)) → HasReport (ReportsText kind_of file Decides read)
on_text kind_of file Decides (Ok x) decided none = decided x refl none
on_text kind_of file Decides (Err fault) decided none = none (bad_text file (kind_of fault.0) fault.1, refl)

pub on_one : (On : List ℕ → Report → Type 0) → ((bytes : List ℕ) → HasReport (On bytes)) → (texts : List (List ℕ)) → length texts ≡ 1 → HasReport (ReportsOne On texts)
on_one On reported [] count = absurd (omega (arith, count))
on_one On reported (bytes ∷ []) count = reported bytes
on_one On reported (bytes ∷ other ∷ texts) count = absurd (omega (arith, count))

pub on_pair : (On : List ℕ → List ℕ → Report → Type 0) → ((first second : List ℕ) → HasReport (On first second)) → (texts : List (List ℕ)) → length texts ≡ 2 → HasReport (ReportsPair On texts)
on_pair On reported [] count = absurd (omega (arith, count))
on_pair On reported (first ∷ []) count = absurd (omega (arith, count))
on_pair On reported (first ∷ second ∷ []) count = reported first second
on_pair On reported (first ∷ second ∷ other ∷ texts) count = absurd (omega (arith, count))

pub on_matrix : (s : Source) (Decides : Matrix → Report → Type 0)
    → ((bytes : List ℕ) (m : Matrix) → matrix_in s.form s.binary bytes ≡ Ok m → HasReport (Decides m)) → (texts : List (List ℕ)) → length texts ≡ 1
    → HasReport (ReportsMatrix s Decides texts)
on_matrix s Decides decided [] count = absurd (omega (arith, count))
on_matrix s Decides decided (bytes ∷ []) count = on_text faults.Matrix s.file Decides (matrix_in s.form s.binary bytes) (decided bytes)
on_matrix s Decides decided (bytes ∷ other ∷ texts) count = absurd (omega (arith, count))
