-- The meaning of the answers of `tu` for the matrix.
use Rattle.std.proofs.Common.{◌≡◌, ◌≤◌, ◌∙◌, sym, ℕ, List, Option, Some, None, codes, false}
use Rattle.cmr_base.specs.Matrix.{Matrix, IsMatrix}
use Rattle.cmr_front.specs.declared.status.Answer.{Answer}
use Rattle.cmr_front.specs.Report.{Report}
use Rattle.cmr_front.specs.Status.{answer_status}
use Rattle.cmr_front.specs.Tool.{IsLawful}
use Rattle.cmr_front.specs.MatrixText.{SaysOfMatrix}
use Rattle.cmr_front.proofs.MatrixText.{lawful, read_is_matrix}
use Rattle.cmr_front.proofs.Statuses.{status_of}
use Rattle.cmr_unimodular.specs.Tu.{TuMeans, tu_tool, tu_verdict, tu_source, TuOrder, tu_app, tu_order, tu_order_in}
use Rattle.cmr_evidence.specs.VerdictWords.{answer_of}
use Rattle.cmr_unimodular.specs.Verdict.{Decides, verdict_in}
use Rattle.cmr_unimodular.proofs.OneVerdict.{one_verdict}
use Rattle.cmr_unimodular.proofs.UnimodularAnswers.{unimodular_means}
use Rattle.clap.specs.Words.{Row, Text, first_of}
use Rattle.cmr_front.specs.declared.matrix_file.MatrixForm.{MatrixForm}
use Rattle.cmr_front.specs.Words.ReadWords.{◌>>=◌}
use Rattle.cmr_front.specs.Words.Parsing.{fault_in, file_in, matches_with_input}
use Rattle.cmr_front.proofs.Numbers.{with_numbers}

says : (o : TuOrder) (m : Matrix) (r : Report) (answer : Answer) → Decides (tu_verdict o) m r → r.status ≡ answer_status answer → IsMatrix m → TuMeans o m answer
says o m r answer d is is_matrix = unimodular_means o.budget o.pivots m is_matrix d.tree d.decomposition d.right answer (sym (status_of r _ d.report_is) ∙ is)

-- a matrix that is read is within the limits
says_of_read : (o : TuOrder) (bytes : List (List ℕ)) (answer : Answer) → SaysOfMatrix (tu_source o) (λ m answer. IsMatrix m → TuMeans o m answer) bytes answer
    → SaysOfMatrix (tu_source o) (TuMeans o) bytes answer
says_of_read o bytes answer (text, only, m, read, means) = (text, only, m, read, means (read_is_matrix o.form false text m read))

pub tu_lawful : (o : TuOrder) → IsLawful (tu_tool o)
tu_lawful o =
    let law = lawful (tu_source o) (Decides (tu_verdict o)) (λ m answer. IsMatrix m → TuMeans o m answer) (says o) (tu_tool o).InRanges (one_verdict (tu_verdict o))
    (λ m r d. (answer_of (verdict_in d.tree), status_of r _ d.report_is)) in
    record {
      one_status = law.one_status;
      means = λ bytes r answer reports is. says_of_read o bytes answer (law.means bytes r answer reports is);
      at_fault = law.at_fault;
    }

-- the numbers in the arguments of `tu` are in their ranges, the pivots included
pub tu_order-ranges : (words : List Text) (o : TuOrder) → tu_order words ≡ Some o → (tu_tool o).InRanges × (o.pivots ≤ 100)
tu_order-ranges words o e = go (matches_with_input tu_app words) e
  where
    order_with : List Row → MatrixForm → ℕ → ℕ → ℕ → TuOrder
    order_with rows form budget pivots workers = record { form = form; budget = budget; pivots = pivots; workers = workers; tree = first_of (codes "tree") rows; fault = fault_in rows; file = file_in rows }

    go : (rows : Option (List Row)) → (rows >>= tu_order_in) ≡ Some o → (tu_tool o).InRanges × (o.pivots ≤ 100)
    go None e = cc
    go (Some rows) e = with_numbers (λ (x : TuOrder). (tu_tool x).InRanges × (x.pivots ≤ 100)) (order_with rows) rows o (λ form budget pivots workers few bound some. ((few, some.0, some.1), bound)) e
