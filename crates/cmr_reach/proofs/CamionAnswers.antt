-- The meaning of the answers of `camion` for the matrix.
use Rattle.std.proofs.Common.{◌≡◌, ◌∙◌, false, sym, arith}
use Rattle.cmr_base.specs.declared.line_set.LineSet.{LineSet}
use Rattle.cmr_base.specs.Matrix.{Matrix, entry, IsMatrix}
use Rattle.cmr_base.specs.CyclePlaces.{HasNoCycleFault, IsCycleFault}
use Rattle.cmr_base.proofs.WholeMatrices.{is_ternary}
use Rattle.camion_sign.proofs.RegularSignings.{fault_free_decides, own_support}
use Rattle.cmr_front.specs.declared.status.Answer.{Answer}
use Rattle.cmr_front.specs.declared.status.Answer.TheVariants.{Yes, No, Undecided, Refused}
use Rattle.cmr_front.specs.Report.{Report}
use Rattle.cmr_front.specs.Status.{answer_status}
use Rattle.cmr_front.specs.Tool.{IsLawful}
use Rattle.cmr_front.proofs.MatrixText.{lawful, read_is_matrix}
use Rattle.cmr_front.proofs.Statuses.{IsAnswered, status_of}
use Rattle.cmr_reach.specs.Camion.{CamionDecides, CamionMeans, camion_source, camion_tool, no, yes, CamionOrder}

-- a matrix with a cycle fault does not satisfy that it has none
pub not_both : (m : Matrix) (fault : LineSet) → HasNoCycleFault (entry m) → IsCycleFault m fault.rows fault.columns → ⊥
not_both m fault none is = none is.row is.first_column is.last_column is.path is.fault

one_status : (o : CamionOrder) (m : Matrix) (r s : Report) → CamionDecides o m r → CamionDecides o m s → r.status ≡ s.status
one_status o m r s (yes none e) (yes none' f) = status_of r _ e ∙ sym (status_of s _ f)
one_status o m r s (yes none e) (no fault is f) = absurd (not_both m fault none is)
one_status o m r s (no fault is e) (yes none f) = absurd (not_both m fault none is)
one_status o m r s (no fault is e) (no fault' is' f) = status_of r _ e ∙ sym (status_of s _ f)

-- the meaning of an answer for a matrix, without its consequences
abbrev AnswerMeans : Matrix → Answer → Type 0
AnswerMeans m Yes = HasNoCycleFault (entry m)
AnswerMeans m No = (fault : LineSet) × IsCycleFault m fault.rows fault.columns
AnswerMeans m Undecided = ⊥
AnswerMeans m Refused = ⊥

says : (o : CamionOrder) (m : Matrix) (r : Report) (answer : Answer) → CamionDecides o m r → r.status ≡ answer_status answer → AnswerMeans m answer
says o m r Yes (yes none e) is = none
says o m r No (yes none e) is = let s = status_of r _ e in absurd (omega arith)
says o m r Undecided (yes none e) is = let s = status_of r _ e in absurd (omega arith)
says o m r Refused (yes none e) is = let s = status_of r _ e in absurd (omega arith)
says o m r Yes (no fault lines e) is = let s = status_of r _ e in absurd (omega arith)
says o m r No (no fault lines e) is = (fault, lines)
says o m r Undecided (no fault lines e) is = let s = status_of r _ e in absurd (omega arith)
says o m r Refused (no fault lines e) is = let s = status_of r _ e in absurd (omega arith)

-- its consequences
means : (m : Matrix) (answer : Answer) → IsMatrix m → AnswerMeans m answer → CamionMeans m answer
means m Yes is none = (none, λ n ternary one unimodular. (fault_free_decides m n (is_ternary m is) ternary one unimodular).1 none)
means m No is (fault, found) = (fault, found, λ unimodular. not_both m fault ((fault_free_decides m m (is_ternary m is) (is_ternary m is) (own_support m) unimodular).0 unimodular) found)
means m Undecided is right = right
means m Refused is right = right

answers : (o : CamionOrder) (m : Matrix) (r : Report) → CamionDecides o m r → IsAnswered r
answers o m r (yes none e) = (Yes, status_of r _ e)
answers o m r (no fault is e) = (No, status_of r _ e)

pub camion_lawful : (o : CamionOrder) → IsLawful (camion_tool o)
camion_lawful o =
    let right = lawful (camion_source o) (CamionDecides o) AnswerMeans (says o) (Unit {0}) (one_status o) (answers o) in
    record {
      one_status = right.one_status;
      means = λ texts r answer reported is.
          let found = right.means texts r answer reported is in
          (found.0, found.1, found.2, found.3, means found.2 answer (read_is_matrix o.form false found.0 found.2 found.3) found.4);
      at_fault = right.at_fault;
    }
