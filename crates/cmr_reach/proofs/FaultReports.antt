-- The texts determine what `camion` and `balanced` report.
use Rattle.std.proofs.Common.{◌≡◌, ◌∙◌, ℕ, List, Option, refl, ap₂, sym, arith}
use Rattle.cmr_base.specs.declared.line_set.LineSet.{LineSet}
use Rattle.cmr_base.specs.Matrix.{Matrix}
use Rattle.cmr_base.specs.CyclePlaces.{IsCycleFault}
use Rattle.leaf_enumerate.specs.declared.search.LeastSubmatrix.{LeastSubmatrix}
use Rattle.leaf_enumerate.specs.declared.search.LeastSubmatrix.TheVariants.{Clean, Found, TooMany}
use Rattle.balance.specs.SearchedFaults.{HasSearchedFaults}
use Rattle.decomp_tree.proofs.OneCycleFault.{one_cycle_fault}
use Rattle.cmr_front.specs.Report.{Report}
use Rattle.cmr_front.specs.Tool.{HasOneReport}
use Rattle.cmr_front.proofs.OneReports.{matrix_either, one_report_of_matrix}
use Rattle.cmr_reach.specs.Balanced.{BalancedDecides, BalancedMeans, BalancedOrder, IsInRanges, balanced_label, balanced_source, balanced_tool, cycle, decomposed, search_report, searched}
use Rattle.cmr_reach.specs.Camion.{CamionDecides, CamionMeans, CamionOrder, camion_label, camion_source, camion_tool, no, yes}
use Rattle.cmr_reach.specs.FaultReports.{fault_report}
use Rattle.cmr_reach.proofs.BalancedAnswers.{least_is_fault}
use Rattle.cmr_reach.proofs.CamionAnswers.{not_both}
use Rattle.cmr_reach.proofs.OneFault.{one_least_fault}

-- faults with the same lines have the same reports
same_fault : (label : List ℕ) (name : Option (List ℕ)) (m : Matrix) (fault other : LineSet) → (fault.rows ≡ other.rows) × (fault.columns ≡ other.columns)
    → fault_report label name m fault ≡ fault_report label name m other
same_fault label name m fault other same = ap₂ (λ rows columns. fault_report label name m (let lines : LineSet = record { rows = rows; columns = columns } in lines)) same.0 same.1

one_cycle : (label : List ℕ) (name : Option (List ℕ)) (m : Matrix) (fault other : LineSet) → IsCycleFault m fault.rows fault.columns
    → IsCycleFault m other.rows other.columns → fault_report label name m fault ≡ fault_report label name m other
one_cycle label name m fault other is is' = same_fault label name m fault other (one_cycle_fault m fault.rows fault.columns other.rows other.columns is is')

one_of_camion : (o : CamionOrder) (m : Matrix) (r s : Report) → CamionDecides o m r → CamionDecides o m s → r ≡ s
one_of_camion o m r s (yes none e) (yes none' f) = e ∙ sym f
one_of_camion o m r s (yes none e) (no fault is f) = absurd (not_both m fault none is)
one_of_camion o m r s (no fault is e) (yes none f) = absurd (not_both m fault none is)
one_of_camion o m r s (no fault is e) (no other is' f) = e ∙ one_cycle camion_label o.fault m fault other is is' ∙ sym f

pub camion_has_one_report : (o : CamionOrder) → HasOneReport (camion_tool o)
camion_has_one_report o = one_report_of_matrix (camion_source o) (Unit {0}) (CamionDecides o) CamionMeans (λ m is. one_of_camion o m)

one_found : (o : BalancedOrder) (m : Matrix) (a b : LeastSubmatrix) → HasSearchedFaults m o.budget a → HasSearchedFaults m o.budget b → search_report o m a ≡ search_report o m b
one_found o m Clean Clean f g = refl
one_found o m Clean (Found lines) f g = let is = least_is_fault m lines g.1 in absurd (f.1 lines.rows lines.columns is.row_set is.column_set is.balance_fault)
one_found o m Clean (TooMany shorter) f g = let l = f.0 in let a = g.0 in let e = g.1 in absurd (omega arith)
one_found o m (Found lines) Clean f g = let is = least_is_fault m lines f.1 in absurd (g.1 lines.rows lines.columns is.row_set is.column_set is.balance_fault)
one_found o m (Found lines) (Found lines') f g = same_fault balanced_label o.fault m lines lines' (one_least_fault m lines.rows lines.columns lines'.rows lines'.columns f.1 g.1)
one_found o m (Found lines) (TooMany shorter) f g = let l = f.0 in let a = g.0 in let e = g.1 in absurd (omega arith)
one_found o m (TooMany shorter) Clean f g = let l = g.0 in let a = f.0 in let e = f.1 in absurd (omega arith)
one_found o m (TooMany shorter) (Found lines) f g = let l = g.0 in let a = f.0 in let e = f.1 in absurd (omega arith)
one_found o m (TooMany shorter) (TooMany shorter') f g = refl

one_of_balanced : (o : BalancedOrder) (m : Matrix) (r s : Report) → BalancedDecides o m r → BalancedDecides o m s → r ≡ s
one_of_balanced o m r s (cycle fault is bad e) (cycle other is' bad' f) = e ∙ one_cycle balanced_label o.fault m fault other is is' ∙ sym f
one_of_balanced o m r s (cycle fault is bad e) (decomposed none tree all f) = absurd (not_both m fault none is)
one_of_balanced o m r s (cycle fault is bad e) (searched needed found has f) = absurd (not_both m fault needed.no_fault is)
one_of_balanced o m r s (decomposed none tree all e) (cycle fault is bad f) = absurd (not_both m fault none is)
one_of_balanced o m r s (decomposed none tree all e) (decomposed none' tree' all' f) = e ∙ sym f
one_of_balanced o m r s (decomposed none tree all e) (searched needed found has f) = absurd (needed.undecomposed tree)
one_of_balanced o m r s (searched needed found has e) (cycle fault is bad f) = absurd (not_both m fault needed.no_fault is)
one_of_balanced o m r s (searched needed found has e) (decomposed none tree all f) = absurd (needed.undecomposed tree)
one_of_balanced o m r s (searched needed found has e) (searched needed' found' has' f) = e ∙ one_found o m found found' has has' ∙ sym f

pub balanced_has_one_report : (o : BalancedOrder) → HasOneReport (balanced_tool o)
balanced_has_one_report o = one_report_of_matrix (balanced_source o) (IsInRanges o) (BalancedDecides o) (BalancedMeans o) (λ m is. one_of_balanced o m)

-- ---- the workers

abbrev with_workers : BalancedOrder → ℕ → BalancedOrder
with_workers o n = record { form = o.form; budget = o.budget; pivots = o.pivots; workers = n; fault = o.fault; file = o.file }

same_search : (o : BalancedOrder) (n workers : ℕ) (m : Matrix) (found : LeastSubmatrix) → search_report (with_workers o n) m found ≡ search_report (with_workers o workers) m found
same_search o n workers m Clean = refl
same_search o n workers m (Found fault) = refl
same_search o n workers m (TooMany shorter) = refl

balanced_same : (o : BalancedOrder) (n workers : ℕ) (m : Matrix) (report : Report) → BalancedDecides (with_workers o n) m report → BalancedDecides (with_workers o workers) m report
balanced_same o n workers m report (cycle fault is bad e) = cycle fault is bad e
balanced_same o n workers m report (decomposed none tree all e) = decomposed none tree all e
balanced_same o n workers m report (searched needed found has e) = searched needed found has (e ∙ same_search o n workers m found)

-- their number does not affect the reports
pub balanced_workers : (o : BalancedOrder) (n workers : ℕ) (bytes : List (List ℕ)) (report : Report) → (balanced_tool (with_workers o n)).Reports bytes report
    → (balanced_tool (with_workers o workers)).Reports bytes report
balanced_workers o n workers = matrix_either (balanced_source o) (BalancedDecides (with_workers o n)) (BalancedDecides (with_workers o workers)) (balanced_same o n workers)
