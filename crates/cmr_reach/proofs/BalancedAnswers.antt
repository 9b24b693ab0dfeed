-- The meaning of the answers of `balanced` for the matrix.
use Rattle.std.proofs.Common.{◌≡◌, ◌<◌, ◌≤◌, ◌∙◌, inl, inr, ℕ, List, Option, Some, None, refl, subst, sym, arith}
use Rattle.std.proofs.lemmas.Bool.{cases_lt}
use Rattle.cmr_base.specs.declared.line_set.LineSet.{LineSet}
use Rattle.cmr_base.specs.Matrix.{Matrix, height, IsMatrix}
use Rattle.cmr_base.specs.CyclePlaces.{IsCycleFault}
use Rattle.cmr_base.proofs.WholeMatrices.{is_ternary}
use Rattle.tree_type.specs.Invariant.{IsDecTree, IsTreeFor}
use Rattle.tree_type.specs.Soundness.{IsSound}
use Rattle.tree_type.specs.DecompositionTrees.{SizedTree, Tree, tree_of}
use Rattle.tree_type.specs.Verdicts as verdicts
use Rattle.tree_type.specs.Verdicts.{verdict_of}
use Rattle.decomp_tree.specs.PivotedShapes.{IsShapeWith}
use Rattle.decomp_tree.proofs.OneVerdict.{one_verdict}
use Rattle.tree_laws.specs.Laws.{VerdictMeans}
use Rattle.tree_laws.proofs.SoundTrees.{verdict_means}
use Rattle.leaf_enumerate.specs.declared.search.LeastSubmatrix.{LeastSubmatrix}
use Rattle.leaf_enumerate.specs.declared.search.LeastSubmatrix.TheVariants.{Clean, Found, TooMany}
use Rattle.balance.specs.BalanceFaults.{IsBalanced, IsLeastFault}
use Rattle.balance.specs.SearchedFaults.{HasSearchedFaults}
use Rattle.balance.proofs.FaultLaws.{cycle_fault_unbalanced, free_is_balanced}
use Rattle.cmr_front.specs.declared.status.Answer.{Answer}
use Rattle.cmr_front.specs.declared.status.Answer.TheVariants.{Yes, No, Undecided, Refused}
use Rattle.cmr_front.specs.Report.{Report}
use Rattle.cmr_front.specs.Status.{answer_status}
use Rattle.cmr_front.specs.Tool.{IsLawful}
use Rattle.cmr_front.proofs.MatrixText.{lawful}
use Rattle.cmr_front.proofs.Statuses.{IsAnswered, status_of}
use Rattle.cmr_reach.specs.Balanced.{BalancedDecides, BalancedMeans, IsDecomposed, IsFaultOf, IsInRanges, IsUndecided, NeedsSearch, balanced_source, balanced_tool, cycle, decomposed, search_report, searched, BalancedOrder, balanced_app, balanced_order, balanced_order_in}
use Rattle.clap.specs.Words.{Row, Text}
use Rattle.cmr_front.specs.declared.matrix_file.MatrixForm.{MatrixForm}
use Rattle.cmr_front.specs.Words.Parsing.{fault_in, file_in, matches_with_input}
use Rattle.cmr_front.specs.Words.ReadWords.{◌>>=◌}
use Rattle.cmr_front.proofs.Numbers.{with_numbers}
use Rattle.cmr_reach.proofs.CamionAnswers.{not_both}

-- ---- faults

-- the least fault is a fault
pub least_is_fault : (m : Matrix) (lines : LineSet) → IsLeastFault m lines.rows lines.columns → IsFaultOf m lines
least_is_fault m lines is = elim (cases_lt m.width (height m)) [
  | inl few ↦ let by = is.few_columns few in record { row_set = by.rows_least.row_set; column_set = by.column_set; balance_fault = by.rows_least.fault }
  | inr many ↦ let by = is.few_rows (omega arith) in record { row_set = by.row_set; column_set = by.columns_least.column_set; balance_fault = by.columns_least.fault }
]

-- the cycle fault is a fault
pub cycle_is_fault : (m : Matrix) (lines : LineSet) → IsMatrix m → IsCycleFault m lines.rows lines.columns → IsFaultOf m lines
cycle_is_fault m lines shape is = record { row_set = is.row_set; column_set = is.column_set; balance_fault = cycle_fault_unbalanced m (is_ternary m shape) lines.rows lines.columns is }

-- all decompositions within a budget and with this number of pivots say yes, or none does
pub undecomposed : (budget pivots : ℕ) (m : Matrix) (tree : Tree) → IsTreeFor (height m) m.width tree → IsShapeWith budget pivots m tree
    → ¬ (verdict_of tree ≡ verdicts.Yes) → ¬ (IsDecomposed budget pivots m)
undecomposed budget pivots m tree is shape apart other = apart (one_verdict budget pivots m tree other.tree is other.is_tree shape other.shape ∙ other.verdict)

pub tree_for : (m : Matrix) (tree : SizedTree) → tree.rows ≡ height m → tree.columns ≡ m.width → IsDecTree tree → IsTreeFor (height m) m.width (tree_of tree.root)
tree_for m tree rows columns is = subst (λ n. IsTreeFor n m.width (tree_of tree.root)) rows (subst (λ n. IsTreeFor tree.rows n (tree_of tree.root)) columns is)

-- a matrix with a sound tree whose verdict is yes is balanced
pub balanced_by_tree : (m : Matrix) → IsMatrix m → (tree : SizedTree) → IsDecTree tree → IsSound m tree → verdict_of (tree_of tree.root) ≡ verdicts.Yes → IsBalanced m
balanced_by_tree m shape tree is sound says = free_is_balanced m (is_ternary m shape) (subst (VerdictMeans m) says (verdict_means m shape tree.rows tree.columns (tree_of tree.root) is sound)).none

-- ---- one status

same_found : (o : BalancedOrder) (m : Matrix) (a b : LeastSubmatrix) → HasSearchedFaults m o.budget a → HasSearchedFaults m o.budget b → (search_report o m a).status ≡ (search_report o m b).status
same_found o m Clean Clean f g = refl
same_found o m Clean (Found lines) f g = let is = least_is_fault m lines g.1 in absurd (f.1 lines.rows lines.columns is.row_set is.column_set is.balance_fault)
same_found o m Clean (TooMany shorter) f g = let l = f.0 in let a = g.0 in let e = g.1 in absurd (omega arith)
same_found o m (Found lines) Clean f g = let is = least_is_fault m lines f.1 in absurd (g.1 lines.rows lines.columns is.row_set is.column_set is.balance_fault)
same_found o m (Found lines) (Found lines') f g = refl
same_found o m (Found lines) (TooMany shorter) f g = let l = f.0 in let a = g.0 in let e = g.1 in absurd (omega arith)
same_found o m (TooMany shorter) Clean f g = let l = g.0 in let a = f.0 in let e = f.1 in absurd (omega arith)
same_found o m (TooMany shorter) (Found lines) f g = let l = g.0 in let a = f.0 in let e = f.1 in absurd (omega arith)
same_found o m (TooMany shorter) (TooMany shorter') f g = refl

one_status : (o : BalancedOrder) (m : Matrix) (r s : Report) → BalancedDecides o m r → BalancedDecides o m s → r.status ≡ s.status
one_status o m r s (cycle fault is bad e) (cycle fault' is' bad' f) = status_of r _ e ∙ sym (status_of s _ f)
one_status o m r s (cycle fault is bad e) (decomposed none tree balanced f) = absurd (not_both m fault none is)
one_status o m r s (cycle fault is bad e) (searched needed found has f) = absurd (not_both m fault needed.no_fault is)
one_status o m r s (decomposed none tree balanced e) (cycle fault is bad f) = absurd (not_both m fault none is)
one_status o m r s (decomposed none tree balanced e) (decomposed none' tree' balanced' f) = status_of r _ e ∙ sym (status_of s _ f)
one_status o m r s (decomposed none tree balanced e) (searched needed found has f) = absurd (needed.undecomposed tree)
one_status o m r s (searched needed found has e) (cycle fault is bad f) = absurd (not_both m fault needed.no_fault is)
one_status o m r s (searched needed found has e) (decomposed none tree balanced f) = absurd (needed.undecomposed tree)
one_status o m r s (searched needed found has e) (searched needed' found' has' f) = status_of r _ e ∙ same_found o m found found' has has' ∙ sym (status_of s _ f)

-- ---- the meaning

module _ (o : BalancedOrder) (m : Matrix) where
  says_yes : IsBalanced m → (answer : Answer) → 0 ≡ answer_status answer → BalancedMeans o m answer
  says_yes balanced Yes e = balanced
  says_yes balanced No e = absurd (omega arith)
  says_yes balanced Undecided e = absurd (omega arith)
  says_yes balanced Refused e = absurd (omega arith)

  says_no : (fault : LineSet) → IsFaultOf m fault → (answer : Answer) → 1 ≡ answer_status answer → BalancedMeans o m answer
  says_no fault is Yes e = absurd (omega arith)
  says_no fault is No e = (fault, is)
  says_no fault is Undecided e = absurd (omega arith)
  says_no fault is Refused e = absurd (omega arith)

  says_open : IsUndecided o.budget o.pivots m → (answer : Answer) → 6 ≡ answer_status answer → BalancedMeans o m answer
  says_open is Yes e = absurd (omega arith)
  says_open is No e = absurd (omega arith)
  says_open is Undecided e = is
  says_open is Refused e = absurd (omega arith)

  says_found : NeedsSearch o.budget o.pivots m → (found : LeastSubmatrix) → HasSearchedFaults m o.budget found → (answer : Answer)
      → (search_report o m found).status ≡ answer_status answer → BalancedMeans o m answer
  says_found needed Clean has answer e = says_yes has.1 answer e
  says_found needed (Found lines) has answer e = says_no lines (least_is_fault m lines has.1) answer e
  says_found needed (TooMany shorter) has answer e = says_open (record { needed = needed; above = subst (λ n. o.budget < n) has.1 has.0 }) answer e

says : (o : BalancedOrder) (m : Matrix) (r : Report) (answer : Answer) → BalancedDecides o m r → r.status ≡ answer_status answer → BalancedMeans o m answer
says o m r answer (cycle fault is bad e) status = says_no o m fault bad answer (sym (status_of r _ e) ∙ status)
says o m r answer (decomposed none tree balanced e) status = says_yes o m balanced answer (sym (status_of r _ e) ∙ status)
says o m r answer (searched needed found has e) status = says_found o m needed found has answer (sym (status_of r _ e) ∙ status)

-- ---- a decision is an answer

search_answers : (o : BalancedOrder) (m : Matrix) (found : LeastSubmatrix) (r : Report) → r ≡ search_report o m found → IsAnswered r
search_answers o m Clean r e = (Yes, status_of r _ e)
search_answers o m (Found fault) r e = (No, status_of r _ e)
search_answers o m (TooMany shorter) r e = (Undecided, status_of r _ e)

answers : (o : BalancedOrder) (m : Matrix) (r : Report) → BalancedDecides o m r → IsAnswered r
answers o m r (cycle fault found bad e) = (No, status_of r _ e)
answers o m r (decomposed none tree all e) = (Yes, status_of r _ e)
answers o m r (searched needed found has e) = search_answers o m found r e

pub balanced_lawful : (o : BalancedOrder) → IsLawful (balanced_tool o)
balanced_lawful o = lawful (balanced_source o) (BalancedDecides o) (BalancedMeans o) (says o) (IsInRanges o) (one_status o) (answers o)

-- the numbers in the arguments of `balanced` are in their ranges, the pivots included
pub balanced_order-ranges : (words : List Text) (o : BalancedOrder) → balanced_order words ≡ Some o → IsInRanges o × (o.pivots ≤ 100)
balanced_order-ranges words o e = go (matches_with_input balanced_app words) e
  where
    order_with : List Row → MatrixForm → ℕ → ℕ → ℕ → BalancedOrder
    order_with rows form budget pivots workers = record { form = form; budget = budget; pivots = pivots; workers = workers; fault = fault_in rows; file = file_in rows }

    go : (rows : Option (List Row)) → (rows >>= balanced_order_in) ≡ Some o → IsInRanges o × (o.pivots ≤ 100)
    go None e = cc
    go (Some rows) e = with_numbers (λ (x : BalancedOrder). IsInRanges x × (x.pivots ≤ 100)) (order_with rows) rows o (λ form budget pivots workers few bound some. (record { budget = few; some = some.0; workers = some.1 }, bound)) e
