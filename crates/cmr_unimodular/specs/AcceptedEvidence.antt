-- `check` accepts the evidence that `tu` and `regular` write, with the same matrix.
use Rattle.std.specs.Prelude.{◌≡◌, ◌≤◌, ℕ, List, [], ◌∷◌, length, Some, Ok, true, false}
use Rattle.cmr_base.specs.declared.limits.TheConstants.{MAX_EVIDENCE}
use Rattle.cmr_base.specs.declared.line_set.LineSet.{LineSet}
use Rattle.cmr_base.specs.Matrix.{Matrix, height}
use Rattle.matrix_text.specs.CanonicalMatrices.{dense_text, submatrix_text}
use Rattle.chains.specs.declared.step.SignStep.{SignStep}
use Rattle.chains.specs.ChainTexts.{chain_text}
use Rattle.tree_type.specs.DecompositionTrees.{SizedTree, tree_of}
use Rattle.tree_type.specs.Verdicts as verdicts
use Rattle.tree_text.specs.CanonicalTrees.{tree_text}
use Rattle.cmr_front.specs.declared.matrix_file.MatrixForm.{MatrixForm}
use Rattle.cmr_front.specs.declared.matrix_file.MatrixForm.TheVariants.{Dense}
use Rattle.cmr_front.specs.declared.status.Answer.{Answer}
use Rattle.cmr_front.specs.Inputs.{given, texts}
use Rattle.cmr_front.specs.MatrixText.{matrix_file, matrix_in}
use Rattle.cmr_front.specs.Report.{Held, Report}
use Rattle.cmr_front.specs.Run.{ReportsHeld}
use Rattle.cmr_front.specs.Status.{answer_status}
use Rattle.cmr_evidence.specs.Check.{CheckOrder, accepted_report, check_tool, irregular_report}
use Rattle.cmr_unimodular.specs.Regular.{IsSignedTo, RegularOrder, chain_with, regular_report, regular_tool}
use Rattle.cmr_unimodular.specs.Tu.{TuOrder, tu_tool, tu_verdict}
use Rattle.cmr_unimodular.specs.Verdict.{IsDecomposition, verdict_in, verdict_report}

-- the order of `check`: the evidence in one file, with the matrix in another
abbrev pub check_of : MatrixForm → List ℕ → List ℕ → CheckOrder
check_of form matrix evidence = record { form = form; matrix = matrix; evidence = evidence }

-- `check` gives this report on the contents of the names, and no other
pub record ChecksTo (o : CheckOrder) (held : Held) (report : Report) : Type 0 where
  pub reports : ReportsHeld (check_tool o) held report
  pub only : (other : Report) → ReportsHeld (check_tool o) held other → other ≡ report

-- a file holds this evidence, which is within the limit on evidence
pub record HoldsEvidence (held : Held) (name bytes : List ℕ) : Type 0 where
  pub there : held name ≡ Some bytes
  pub within : length bytes ≤ MAX_EVIDENCE

abbrev pub tree_bytes : SizedTree → List ℕ
tree_bytes tree = tree_text tree.rows tree.columns (tree_of tree.root)

-- The file that was read holds a matrix, and the report is a report of a decomposition of it. If this file has not changed and another
-- file holds the tree, `check` accepts the tree with that matrix and gives the same answer. It also accepts the violator of a no.
pub record IsAcceptedTest (o : TuOrder) (held : Held) (report : Report) : Type 0 where
  pub matrix_text : List ℕ
  pub held_text : given held (matrix_file o.file ∷ []) ≡ texts (matrix_text ∷ [])
  pub matrix : Matrix
  pub matrix_is : matrix_in o.form false matrix_text ≡ Ok matrix
  pub tree : SizedTree
  pub decomposition : IsDecomposition o.budget o.pivots matrix tree
  pub report_is : report ≡ verdict_report (tu_verdict o) matrix tree
  pub tree_accepted : (evidence : List ℕ) (later : Held) → later o.file ≡ held o.file → HoldsEvidence later evidence (tree_bytes tree)
      → ChecksTo (check_of o.form o.file evidence) later (accepted_report matrix (verdict_in tree))
  pub violator_accepted : (fault : LineSet) → verdict_in tree ≡ verdicts.No fault → (evidence : List ℕ) (later : Held) → later o.file ≡ held o.file
      → HoldsEvidence later evidence (submatrix_text (height matrix) matrix.width fault) → ChecksTo (check_of o.form o.file evidence) later (accepted_report matrix (verdicts.No fault))

abbrev pub TestsAreAccepted : Type 0
TestsAreAccepted = (o : TuOrder) (held : Held) (report : Report) (answer : Answer) → ReportsHeld (tu_tool o) held report → report.status ≡ answer_status answer → IsAcceptedTest o held report

-- The file that was read holds a 0/1 matrix, and the report comes from its signing and a decomposition of the signed matrix. If a file
-- holds the signed matrix, `check` accepts the tree and the violator of a no with it. If the file that was read has not changed,
-- `check` accepts the chain of a no with the 0/1 matrix.
pub record IsAcceptedSigning (o : RegularOrder) (held : Held) (report : Report) : Type 0 where
  pub matrix_text : List ℕ
  pub held_text : given held (matrix_file o.file ∷ []) ≡ texts (matrix_text ∷ [])
  pub matrix : Matrix
  pub matrix_is : matrix_in o.form true matrix_text ≡ Ok matrix
  pub steps : List SignStep
  pub signed : Matrix
  pub signing : IsSignedTo matrix steps signed
  pub tree : SizedTree
  pub decomposition : IsDecomposition o.budget o.pivots signed tree
  pub report_is : report ≡ regular_report o matrix steps signed tree
  pub tree_accepted : (file evidence : List ℕ) (later : Held) → later file ≡ Some (dense_text signed) → HoldsEvidence later evidence (tree_bytes tree)
      → ChecksTo (check_of Dense file evidence) later (accepted_report signed (verdict_in tree))
  pub violator_accepted : (fault : LineSet) → verdict_in tree ≡ verdicts.No fault → (file evidence : List ℕ) (later : Held) → later file ≡ Some (dense_text signed)
      → HoldsEvidence later evidence (submatrix_text (height signed) signed.width fault) → ChecksTo (check_of Dense file evidence) later (accepted_report signed (verdicts.No fault))
  pub chain_accepted : (fault : LineSet) → verdict_in tree ≡ verdicts.No fault → (evidence : List ℕ) (later : Held) → later o.file ≡ held o.file
      → HoldsEvidence later evidence (chain_text (chain_with matrix steps fault)) → ChecksTo (check_of o.form o.file evidence) later (irregular_report signed fault)

abbrev pub SigningsAreAccepted : Type 0
SigningsAreAccepted = (o : RegularOrder) (held : Held) (report : Report) (answer : Answer) → ReportsHeld (regular_tool o) held report → report.status ≡ answer_status answer → IsAcceptedSigning o held report
