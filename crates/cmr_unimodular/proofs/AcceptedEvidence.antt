-- `check` accepts the evidence that `tu` and `regular` write.
use Rattle.std.proofs.Common.{◌≡◌, ◌∙◌, ℕ, true, false, List, [], ◌∷◌, Some, Ok, refl, sym, subst, arith}
use Rattle.std.specs.List.{AllByRecursion}
use Rattle.std.proofs.lemmas.Bool.{false≢true}
use Rattle.cmr_base.specs.declared.limits.TheConstants.{MAX_EVIDENCE}
use Rattle.cmr_base.specs.declared.line_set.LineSet.{LineSet}
use Rattle.cmr_base.specs.Matrix.{Matrix, height, IsMatrix}
use Rattle.text_fields.specs.TextWords.{text_of}
use Rattle.matrix_text.specs.CanonicalMatrices.{dense_text, submatrix_text}
use Rattle.matrix_text.specs.Submatrix.{named_lines}
use Rattle.matrix_text.proofs.DenseAgain.{dense_again}
use Rattle.matrix_text.proofs.SubmatrixAgain.{submatrix_again}
use Rattle.matrix_text.proofs.TextLengths.{dense_text_within}
use Rattle.chains.specs.declared.step.SignStep.{SignStep}
use Rattle.chains.specs.declared.step.SignStep.TheVariants.{Free, Forced}
use Rattle.chains.specs.ChainTexts.{IsIncreasingStep, chain, chain_text}
use Rattle.camion_sign.specs.SignOrder.{IsNextSign}
use Rattle.chains.specs.SignSteps.{LeadTo, signed_by}
use Rattle.chains.proofs.ChainAgain.{chain_again}
use Rattle.camion_sign.proofs.SignedSteps.{few_signed, steps_in}
use Rattle.tree_laws.specs.Laws.{IsRefuted, VerdictMeans}
use Rattle.tree_laws.proofs.SoundTrees.{verdict_means}
use Rattle.tree_type.specs.DecompositionTrees.{SizedTree, tree_of}
use Rattle.tree_type.specs.Verdicts as verdicts
use Rattle.tree_text.specs.TreeReading.{tree}
use Rattle.tree_text.proofs.TreesAgain.{tree_again}
use Rattle.cmr_front.specs.declared.matrix_file.MatrixForm.{MatrixForm}
use Rattle.cmr_front.specs.declared.matrix_file.MatrixForm.TheVariants.{Dense}
use Rattle.cmr_front.specs.declared.outcome.FaultKind.TheVariants as faults
use Rattle.cmr_front.specs.declared.status.Answer.{Answer}
use Rattle.cmr_front.specs.declared.status.Failure.TheVariants as failures
use Rattle.cmr_front.specs.Evidence.{evidence_file, evidence_files}
use Rattle.cmr_front.specs.Inputs.{Given, given, not_there, reading, texts, too_much, whole}
use Rattle.cmr_front.specs.MatrixText.{Source, matrix_file, matrix_in, matrix_tool}
use Rattle.cmr_front.specs.Report.{Held, Report}
use Rattle.cmr_front.specs.Run.{ReportsGiven}
use Rattle.cmr_front.specs.Status.{answer_status}
use Rattle.cmr_front.proofs.HeldTexts.{both_given, read_alone, read_same, read_whole}
use Rattle.cmr_front.proofs.MatrixText.{read_is_matrix}
use Rattle.cmr_front.proofs.Statuses.{answered_or_failed, status_of}
use Rattle.cmr_front.proofs.Texts.{answered, read_reported}
use Rattle.cmr_evidence.specs.declared.tools.check.EvidenceKind.TheVariants as kinds
use Rattle.cmr_unimodular.specs.AcceptedEvidence.{ChecksTo, HoldsEvidence, IsAcceptedSigning, IsAcceptedTest, SigningsAreAccepted, TestsAreAccepted, check_of, tree_bytes}
use Rattle.cmr_evidence.specs.Check.{ChainDecides, CheckReports, CheckReportsBy, EvidenceReports, TreeDecides, ViolatorDecides, accepted, accepted_report, check_tool, evidence_kind, irregular_report}
use Rattle.cmr_unimodular.specs.Regular.{IsSignedTo, RegularDecides, RegularMeans, RegularOrder, chain_with, regular_source, regular_tool}
use Rattle.cmr_unimodular.specs.Tu.{TuMeans, TuOrder, tu_source, tu_tool, tu_verdict}
use Rattle.cmr_unimodular.specs.Verdict.{Decides, IsDecomposition, verdict_in}
use Rattle.cmr_evidence.proofs.CheckAnswers.{chain_sign_matrix, shows_irregular}
use Rattle.cmr_evidence.proofs.EvidenceKinds.{kind_of_chain, kind_of_lines, kind_of_tree}
use Rattle.cmr_evidence.proofs.OneCheck.{check_has_one_report}
use Rattle.cmr_unimodular.proofs.RegularAnswers.{lines_in_matrix, sound}

-- ---- the reports of `check` on two texts

module _ (form : MatrixForm) (file evidence matrix_text : List ℕ) (m : Matrix) where
  tree_checked : IsMatrix m → matrix_in form false matrix_text ≡ Ok m → (budget pivots : ℕ) (t : SizedTree) → IsDecomposition budget pivots m t
      → CheckReports (check_of form file evidence) matrix_text (tree_bytes t) (accepted_report m (verdict_in t))
  tree_checked is read budget pivots t d =
      let again = tree_again t.rows t.columns (tree_of t.root) d.is_tree in
      subst (λ kind. CheckReportsBy (check_of form file evidence) kind matrix_text (tree_bytes t) (accepted_report m (verdict_in t))) (sym (kind_of_tree (tree_bytes t) _ again))
      (read_reported faults.Matrix file (λ m. EvidenceReports evidence kinds.Tree m (tree_bytes t)) (matrix_in form false matrix_text) m (accepted_report m (verdict_in t)) read
      (read_reported faults.Tree evidence (TreeDecides m) (tree (text_of (tree_bytes t))) _ (accepted_report m (verdict_in t)) again
      (accepted d.sound (verdict_means m is t.rows t.columns (tree_of t.root) d.is_tree d.sound) refl)))

  violator_checked : IsMatrix m → matrix_in form false matrix_text ≡ Ok m → (fault : LineSet) → IsRefuted m fault
      → CheckReports (check_of form file evidence) matrix_text (submatrix_text (height m) m.width fault) (accepted_report m (verdicts.No fault))
  violator_checked is read fault refuted =
      let bytes = submatrix_text (height m) m.width fault in
      let report = accepted_report m (verdicts.No fault) in
      let again : named_lines (height m) m.width (text_of bytes) ≡ Ok fault =
      submatrix_again (height m) m.width fault (omega (arith, is.height_in)) (omega (arith, is.width_in)) refuted.row_set.increasing refuted.column_set.increasing refuted.row_set.in_range refuted.column_set.in_range in
      subst (λ kind. CheckReportsBy (check_of form file evidence) kind matrix_text bytes report) (sym (kind_of_lines (height m) m.width bytes fault again))
      (read_reported faults.Matrix file (λ m. EvidenceReports evidence kinds.Violator m bytes) (matrix_in form false matrix_text) m report read
      (read_reported faults.Matrix evidence (ViolatorDecides m) (named_lines (height m) m.width (text_of bytes)) fault report again (accepted refuted refl)))

increasing_steps : (a s end : Matrix) (steps : List SignStep) → LeadTo (IsNextSign a) s steps end → AllByRecursion IsIncreasingStep steps
increasing_steps a s end [] e = tt
increasing_steps a s end (Free row column ∷ steps) (v, next, rest) = (tt, increasing_steps a (signed_by s (Free row column) v) end steps rest)
increasing_steps a s end (Forced row column cycle ∷ steps) (v, (turn, next), rest) =
    ((next.cycle_is.row_set.increasing, next.cycle_is.column_set.increasing), increasing_steps a (signed_by s (Forced row column cycle) v) end steps rest)

chain_checked : (form : MatrixForm) (file evidence matrix_text : List ℕ) (a signed : Matrix) (steps : List SignStep) (fault : LineSet)
    → matrix_in form true matrix_text ≡ Ok a → IsSignedTo a steps signed → IsRefuted signed fault
    → CheckReports (check_of form file evidence) matrix_text (chain_text (chain_with a steps fault)) (irregular_report signed fault)
chain_checked form file evidence matrix_text a signed steps fault read signing refuted =
    let c = chain_with a steps fault in
    let is = signing.matrix in
    let good = sound a signed steps fault signing refuted in
    let leads = signing.by_camion.steps_are in
    let again : chain (text_of (chain_text c)) ≡ Ok c = chain_again c (record {
      few_rows = is.height_in;
      few_columns = is.width_in;
      few_steps = few_signed a steps signed is (chain_sign_matrix a c signed is good) leads;
      steps_in = steps_in a steps _ signed is leads;
      steps_increase = increasing_steps a _ signed steps leads;
      violator_in = lines_in_matrix a signed steps (verdicts.No fault) signing refuted;
      violator_increases = (refuted.row_set.increasing, refuted.column_set.increasing);
    }) in
    subst (λ kind. CheckReportsBy (check_of form file evidence) kind matrix_text (chain_text c) (irregular_report signed fault)) (sym (kind_of_chain (chain_text c) c again))
    (read_reported faults.Matrix file (λ m. EvidenceReports evidence kinds.Chain m (chain_text c)) (matrix_in form true matrix_text) a (irregular_report signed fault) read
    (read_reported faults.Chain evidence (ChainDecides a) (chain (text_of (chain_text c))) c (irregular_report signed fault) again
    (accepted signed (shows_irregular a c signed is signing.binary good) refl)))

-- ---- its reports on the contents of the names

checks_to : (form : MatrixForm) (file evidence matrix_text bytes : List ℕ) (later : Held) (report : Report) → reading later (matrix_file file) ≡ whole matrix_text → HoldsEvidence later evidence bytes
    → CheckReports (check_of form file evidence) matrix_text bytes report → ChecksTo (check_of form file evidence) later report
checks_to form file evidence matrix_text bytes later report read holds reports =
    let o = check_of form file evidence in
    let both : given later (evidence_files file evidence) ≡ texts (matrix_text ∷ bytes ∷ []) =
    both_given later (matrix_file file) (evidence_file evidence) matrix_text bytes read (read_whole later (evidence_file evidence) bytes holds.there holds.within) in
    record {
      reports = subst (λ read. ReportsGiven (check_tool o) read report) (sym both) reports;
      only = λ other h. check_has_one_report o (matrix_text ∷ bytes ∷ []) other report (subst (λ read. ReportsGiven (check_tool o) read other) both h) reports;
    }

-- an answer of a tool on a matrix is an answer on the matrix in its file
pub matrix_found : (source : Source) (InRanges : Type 0) (Decides : Matrix → Report → Type 0) (Says : Matrix → Answer → Type 0) (read : Given) (report : Report) (answer : Answer)
    → ReportsGiven (matrix_tool source InRanges Decides Says) read report → report.status ≡ answer_status answer
    → (bytes : List ℕ) × (read ≡ texts (bytes ∷ [])) × (m : Matrix) × (matrix_in source.form source.binary bytes ≡ Ok m) × Decides m report
matrix_found source InRanges Decides Says (not_there name) report answer reports is = absurd reports
matrix_found source InRanges Decides Says (too_much name) report answer reports is = absurd (answered_or_failed report.status answer failures.Text is (status_of report _ reports))
matrix_found source InRanges Decides Says (texts []) report answer reports is = absurd reports
matrix_found source InRanges Decides Says (texts (bytes ∷ [])) report answer reports is =
    let found = answered faults.Matrix source.file Decides (matrix_in source.form source.binary bytes) report answer reports is in
    (bytes, refl, found.0, found.1, found.2)
matrix_found source InRanges Decides Says (texts (bytes ∷ other ∷ others)) report answer reports is = absurd reports

-- the violator of a no
refuted_by_no : (m : Matrix) → IsMatrix m → (budget pivots : ℕ) (t : SizedTree) (fault : LineSet) → IsDecomposition budget pivots m t → verdict_in t ≡ verdicts.No fault → IsRefuted m fault
refuted_by_no m is budget pivots t fault d refutes = subst (VerdictMeans m) refutes (verdict_means m is t.rows t.columns (tree_of t.root) d.is_tree d.sound)

pub tests_are_accepted : TestsAreAccepted
tests_are_accepted o held report answer reports status =
    let found = matrix_found (tu_source o) (tu_tool o).InRanges (Decides (tu_verdict o)) (TuMeans o) (given held (matrix_file o.file ∷ [])) report answer reports status in
    let text = found.0 in
    let m = found.2 in
    let d = found.4 in
    let is = read_is_matrix o.form false text m found.3 in
    let read : (later : Held) → later o.file ≡ held o.file → reading later (matrix_file o.file) ≡ whole text = λ later same. read_same held later (matrix_file o.file) same ∙ read_alone held (matrix_file o.file) text found.1 in
    record {
      matrix_text = text;
      held_text = found.1;
      matrix = m;
      matrix_is = found.3;
      tree = d.tree;
      decomposition = d.decomposition;
      report_is = d.report_is;
      tree_accepted = λ evidence later same holds. checks_to o.form o.file evidence text (tree_bytes d.tree) later (accepted_report m (verdict_in d.tree)) (read later same) holds
          (tree_checked o.form o.file evidence text m is found.3 o.budget o.pivots d.tree d.decomposition);
      violator_accepted = λ fault refutes evidence later same holds. checks_to o.form o.file evidence text (submatrix_text (height m) m.width fault) later (accepted_report m (verdicts.No fault)) (read later same) holds
          (violator_checked o.form o.file evidence text m is found.3 fault (refuted_by_no m is o.budget o.pivots d.tree fault d.decomposition refutes));
    }

pub signings_are_accepted : SigningsAreAccepted
signings_are_accepted o held report answer reports status =
    let found = matrix_found (regular_source o) (regular_tool o).InRanges (RegularDecides o) (RegularMeans o) (given held (matrix_file o.file ∷ [])) report answer reports status in
    let text = found.0 in
    let a = found.2 in
    let d = found.4 in
    let m = d.signed in
    let is = d.signing.signed_matrix in
    let again : matrix_in Dense false (dense_text m) ≡ Ok m = dense_again false m is (λ binary. absurd (false≢true binary)) in
    let read : (file : List ℕ) (later : Held) → later file ≡ Some (dense_text m) → reading later (matrix_file file) ≡ whole (dense_text m) = λ file later there. read_whole later (matrix_file file) (dense_text m) there (dense_text_within m is) in
    record {
      matrix_text = text;
      held_text = found.1;
      matrix = a;
      matrix_is = found.3;
      steps = d.steps;
      signed = m;
      signing = d.signing;
      tree = d.tree;
      decomposition = d.decomposition;
      report_is = d.report_is;
      tree_accepted = λ file evidence later there holds. checks_to Dense file evidence (dense_text m) (tree_bytes d.tree) later (accepted_report m (verdict_in d.tree)) (read file later there) holds
          (tree_checked Dense file evidence (dense_text m) m is again o.budget o.pivots d.tree d.decomposition);
      violator_accepted = λ fault refutes file evidence later there holds. checks_to Dense file evidence (dense_text m) (submatrix_text (height m) m.width fault) later (accepted_report m (verdicts.No fault)) (read file later there) holds
          (violator_checked Dense file evidence (dense_text m) m is again fault (refuted_by_no m is o.budget o.pivots d.tree fault d.decomposition refutes));
      chain_accepted = λ fault refutes evidence later same holds. checks_to o.form o.file evidence text (chain_text (chain_with a d.steps fault)) later (irregular_report m fault)
          (read_same held later (matrix_file o.file) same ∙ read_alone held (matrix_file o.file) text found.1) holds
          (chain_checked o.form o.file evidence text a m d.steps fault found.3 d.signing (refuted_by_no m is o.budget o.pivots d.tree fault d.decomposition refutes));
    }
