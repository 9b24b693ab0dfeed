-- The arguments and the texts determine the reports of `tu`, `regular` and `generate`, except for the networks in a written tree.
use Rattle.std.proofs.Common.{◌≡◌, ◌∙◌, ◌++◌, ℕ, List, [], Option, Some, None, refl, ap, ap₂, sym, subst}
use Rattle.cmr_base.specs.Matrix.{Matrix}
use Rattle.chains.specs.declared.step.SignStep.{SignStep}
use Rattle.tree_type.specs.DecompositionTrees.{SizedTree, tree_of}
use Rattle.tree_type.specs.Verdicts.{Verdict, verdict_of}
use Rattle.tree_text.specs.CanonicalTrees.{tree_text}
use Rattle.decomp_tree.specs.PlainTrees.{plain_tree}
use Rattle.decomp_tree.proofs.PlainVerdicts.{verdict_plain}
use Rattle.open_parts.proofs.TriedRoots.{one_tried_shape}
use Rattle.cmr_front.specs.AlikeReports.{AllAlike, DifferInFiles, HasAlikeReports}
use Rattle.cmr_front.specs.Report.{File, Report}
use Rattle.cmr_front.specs.Status.{answer_status}
use Rattle.cmr_front.specs.Tool.{HasOneReport}
use Rattle.cmr_front.proofs.AlikeReports.{alike_append, alike_reports, equal_reports, same_files}
use Rattle.cmr_front.proofs.OneReports.{alike_of_matrix, one_report_of_matrix}
use Rattle.cmr_unimodular.specs.AlikeTrees.{HoldAlikeTrees, same, trees}
use Rattle.cmr_unimodular.specs.Generate.{GenerateOrder, generate_report, generate_tool, generate_verdict}
use Rattle.cmr_unimodular.specs.Regular.{RegularDecides, RegularMeans, RegularOrder, regular_report, regular_source, regular_tool, regular_verdict, signing_files}
use Rattle.cmr_unimodular.specs.Tu.{TuMeans, TuOrder, tu_source, tu_tool, tu_verdict}
use Rattle.cmr_evidence.specs.VerdictWords.{answer_of, answer_word, named_line}
use Rattle.cmr_unimodular.specs.Verdict.{Decides, IsDecomposition, VerdictOrder, fault_file, tree_file, verdict_in, verdict_output, verdict_report}
use Rattle.cmr_unimodular.proofs.GenerateAnswers.{one_made}
use Rattle.cmr_unimodular.proofs.OneSigning.{one_signing}
use Rattle.cmr_unimodular.proofs.PlainOutlines.{one_outline}

pub same_file : (f : File) → HoldAlikeTrees f f
same_file f = same refl

-- ---- the reports of two decompositions of a matrix

module _ (budget pivots : ℕ) (m : Matrix) (t u : SizedTree) (is : IsDecomposition budget pivots m t) (other : IsDecomposition budget pivots m u) where
  plain_same : plain_tree (tree_of t.root) ≡ plain_tree (tree_of u.root)
  plain_same = one_tried_shape budget pivots m (tree_of t.root) (tree_of u.root) is.shape other.shape

  verdict_same : verdict_in t ≡ verdict_in u
  verdict_same = verdict_plain (tree_of t.root) ∙ ap verdict_of plain_same ∙ sym (verdict_plain (tree_of u.root))

  tree_files_alike : (name : Option (List ℕ)) → AllAlike HoldAlikeTrees (tree_file name t) (tree_file name u)
  tree_files_alike None = tt
  tree_files_alike (Some name) = (
    trees refl t.rows t.columns (tree_of t.root) (tree_of u.root) plain_same refl
        (ap₂ (λ rows columns. tree_text rows columns (tree_of u.root)) (other.rows ∙ sym is.rows) (other.columns ∙ sym is.columns)),
    tt,
  )

  fault_files_alike : (name : Option (List ℕ)) → AllAlike HoldAlikeTrees (fault_file name m (verdict_in t)) (fault_file name m (verdict_in u))
  fault_files_alike name = subst (λ v. AllAlike HoldAlikeTrees (fault_file name m (verdict_in t)) (fault_file name m v)) verdict_same (same_files HoldAlikeTrees same_file (fault_file name m (verdict_in t)))

  output_same : (label : List ℕ) → verdict_output label m t ≡ verdict_output label m u
  output_same label =
      ap₂ (λ (v : Verdict) (outline : List ℕ). label ++ answer_word v ++ named_line m v ++ outline) verdict_same (one_outline 0 (tree_of t.root) (tree_of u.root) plain_same)

  verdicts_alike : (o : VerdictOrder) → DifferInFiles HoldAlikeTrees (verdict_report o m t) (verdict_report o m u)
  verdicts_alike o = record {
    status = ap (λ v. answer_status (answer_of v)) verdict_same;
    output = output_same o.label;
    error = refl;
    files = alike_append HoldAlikeTrees (tree_file o.tree t) (tree_file o.tree u) (fault_file o.fault m (verdict_in t)) (fault_file o.fault m (verdict_in u)) (tree_files_alike o.tree) (fault_files_alike o.fault);
  }

  -- if no tree is written, the reports are equal
  verdicts_equal : (o : VerdictOrder) → o.tree ≡ None → verdict_report o m t ≡ verdict_report o m u
  verdicts_equal o none =
      ap (report_with (verdict_in t) (verdict_output o.label m t)) (ap (λ name. tree_file name t) none)
      ∙ ap₂ (λ v output. report_with v output []) verdict_same (output_same o.label)
      ∙ sym (ap (report_with (verdict_in u) (verdict_output o.label m u)) (ap (λ name. tree_file name u) none))
    where
      report_with : Verdict → List ℕ → List File → Report
      report_with v output files = record { status = answer_status (answer_of v); output = output; error = []; files = files ++ fault_file o.fault m v }

  module _ (o : RegularOrder) (a : Matrix) (steps : List SignStep) where
    signings_alike : DifferInFiles HoldAlikeTrees (regular_report o a steps m t) (regular_report o a steps m u)
    signings_alike =
        let alike = verdicts_alike (regular_verdict o) in
        record {
          status = alike.status;
          output = alike.output;
          error = alike.error;
          files = alike_append HoldAlikeTrees (verdict_report (regular_verdict o) m t).files (verdict_report (regular_verdict o) m u).files (signing_files o a steps m (verdict_in t)) (signing_files o a steps m (verdict_in u)) alike.files
              (subst (λ v. AllAlike HoldAlikeTrees (signing_files o a steps m (verdict_in t)) (signing_files o a steps m v)) verdict_same (same_files HoldAlikeTrees same_file (signing_files o a steps m (verdict_in t))));
        }

    signings_equal : o.tree ≡ None → regular_report o a steps m t ≡ regular_report o a steps m u
    signings_equal none = ap₂ with_signing (verdicts_equal (regular_verdict o) none) verdict_same
      where
        with_signing : Report → Verdict → Report
        with_signing r v = record { status = r.status; output = r.output; error = r.error; files = r.files ++ signing_files o a steps m v }

-- ---- `tu` and `generate`

decided_alike : (o : VerdictOrder) (m : Matrix) (r s : Report) → Decides o m r → Decides o m s → DifferInFiles HoldAlikeTrees r s
decided_alike o m r s a b =
    alike_reports HoldAlikeTrees r (verdict_report o m a.tree) s (verdict_report o m b.tree) a.report_is b.report_is (verdicts_alike o.budget o.pivots m a.tree b.tree a.decomposition b.decomposition o)

decided_equal : (o : VerdictOrder) (m : Matrix) (r s : Report) → o.tree ≡ None → Decides o m r → Decides o m s → r ≡ s
decided_equal o m r s none a b = a.report_is ∙ verdicts_equal o.budget o.pivots m a.tree b.tree a.decomposition b.decomposition o none ∙ sym b.report_is

pub tu_alike : (o : TuOrder) → HasAlikeReports HoldAlikeTrees (tu_tool o)
tu_alike o = alike_of_matrix (DifferInFiles HoldAlikeTrees) (equal_reports HoldAlikeTrees same_file) (tu_source o) (Decides (tu_verdict o)) (λ m is. decided_alike (tu_verdict o) m)

pub tu_has_one_report : (o : TuOrder) → o.tree ≡ None → HasOneReport (tu_tool o)
tu_has_one_report o none = one_report_of_matrix (tu_source o) (tu_tool o).InRanges (Decides (tu_verdict o)) (TuMeans o) (λ m is r s. decided_equal (tu_verdict o) m r s none)

pub generate_has_one_report : (o : GenerateOrder) → HasOneReport (generate_tool o)
generate_has_one_report o bytes r s a b =
    let made : b.made ≡ a.made = one_made o b.made a.made b.is_made a.is_made in
    let other : Decides (generate_verdict o) a.made b.tested = subst (λ m. Decides (generate_verdict o) m b.tested) made b.verdict in
    a.report_is ∙ ap₂ (generate_report o) (sym made) (decided_equal (generate_verdict o) a.made a.tested b.tested refl a.verdict other) ∙ sym b.report_is

-- ---- `regular`

module _ (o : RegularOrder) (a : Matrix) (r s : Report) (x : RegularDecides o a r) (y : RegularDecides o a s) where
  one_signed : (y.steps ≡ x.steps) × (y.signed ≡ x.signed)
  one_signed = one_signing a y.signed x.signed y.steps x.steps x.signing.matrix y.signing.by_camion x.signing.by_camion

  other_decomposition : IsDecomposition o.budget o.pivots x.signed y.tree
  other_decomposition = subst (λ m. IsDecomposition o.budget o.pivots m y.tree) one_signed.1 y.decomposition

  other_report : s ≡ regular_report o a x.steps x.signed y.tree
  other_report = y.report_is ∙ ap₂ (λ (steps : List SignStep) (signed : Matrix). regular_report o a steps signed y.tree) one_signed.0 one_signed.1

  signed_alike : DifferInFiles HoldAlikeTrees r s
  signed_alike =
      alike_reports HoldAlikeTrees r (regular_report o a x.steps x.signed x.tree) s (regular_report o a x.steps x.signed y.tree) x.report_is other_report
      (signings_alike o.budget o.pivots x.signed x.tree y.tree x.decomposition other_decomposition o a x.steps)

  signed_equal : o.tree ≡ None → r ≡ s
  signed_equal none = x.report_is ∙ signings_equal o.budget o.pivots x.signed x.tree y.tree x.decomposition other_decomposition o a x.steps none ∙ sym other_report

pub regular_alike : (o : RegularOrder) → HasAlikeReports HoldAlikeTrees (regular_tool o)
regular_alike o = alike_of_matrix (DifferInFiles HoldAlikeTrees) (equal_reports HoldAlikeTrees same_file) (regular_source o) (RegularDecides o) (λ a is r s x y. signed_alike o a r s x y)

pub regular_has_one_report : (o : RegularOrder) → o.tree ≡ None → HasOneReport (regular_tool o)
regular_has_one_report o none = one_report_of_matrix (regular_source o) (regular_tool o).InRanges (RegularDecides o) (RegularMeans o) (λ a is r s x y. signed_equal o a r s x y none)
