-- The meaning of the answers of `parts` for the matrix and the tree.
use Rattle.std.proofs.Common.{◌≡◌, ◌∙◌, inl, inr, ℕ, List, map, length, false, ap, ap₂, sym, subst, arith, Ok, refl}
use Rattle.std.proofs.lemmas.List.{length-map}
use Rattle.cmr_base.specs.LineSets.{submatrix}
use Rattle.cmr_base.specs.Matrix.{Matrix, IsMatrix, entry, height}
use Rattle.cmr_base.proofs.Parts.{is_matrix-submatrix}
use Rattle.text_fields.specs.TextWords.{text_of}
use Rattle.matrix_text.specs.CanonicalMatrices.{dense_text}
use Rattle.compose.specs.declared.arrangement.Arranged.{Arranged}
use Rattle.compose.specs.declared.sum_kind.SumKind.{SumKind}
use Rattle.compose.specs.SumKinds.{sum_of}
use Rattle.compose.proofs.Orders.{order_count}
use Rattle.compose.proofs.SumSizes.{sums_lose_lines}
use Rattle.tree_text.specs.TreeReading.{PlainTree, tree}
use Rattle.tree_type.specs.Places.{places}
use Rattle.tree_type.specs.DecompositionTrees.{Finding, TwoSum, ThreeSum}
use Rattle.tree_type.proofs.OneRefusal.{one_refusal, sound_unbroken}
use Rattle.cmr_front.specs.declared.matrix_file.MatrixForm.{MatrixForm}
use Rattle.cmr_front.specs.declared.matrix_file.MatrixForm.TheVariants.{Dense}
use Rattle.cmr_front.specs.declared.status.Answer.{Answer}
use Rattle.cmr_front.specs.declared.status.Answer.TheVariants.{Yes, No, Undecided, Refused}
use Rattle.cmr_front.specs.declared.status.Failure.TheVariants.{Text}
use Rattle.cmr_front.specs.declared.outcome.FaultKind.TheVariants as faults
use Rattle.cmr_front.specs.Evidence.{ReportsTree, evidence_files}
use Rattle.cmr_front.specs.MatrixText.{matrix_in}
use Rattle.cmr_front.specs.Refusals.{refusal_line}
use Rattle.cmr_front.specs.Report.{Report}
use Rattle.cmr_front.specs.Status.{answer_status, failure_status}
use Rattle.cmr_front.specs.Texts.{ReportsText}
use Rattle.cmr_front.specs.Tool.{HasOneReport, IsFaultOfFile, IsLawful}
use Rattle.cmr_front.proofs.Statuses.{IsAnswered, status_of}
use Rattle.cmr_front.proofs.Texts.{answered, one_report_of_pair, one_report_of_text, pair_lawful, read_reported, fault_of_last, fault_of_text}
use Rattle.cmr_reach.specs.Compose.{ComposeDecides, IsComposed, composed, composed_report, ComposeOrder}
use Rattle.cmr_reach.specs.Parts.{AreComposedTo, ArePartsOfRoot, IsRootSum, PartsDecides, PartsMean, PartsReports, PartsSay, parted, other_root, refused, parts_report, parts_tool, root_of, root_word, said_refused, PartsOrder}
use Rattle.cmr_reach.proofs.ComposeAnswers.{read_again}

-- ---- one report

one_sum : (m : Matrix) (finding : Finding) (kind other : SumKind) (both others : Arranged) → IsRootSum m kind both finding → IsRootSum m other others finding → both ≡ others
one_sum m (TwoSum two) kind other both others is are = is.1 ∙ sym are.1
one_sum m (ThreeSum three) kind other both others is are = is.1 ∙ sym are.1
one_sum m finding kind other both others is are = absurd is

one_decision : (o : PartsOrder) (m : Matrix) (t : PlainTree) (r s : Report) → PartsDecides o m t r → PartsDecides o m t s → r ≡ s
one_decision o m t r s (parted sound kind both are e) (parted sound' other others are' f) =
    e ∙ ap (parts_report o (root_word (root_of t))) (one_sum m (root_of t) kind other both others are.of_root are'.of_root) ∙ sym f
one_decision o m t r s (parted sound kind both are e) (other_root sound' none f) = absurd (none kind both are.of_root)
one_decision o m t r s (parted sound kind both are e) (refused path broken is f) = absurd (sound_unbroken m (places t.rows t.columns t.root) path broken sound is)
one_decision o m t r s (other_root sound none e) (parted sound' kind both are f) = absurd (none kind both are.of_root)
one_decision o m t r s (other_root sound none e) (other_root sound' none' f) = e ∙ sym f
one_decision o m t r s (other_root sound none e) (refused path broken is f) = absurd (sound_unbroken m (places t.rows t.columns t.root) path broken sound is)
one_decision o m t r s (refused path broken is e) (parted sound kind both are f) = absurd (sound_unbroken m (places t.rows t.columns t.root) path broken sound is)
one_decision o m t r s (refused path broken is e) (other_root sound none f) = absurd (sound_unbroken m (places t.rows t.columns t.root) path broken sound is)
one_decision o m t r s (refused path broken is e) (refused path' broken' is' f) =
    let same = one_refusal m (places t.rows t.columns t.root) path path' broken broken' is is' in
    e ∙ ap₂ (λ p b. said_refused (refusal_line p b)) same.0 same.1 ∙ sym f

one : (o : PartsOrder) (matrix evidence : List ℕ) (r s : Report) → PartsReports o matrix evidence r → PartsReports o matrix evidence s → r ≡ s
one o matrix evidence = one_report_of_text faults.Matrix o.matrix (λ m. ReportsTree o.tree (PartsDecides o m) evidence)
    (λ m. one_report_of_text faults.Tree o.tree (PartsDecides o m) (one_decision o m) (tree (text_of evidence)))
    (matrix_in o.form false matrix)

pub parts_has_one_report : (o : PartsOrder) → HasOneReport (parts_tool o)
parts_has_one_report o = one_report_of_pair (PartsReports o) (one o) (PartsSay o) (evidence_files o.matrix o.tree)

-- ---- the inverse

module _ (m : Matrix) (finding : Finding) (kind : SumKind) (both : Arranged) (are : ArePartsOfRoot m finding kind both) where
  abbrev whole : Matrix
  whole = submatrix m both.rows both.columns

  height_whole : height whole ≡ length both.rows
  height_whole = length-map both.rows (λ row. map (entry m row) both.columns)

  pub whole_is_matrix : IsMatrix whole
  whole_is_matrix = is_matrix-submatrix m both.rows both.columns are.whole
      (let e = order_count (height m) both.rows are.round_trip.rows in let l = are.whole.height_in in omega arith)
      (let e = order_count m.width both.columns are.round_trip.columns in let l = are.whole.width_in in omega arith)

  is_composed : IsComposed kind both.first both.second
  is_composed =
      let lost = sums_lose_lines kind both.first both.second are.round_trip.connected in
      let tall = ap height are.round_trip.sum in
      let wide = ap (λ (x : Matrix). x.width) are.round_trip.sum in
      record {
        rows = let h = height_whole in let e = order_count (height m) both.rows are.round_trip.rows in let l = are.whole.height_in in omega arith;
        columns = let e = order_count m.width both.columns are.round_trip.columns in let l = are.whole.width_in in omega arith;
        connected = are.round_trip.connected;
        is_matrix = subst IsMatrix (sym are.round_trip.sum) whole_is_matrix;
      }

  abbrev first_read : (form : MatrixForm) (x : Matrix) → form ≡ Dense → IsMatrix x → matrix_in form false (dense_text x) ≡ Ok x
  first_read form x e is = ap (λ (f : MatrixForm). matrix_in f false (dense_text x)) e ∙ read_again x is

  decided : (o : ComposeOrder) → o.sum ≡ kind → ComposeDecides o both.first both.second (composed_report o.output whole)
  decided o e = composed (subst (λ (k : SumKind). IsComposed k both.first both.second) (sym e) is_composed)
      (ap (composed_report o.output) (sym are.round_trip.sum ∙ ap (λ (k : SumKind). sum_of k both.first both.second) (sym e)))

  pub composed_to : AreComposedTo kind both whole
  composed_to o dense e = read_reported faults.Matrix o.first (λ a. ReportsText faults.Matrix o.second (ComposeDecides o a) (matrix_in o.form false (dense_text both.second)))
      (matrix_in o.form false (dense_text both.first)) both.first (composed_report o.output whole) (first_read o.form both.first dense are.first)
      (read_reported faults.Matrix o.second (ComposeDecides o both.first) (matrix_in o.form false (dense_text both.second)) both.second (composed_report o.output whole)
      (first_read o.form both.second dense are.second) (decided o e))

-- ---- the meaning

says_of_tree : (o : PartsOrder) (m : Matrix) (t : PlainTree) (r : Report) (answer : Answer) → PartsDecides o m t r → r.status ≡ answer_status answer → PartsMean m t answer
says_of_tree o m t r Yes (parted sound kind both are e) f = (sound, kind, both, are, composed_to m (root_of t) kind both are)
says_of_tree o m t r No (parted sound kind both are e) f = let s = status_of r _ e in absurd (omega arith)
says_of_tree o m t r Undecided (parted sound kind both are e) f = let s = status_of r _ e in absurd (omega arith)
says_of_tree o m t r Refused (parted sound kind both are e) f = let s = status_of r _ e in absurd (omega arith)
says_of_tree o m t r Yes (other_root sound none e) f = let s = status_of r _ e in absurd (omega arith)
says_of_tree o m t r No (other_root sound none e) f = let s = status_of r _ e in absurd (omega arith)
says_of_tree o m t r Undecided (other_root sound none e) f = let s = status_of r _ e in absurd (omega arith)
says_of_tree o m t r Refused (other_root sound none e) f = inl (sound, none)
says_of_tree o m t r Yes (refused path broken is e) f = let s = status_of r _ e in absurd (omega arith)
says_of_tree o m t r No (refused path broken is e) f = let s = status_of r _ e in absurd (omega arith)
says_of_tree o m t r Undecided (refused path broken is e) f = let s = status_of r _ e in absurd (omega arith)
says_of_tree o m t r Refused (refused path broken is e) f = inr (path, broken, is)

says : (o : PartsOrder) (matrix evidence : List ℕ) (r : Report) (answer : Answer) → PartsReports o matrix evidence r → r.status ≡ answer_status answer → PartsSay o matrix evidence answer
says o matrix evidence r answer reports is =
    let found = answered faults.Matrix o.matrix (λ m. ReportsTree o.tree (PartsDecides o m) evidence) (matrix_in o.form false matrix) r answer reports is in
    let read = answered faults.Tree o.tree (PartsDecides o found.0) (tree (text_of evidence)) r answer found.2 is in
    (found.0, found.1, (read.0, read.1, says_of_tree o found.0 read.0 r answer read.2 is))

answers : (o : PartsOrder) (m : Matrix) (t : PlainTree) (r : Report) → PartsDecides o m t r → IsAnswered r
answers o m t r (parted sound kind both are e) = (Yes, status_of r _ e)
answers o m t r (other_root sound none e) = (Refused, status_of r _ e)
answers o m t r (refused path broken is e) = (Refused, status_of r _ e)

fault : (o : PartsOrder) (matrix evidence : List ℕ) (r : Report) → PartsReports o matrix evidence r → r.status ≡ failure_status Text → IsFaultOfFile (evidence_files o.matrix o.tree) r
fault o matrix evidence =
    fault_of_text faults.Matrix o.matrix (λ m. ReportsTree o.tree (PartsDecides o m) evidence) (evidence_files o.matrix o.tree) (0, omega arith, refl)
    (λ m. fault_of_last faults.Tree o.tree (PartsDecides o m) (evidence_files o.matrix o.tree) (1, omega arith, refl) (answers o m) (tree (text_of evidence)))
    (matrix_in o.form false matrix)

pub parts_lawful : (o : PartsOrder) → IsLawful (parts_tool o)
parts_lawful o = pair_lawful (PartsReports o) (PartsSay o) (λ matrix evidence r s a b. ap (λ report. report.status) (one o matrix evidence r s a b)) (says o) (evidence_files o.matrix o.tree) (fault o)
