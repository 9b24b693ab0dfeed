-- The meaning of the answers of `check` for the matrix and the evidence.
use Rattle.std.proofs.Common.{◌≡◌, ◌∙◌, ℕ, List, [], ◌∷◌, drop, sym, subst, refl, ap, inl, inr, arith, length}
use Rattle.std.proofs.lemmas.List.FromFn.{length-range_with_len}
use Rattle.text_fields.specs.TextWords.{text_of}
use Rattle.matrix_text.specs.Submatrix.{named_lines}
use Rattle.cmr_base.specs.Matrix.{Matrix, IsMatrix, entry, height}
use Rattle.cmr_base.specs.LineSets.{IsColumnSet, IsRowSet}
use Rattle.cmr_base.specs.Trees.{IsBinary}
use Rattle.cmr_base.specs.Violator.{IsViolator}
use Rattle.cmr_base.specs.declared.line_set.LineSet.{LineSet}
use Rattle.cmr_base.proofs.WholeMatrices.{is_ternary}
use Rattle.ghouila.proofs.CamionLaw.{unsigned}
use Rattle.chains.specs.declared.step.SignStep.{SignStep}
use Rattle.chains.specs.declared.step.SizedChain.{SizedChain}
use Rattle.chains.specs.Chains.{Breaks, IsFirstBrokenPart, IsSignedViolator, IsSoundChain, KeepsRule}
use Rattle.chains.specs.ChainTexts.{chain}
use Rattle.chains.specs.SignSteps as signing
use Rattle.chains.specs.SignSteps.{AreSigns, LeadTo, signed_by}
use Rattle.chains.proofs.ChainChecks.{lead_from, rule_signs}
use Rattle.chains.proofs.ChainViolators.{chains_mean_violators, chains_refute_regularity, unsigned_signs}
use Rattle.tree_laws.specs.Laws.{IsRefuted, VerdictMeans}
use Rattle.cert_check.proofs.Answering.{lines_is}
use Rattle.tree_text.specs.TreeReading.{PlainTree, tree}
use Rattle.tree_type.specs.Places.{places}
use Rattle.tree_type.specs.Soundness.{IsSound, IsSoundTree}
use Rattle.tree_type.specs.DecompositionTrees.{Branch, SizedTree, Tree, lines_at_root, tree_of}
use Rattle.tree_type.specs.declared.refusal.Rule.TheVariants as rule
use Rattle.tree_type.specs.Verdicts as verdicts
use Rattle.tree_type.specs.Verdicts.{Verdict, verdict_of}
use Rattle.tree_type.proofs.OneRefusal.{sound_unbroken}
use Rattle.cmr_front.specs.declared.outcome.FaultKind.TheVariants as faults
use Rattle.cmr_front.specs.declared.status.Answer.{Answer}
use Rattle.cmr_front.specs.declared.status.Answer.TheVariants.{Yes, No, Undecided, Refused}
use Rattle.cmr_front.specs.declared.status.Failure.TheVariants.{Text}
use Rattle.cmr_front.specs.MatrixText.{matrix_in}
use Rattle.cmr_front.specs.Report.{Report}
use Rattle.cmr_front.specs.Status.{answer_status, failure_status}
use Rattle.cmr_front.specs.Tool.{IsFaultOfFile, IsLawful}
use Rattle.cmr_front.proofs.MatrixText.{read_is_matrix}
use Rattle.cmr_front.proofs.Statuses.{IsAnswered, status_of}
use Rattle.cmr_front.specs.Evidence.{IsSoundFor, evidence_files}
use Rattle.cmr_front.proofs.Texts.{answered, one_of_text, pair_lawful, fault_of_last, fault_of_text}
use Rattle.cmr_evidence.specs.declared.tools.check.EvidenceKind.{EvidenceKind}
use Rattle.cmr_evidence.specs.declared.tools.check.EvidenceKind.TheVariants as kinds
use Rattle.cmr_evidence.specs.Check.{ChainDecides, ChainMeans, CheckMeans, CheckReports, EvidenceMeans, EvidenceReports, ShowsIrregular, TreeDecides, TreeMeans, ViolatorDecides, ViolatorMeans, accepted, refused, accepted_report, check_tool, evidence_kind, is_of_support, CheckOrder}
use Rattle.cmr_evidence.proofs.Unimodular.{unimodular, not_unimodular}

-- ---- the meaning of a verdict

-- lines that are a violator
pub refuted_by : (m : Matrix) (lines : LineSet) → IsRowSet m lines.rows → IsColumnSet m lines.columns → IsViolator (entry m) lines.rows lines.columns → IsRefuted m lines
refuted_by m lines rows columns v = record {
  row_set = rows;
  column_set = columns;
  violator = v;
  unsigned = unsigned m lines.rows lines.columns columns v;
  not_unimodular = λ all. let s = all lines.rows rows in unsigned m lines.rows lines.columns columns v s.0 s.1;
}

-- ---- trees

all_rows : (m : Matrix) (rows columns : ℕ) (t : Tree) → IsSoundTree m rows columns t → length (lines_at_root t).rows ≡ height m
all_rows m rows columns (Branch lines finding trees) sound = ap length (sound.0 rule.Lines).0 ∙ length-range_with_len 0 rows ∙ (sound.0 rule.Size).0

-- the root of a sound tree has all rows
pub root_height : (m : Matrix) (t : SizedTree) → IsSound m t → length t.root.lines.rows ≡ height m
root_height m t sound = ap (λ (lines : LineSet). length lines.rows) (sym (lines_is t.root)) ∙ all_rows m t.rows t.columns (tree_of t.root) sound

one_tree : (m : Matrix) (t : PlainTree) (r s : Report) → TreeDecides m t r → TreeDecides m t s → r.status ≡ s.status
one_tree m t r s (accepted sound means e) (accepted sound' means' f) = status_of r _ e ∙ sym (status_of s _ f)
one_tree m t r s (accepted sound means e) (refused path broken is f) = absurd (sound_unbroken m (places t.rows t.columns t.root) path broken sound is)
one_tree m t r s (refused path broken is e) (accepted sound means f) = absurd (sound_unbroken m (places t.rows t.columns t.root) path broken sound is)
one_tree m t r s (refused path broken is e) (refused path' broken' is' f) = status_of r _ e ∙ sym (status_of s _ f)

by_verdict : (m : Matrix) (t : PlainTree) (is_matrix : IsMatrix m) (sound : IsSoundFor m t) (v : Verdict) → verdict_of t.root ≡ v → VerdictMeans m v → (answer : Answer)
    → (accepted_report m v).status ≡ answer_status answer → TreeMeans m t answer
by_verdict m t is_matrix sound verdicts.Yes e means Yes is = (sound, e, unimodular m means.unimodular)
by_verdict m t is_matrix sound verdicts.Yes e means No is = absurd (omega arith)
by_verdict m t is_matrix sound verdicts.Yes e means Undecided is = absurd (omega arith)
by_verdict m t is_matrix sound verdicts.Yes e means Refused is = absurd (omega arith)
by_verdict m t is_matrix sound (verdicts.No fault) e means Yes is = absurd (omega arith)
by_verdict m t is_matrix sound (verdicts.No fault) e means No is = (sound, fault, e, not_unimodular m fault (is_ternary m is_matrix) means)
by_verdict m t is_matrix sound (verdicts.No fault) e means Undecided is = absurd (omega arith)
by_verdict m t is_matrix sound (verdicts.No fault) e means Refused is = absurd (omega arith)
by_verdict m t is_matrix sound (verdicts.Open lines) e means Yes is = absurd (omega arith)
by_verdict m t is_matrix sound (verdicts.Open lines) e means No is = absurd (omega arith)
by_verdict m t is_matrix sound (verdicts.Open lines) e means Undecided is = (sound, lines, e)
by_verdict m t is_matrix sound (verdicts.Open lines) e means Refused is = absurd (omega arith)

tree_says : (m : Matrix) (t : PlainTree) (r : Report) (answer : Answer) → IsMatrix m → TreeDecides m t r → r.status ≡ answer_status answer → TreeMeans m t answer
tree_says m t r answer is_matrix (accepted sound means e) is = by_verdict m t is_matrix sound (verdict_of t.root) refl means answer (sym (status_of r _ e) ∙ is)
tree_says m t r Yes is_matrix (refused path broken not e) is = let s = status_of r _ e in absurd (omega arith)
tree_says m t r No is_matrix (refused path broken not e) is = let s = status_of r _ e in absurd (omega arith)
tree_says m t r Undecided is_matrix (refused path broken not e) is = let s = status_of r _ e in absurd (omega arith)
tree_says m t r Refused is_matrix (refused path broken not e) is = (path, broken, not)

-- ---- violators

one_violator : (m : Matrix) (lines : LineSet) (r s : Report) → ViolatorDecides m lines r → ViolatorDecides m lines s → r.status ≡ s.status
one_violator m lines r s (accepted is e) (accepted is' f) = status_of r _ e ∙ sym (status_of s _ f)
one_violator m lines r s (accepted is e) (refused not f) = absurd (not is.violator)
one_violator m lines r s (refused not e) (accepted is f) = absurd (not is.violator)
one_violator m lines r s (refused not e) (refused not' f) = status_of r _ e ∙ sym (status_of s _ f)

violator_says : (m : Matrix) (lines : LineSet) (r : Report) (answer : Answer) → IsMatrix m → ViolatorDecides m lines r → r.status ≡ answer_status answer → ViolatorMeans m lines answer
violator_says m lines r Yes is_matrix (accepted refuted e) is = let s = status_of r _ e in absurd (omega arith)
violator_says m lines r No is_matrix (accepted refuted e) is = not_unimodular m lines (is_ternary m is_matrix) refuted
violator_says m lines r Undecided is_matrix (accepted refuted e) is = let s = status_of r _ e in absurd (omega arith)
violator_says m lines r Refused is_matrix (accepted refuted e) is = let s = status_of r _ e in absurd (omega arith)
violator_says m lines r Yes is_matrix (refused not e) is = let s = status_of r _ e in absurd (omega arith)
violator_says m lines r No is_matrix (refused not e) is = let s = status_of r _ e in absurd (omega arith)
violator_says m lines r Undecided is_matrix (refused not e) is = let s = status_of r _ e in absurd (omega arith)
violator_says m lines r Refused is_matrix (refused not e) is = not

-- ---- chains

-- a chain is not broken if its steps and its violator keep their rules
unbroken : (a s end : Matrix) (steps : List SignStep) (lines : LineSet) → LeadTo (KeepsRule a) s steps end → IsSignedViolator a end lines → Breaks a s steps lines → ⊥
unbroken a s end [] lines e violator breaks = breaks (subst (λ x. IsSignedViolator a x lines) (sym e) violator)
unbroken a s end (step ∷ steps) lines (sign, keeps, rest) violator breaks = breaks sign keeps

pub chain_unbroken : (a : Matrix) (c : SizedChain) (signs : Matrix) (step : ℕ) → IsMatrix a → IsSoundChain a c signs → IsFirstBrokenPart a c step → ⊥
chain_unbroken a c signs step is sound broken = elim broken.broken [
  | inl other ↦ other.0 sound.sizes
  | inr (sizes, (middle, lead, breaks)) ↦ unbroken a middle signs (drop broken.before c.chain.steps) c.chain.violator
      (lead_from a (signing.unsigned a) signs middle c.chain.steps broken.before is (unsigned_signs a) sound.steps lead) sound.violator breaks
]

-- steps that keep their rules lead to signs of the matrix
lead_signs : (a s end : Matrix) (steps : List SignStep) → IsMatrix a → AreSigns a s → LeadTo (KeepsRule a) s steps end → AreSigns a end
lead_signs a s end [] is signs e = subst (AreSigns a) e signs
lead_signs a s end (step ∷ steps) is signs (sign, keeps, rest) = lead_signs a (signed_by s step sign) end steps is (rule_signs a s step sign is signs keeps) rest

pub chain_sign_matrix : (a : Matrix) (c : SizedChain) (signs : Matrix) → IsMatrix a → IsSoundChain a c signs → AreSigns a signs
chain_sign_matrix a c signs is sound = lead_signs a (signing.unsigned a) signs c.chain.steps is (unsigned_signs a) sound.steps

pub shows_irregular : (a : Matrix) (c : SizedChain) (signs : Matrix) → IsMatrix a → IsBinary a → IsSoundChain a c signs → ShowsIrregular a c signs
shows_irregular a c signs is binary sound = record {
  is_matrix = is;
  sound = sound;
  violators = λ m ternary support. chains_mean_violators a m signs c binary (is_ternary a is) sound ternary support;
  irregular = chains_refute_regularity a signs c binary (is_ternary a is) sound;
}

one_chain : (a : Matrix) (c : SizedChain) (r s : Report) → ChainDecides a c r → ChainDecides a c s → r.status ≡ s.status
one_chain a c r s (accepted signs shows e) (accepted signs' shows' f) = status_of r _ e ∙ sym (status_of s _ f)
one_chain a c r s (accepted signs shows e) (refused step is f) = absurd (chain_unbroken a c signs step shows.is_matrix shows.sound is)
one_chain a c r s (refused step is e) (accepted signs shows f) = absurd (chain_unbroken a c signs step shows.is_matrix shows.sound is)
one_chain a c r s (refused step is e) (refused step' is' f) = status_of r _ e ∙ sym (status_of s _ f)

chain_says : (a : Matrix) (c : SizedChain) (r : Report) (answer : Answer) → ChainDecides a c r → r.status ≡ answer_status answer → ChainMeans a c answer
chain_says a c r Yes (accepted signs shows e) is = let s = status_of r _ e in absurd (omega arith)
chain_says a c r No (accepted signs shows e) is = (signs, shows)
chain_says a c r Undecided (accepted signs shows e) is = let s = status_of r _ e in absurd (omega arith)
chain_says a c r Refused (accepted signs shows e) is = let s = status_of r _ e in absurd (omega arith)
chain_says a c r Yes (refused step not e) is = let s = status_of r _ e in absurd (omega arith)
chain_says a c r No (refused step not e) is = let s = status_of r _ e in absurd (omega arith)
chain_says a c r Undecided (refused step not e) is = let s = status_of r _ e in absurd (omega arith)
chain_says a c r Refused (refused step not e) is = (step, not)

-- ---- a decision is an answer

accepted_answers : (m : Matrix) (v : Verdict) (r : Report) → r ≡ accepted_report m v → IsAnswered r
accepted_answers m verdicts.Yes r e = (Yes, status_of r _ e)
accepted_answers m (verdicts.No fault) r e = (No, status_of r _ e)
accepted_answers m (verdicts.Open lines) r e = (Undecided, status_of r _ e)

tree_answers : (m : Matrix) (t : PlainTree) (r : Report) → TreeDecides m t r → IsAnswered r
tree_answers m t r (accepted sound means e) = accepted_answers m (verdict_of t.root) r e
tree_answers m t r (refused path broken not e) = (Refused, status_of r _ e)

violator_answers : (m : Matrix) (lines : LineSet) (r : Report) → ViolatorDecides m lines r → IsAnswered r
violator_answers m lines r (accepted refuted e) = accepted_answers m (verdicts.No lines) r e
violator_answers m lines r (refused not e) = (Refused, status_of r _ e)

chain_answers : (a : Matrix) (c : SizedChain) (r : Report) → ChainDecides a c r → IsAnswered r
chain_answers a c r (accepted signs shows e) = (No, status_of r _ e)
chain_answers a c r (refused step broken e) = (Refused, status_of r _ e)

-- ---- both texts

module _ (file : List ℕ) where
  one_evidence : (kind : EvidenceKind) (bytes : List ℕ) (m : Matrix) (r s : Report) → EvidenceReports file kind m bytes r → EvidenceReports file kind m bytes s → r.status ≡ s.status
  one_evidence kinds.Tree bytes m r s a b = one_of_text faults.Tree file (TreeDecides m) (one_tree m) (tree (text_of bytes)) r s a b
  one_evidence kinds.Chain bytes m r s a b = one_of_text faults.Chain file (ChainDecides m) (one_chain m) (chain (text_of bytes)) r s a b
  one_evidence kinds.Violator bytes m r s a b = one_of_text faults.Matrix file (ViolatorDecides m) (one_violator m) (named_lines (height m) m.width (text_of bytes)) r s a b

  evidence_says : (kind : EvidenceKind) (bytes : List ℕ) (m : Matrix) (r : Report) (answer : Answer) → IsMatrix m → EvidenceReports file kind m bytes r
      → r.status ≡ answer_status answer → EvidenceMeans kind m bytes answer
  evidence_says kinds.Tree bytes m r answer is_matrix a is =
      let found = answered faults.Tree file (TreeDecides m) (tree (text_of bytes)) r answer a is in
      (found.0, found.1, tree_says m found.0 r answer is_matrix found.2 is)
  evidence_says kinds.Chain bytes m r answer is_matrix a is =
      let found = answered faults.Chain file (ChainDecides m) (chain (text_of bytes)) r answer a is in
      (found.0, found.1, chain_says m found.0 r answer found.2 is)
  evidence_says kinds.Violator bytes m r answer is_matrix a is =
      let found = answered faults.Matrix file (ViolatorDecides m) (named_lines (height m) m.width (text_of bytes)) r answer a is in
      (found.0, found.1, violator_says m found.0 r answer is_matrix found.2 is)

module _ (o : CheckOrder) where
  one : (matrix evidence : List ℕ) (r s : Report) → CheckReports o matrix evidence r → CheckReports o matrix evidence s → r.status ≡ s.status
  one matrix evidence r s a b =
      let kind = evidence_kind evidence in
      one_of_text faults.Matrix o.matrix (λ m. EvidenceReports o.evidence kind m evidence) (one_evidence o.evidence kind evidence) (matrix_in o.form (is_of_support kind) matrix) r s a b

  says : (matrix evidence : List ℕ) (r : Report) (answer : Answer) → CheckReports o matrix evidence r → r.status ≡ answer_status answer → CheckMeans o matrix evidence answer
  says matrix evidence r answer a is =
      let kind = evidence_kind evidence in
      let found = answered faults.Matrix o.matrix (λ m. EvidenceReports o.evidence kind m evidence) (matrix_in o.form (is_of_support kind) matrix) r answer a is in
      let is_matrix = read_is_matrix o.form (is_of_support kind) matrix found.0 found.1 in
      (found.0, found.1, evidence_says o.evidence kind evidence found.0 r answer is_matrix found.2 is)

  evidence_fault : (kind : EvidenceKind) (m : Matrix) (evidence : List ℕ) (r : Report) → EvidenceReports o.evidence kind m evidence r
      → r.status ≡ failure_status Text → IsFaultOfFile (evidence_files o.matrix o.evidence) r
  evidence_fault kinds.Tree m evidence = fault_of_last faults.Tree o.evidence (TreeDecides m) (evidence_files o.matrix o.evidence) (1, omega arith, refl) (tree_answers m) (tree (text_of evidence))
  evidence_fault kinds.Chain m evidence = fault_of_last faults.Chain o.evidence (ChainDecides m) (evidence_files o.matrix o.evidence) (1, omega arith, refl) (chain_answers m) (chain (text_of evidence))
  evidence_fault kinds.Violator m evidence = fault_of_last faults.Matrix o.evidence (ViolatorDecides m) (evidence_files o.matrix o.evidence) (1, omega arith, refl) (violator_answers m) (named_lines (height m) m.width (text_of evidence))

  fault : (matrix evidence : List ℕ) (r : Report) → CheckReports o matrix evidence r → r.status ≡ failure_status Text → IsFaultOfFile (evidence_files o.matrix o.evidence) r
  fault matrix evidence =
      let kind = evidence_kind evidence in
      fault_of_text faults.Matrix o.matrix (λ m. EvidenceReports o.evidence kind m evidence) (evidence_files o.matrix o.evidence) (0, omega arith, refl) (λ m. evidence_fault kind m evidence) (matrix_in o.form (is_of_support kind) matrix)

pub check_lawful : (o : CheckOrder) → IsLawful (check_tool o)
check_lawful o = pair_lawful (CheckReports o) (CheckMeans o) (one o) (says o) (evidence_files o.matrix o.evidence) (fault o)
