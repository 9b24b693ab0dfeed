-- The texts determine the report of `check`.
use Rattle.std.proofs.Common.{◌≡◌, ◌≤◌, ◌+◌, ◌∙◌, ℕ, zero, suc, List, [], ◌∷◌, length, take, drop, inl, inr, refl, ap, ap₂, sym, subst, arith}
use Rattle.text_fields.specs.TextWords.{text_of}
use Rattle.matrix_text.specs.Submatrix.{named_lines}
use Rattle.cmr_base.specs.Matrix.{Matrix, IsMatrix, height}
use Rattle.cmr_base.specs.declared.line_set.LineSet.{LineSet}
use Rattle.chains.specs.declared.step.SignStep.{SignStep}
use Rattle.chains.specs.declared.step.SizedChain.{SizedChain}
use Rattle.chains.specs.Chains.{Breaks, IsFirstBrokenPart, KeepsRule}
use Rattle.chains.specs.ChainTexts.{chain}
use Rattle.chains.specs.SignSteps.{AreSigns, LeadTo, signed_by, unsigned}
use Rattle.chains.proofs.ChainChecks.{lead_once, one_sign, rule_signs}
use Rattle.chains.proofs.ChainViolators.{unsigned_signs}
use Rattle.tree_text.specs.TreeReading.{PlainTree, tree}
use Rattle.tree_type.specs.Places.{places}
use Rattle.tree_type.proofs.OneRefusal.{one_refusal, sound_unbroken}
use Rattle.cmr_front.specs.declared.outcome.FaultKind.TheVariants as faults
use Rattle.cmr_front.specs.Evidence.{evidence_files}
use Rattle.cmr_front.specs.MatrixText.{matrix_in}
use Rattle.cmr_front.specs.Report.{Report}
use Rattle.cmr_front.specs.Tool.{HasOneReport}
use Rattle.cmr_front.proofs.MatrixText.{read_is_matrix}
use Rattle.cmr_front.proofs.OneReports.{alike_of_text}
use Rattle.cmr_front.proofs.Texts.{one_report_of_pair}
use Rattle.cmr_evidence.specs.declared.tools.check.EvidenceKind.{EvidenceKind}
use Rattle.cmr_evidence.specs.declared.tools.check.EvidenceKind.TheVariants as kinds
use Rattle.cmr_evidence.specs.Check.{ChainDecides, CheckMeans, CheckOrder, CheckReports, EvidenceReports, TreeDecides, ViolatorDecides, accepted, refused, check_tool, evidence_kind, irregular_report, is_of_support, refused_report, refused_step_report}
use Rattle.cmr_evidence.proofs.CheckAnswers.{chain_unbroken}

-- ---- one first broken part

-- among steps that continue from some signs, the first step that breaks its rule is unique
one_break : (a s x y : Matrix) (steps : List SignStep) (lines : LineSet) (n k : ℕ) → IsMatrix a → AreSigns a s → n ≤ length steps → k ≤ length steps
    → LeadTo (KeepsRule a) s (take n steps) x → Breaks a x (drop n steps) lines → LeadTo (KeepsRule a) s (take k steps) y → Breaks a y (drop k steps) lines → n ≡ k
one_break a s x y [] lines n k is signs few few' lead breaks lead' breaks' = omega arith
one_break a s x y (step ∷ steps) lines zero zero is signs few few' lead breaks lead' breaks' = refl
one_break a s x y (step ∷ steps) lines zero (suc k) is signs few few' e breaks (v, rule, rest) breaks' = absurd (breaks v (subst (λ z. KeepsRule a z step v) e rule))
one_break a s x y (step ∷ steps) lines (suc n) zero is signs few few' (v, rule, rest) breaks e breaks' = absurd (breaks' v (subst (λ z. KeepsRule a z step v) e rule))
one_break a s x y (step ∷ steps) lines (suc n) (suc k) is signs few few' (v, rule, rest) breaks (w, rule', rest') breaks' =
    let same = one_sign a s step w v is signs rule' rule in
    ap suc (one_break a (signed_by s step v) x y steps lines n k is (rule_signs a s step v is signs rule) (omega arith) (omega arith) rest breaks
    (subst (λ z. LeadTo (KeepsRule a) (signed_by s step z) (take k steps) y) same rest') breaks')

one_broken : (a : Matrix) (c : SizedChain) (step step' : ℕ) → IsMatrix a → IsFirstBrokenPart a c step → IsFirstBrokenPart a c step' → step ≡ step'
one_broken a c step step' is x y = elim x.broken [
  | inl other ↦ elim y.broken [
    | inl other' ↦ let e = x.part_is in let f = y.part_is in let g = other.1 in let h = other'.1 in omega arith
    | inr (sizes, last) ↦ absurd (other.0 sizes)
  ]
  | inr (sizes, (signs, lead, breaks)) ↦ elim y.broken [
    | inl other' ↦ absurd (other'.0 sizes)
    | inr (sizes', (signs', lead', breaks')) ↦
        let same = one_break a (unsigned a) signs signs' c.chain.steps c.chain.violator x.before y.before is (unsigned_signs a) x.within y.within lead breaks lead' breaks' in
        x.part_is ∙ ap (λ n. n + 1) same ∙ sym y.part_is
  ]
]

-- ---- one report on each kind of evidence

one_of_tree : (m : Matrix) (t : PlainTree) (r s : Report) → TreeDecides m t r → TreeDecides m t s → r ≡ s
one_of_tree m t r s (accepted sound means e) (accepted sound' means' f) = e ∙ sym f
one_of_tree m t r s (accepted sound means e) (refused path broken is f) = absurd (sound_unbroken m (places t.rows t.columns t.root) path broken sound is)
one_of_tree m t r s (refused path broken is e) (accepted sound means f) = absurd (sound_unbroken m (places t.rows t.columns t.root) path broken sound is)
one_of_tree m t r s (refused path broken is e) (refused path' broken' is' f) =
    let same = one_refusal m (places t.rows t.columns t.root) path path' broken broken' is is' in
    e ∙ ap₂ refused_report same.0 same.1 ∙ sym f

one_of_violator : (m : Matrix) (lines : LineSet) (r s : Report) → ViolatorDecides m lines r → ViolatorDecides m lines s → r ≡ s
one_of_violator m lines r s (accepted is e) (accepted is' f) = e ∙ sym f
one_of_violator m lines r s (accepted is e) (refused not f) = absurd (not is.violator)
one_of_violator m lines r s (refused not e) (accepted is f) = absurd (not is.violator)
one_of_violator m lines r s (refused not e) (refused not' f) = e ∙ sym f

one_of_chain : (a : Matrix) (c : SizedChain) (r s : Report) → IsMatrix a → ChainDecides a c r → ChainDecides a c s → r ≡ s
one_of_chain a c r s is (accepted signs shows e) (accepted signs' shows' f) =
    let same = lead_once a (unsigned a) signs signs' c.chain.steps is (unsigned_signs a) shows.sound.steps shows'.sound.steps in
    e ∙ ap (λ signs. irregular_report signs c.chain.violator) same ∙ sym f
one_of_chain a c r s is (accepted signs shows e) (refused step broken f) = absurd (chain_unbroken a c signs step is shows.sound broken)
one_of_chain a c r s is (refused step broken e) (accepted signs shows f) = absurd (chain_unbroken a c signs step is shows.sound broken)
one_of_chain a c r s is (refused step broken e) (refused step' broken' f) = e ∙ ap refused_step_report (one_broken a c step step' is broken broken') ∙ sym f

-- ---- both texts

same_report : (r s : Report) → r ≡ s → r ≡ s
same_report r s e = e

one_of_evidence : (file : List ℕ) (kind : EvidenceKind) (bytes : List ℕ) (m : Matrix) → IsMatrix m → (r s : Report) → EvidenceReports file kind m bytes r → EvidenceReports file kind m bytes s → r ≡ s
one_of_evidence file kinds.Tree bytes m is r s a b = alike_of_text (λ x y. x ≡ y) same_report faults.Tree file (TreeDecides m) (tree (text_of bytes)) (λ t read. one_of_tree m t) r s a b
one_of_evidence file kinds.Chain bytes m is r s a b =
    alike_of_text (λ x y. x ≡ y) same_report faults.Chain file (ChainDecides m) (chain (text_of bytes)) (λ c read x y. one_of_chain m c x y is) r s a b
one_of_evidence file kinds.Violator bytes m is r s a b =
    alike_of_text (λ x y. x ≡ y) same_report faults.Matrix file (ViolatorDecides m) (named_lines (height m) m.width (text_of bytes)) (λ lines read. one_of_violator m lines) r s a b

one_of_check : (o : CheckOrder) (matrix evidence : List ℕ) (r s : Report) → CheckReports o matrix evidence r → CheckReports o matrix evidence s → r ≡ s
one_of_check o matrix evidence =
    let kind = evidence_kind evidence in
    alike_of_text (λ x y. x ≡ y) same_report faults.Matrix o.matrix (λ m. EvidenceReports o.evidence kind m evidence) (matrix_in o.form (is_of_support kind) matrix)
    (λ m read. one_of_evidence o.evidence kind evidence m (read_is_matrix o.form (is_of_support kind) matrix m read))

pub check_has_one_report : (o : CheckOrder) → HasOneReport (check_tool o)
check_has_one_report o = one_report_of_pair (CheckReports o) (one_of_check o) (CheckMeans o) (evidence_files o.matrix o.evidence)
