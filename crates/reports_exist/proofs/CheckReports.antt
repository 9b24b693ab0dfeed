-- `check` has a report on each matrix and each evidence.
use Rattle.std.proofs.Common.{◌≡◌, ◌+◌, ◌++◌, ◌⊎◌, inl, inr, ℕ, ℤ, true, false, List, [], ◌∷◌, length, take, drop, Ok, refl, ap, subst, sym, append_assoc, arith, ◌∙◌}
use Rattle.std.proofs.Math.Seq.{take-append_seam, drop-append_seam}
use Rattle.std.proofs.lemmas.List.{length-append}
use Rattle.cmr_base.specs.Matrix.{Matrix, IsMatrix, entry, height}
use Rattle.cmr_base.specs.LineSets.{IsColumnSet, IsRowSet}
use Rattle.cmr_base.specs.Trees.{IsBinary}
use Rattle.cmr_base.specs.Violator.{IsViolator}
use Rattle.cmr_base.specs.declared.line_set.LineSet.{LineSet}
use Rattle.text_fields.specs.TextWords.{text_of}
use Rattle.matrix_text.specs.Submatrix.{named_lines}
use Rattle.matrix_text.proofs.SubmatrixTexts.{found}
use Rattle.chains.specs.declared.step.SignStep.{SignStep}
use Rattle.chains.specs.declared.step.SizedChain.{SizedChain}
use Rattle.chains.specs.Chains.{Breaks, HasChainSizes, IsFirstBrokenPart, IsSignedViolator, KeepsRule}
use Rattle.chains.specs.ChainTexts.{chain}
use Rattle.chains.proofs.GivenSigns.{lead_more}
use Rattle.chains.specs.SignSteps.{LeadTo, signed_by, unsigned}
use Rattle.tree_type.specs.Laws.{SoundOrBroken}
use Rattle.tree_type.specs.Verdicts as verdicts
use Rattle.tree_type.specs.Verdicts.{verdict_of}
use Rattle.tree_type.specs.declared.refusal.Rule.TheVariants.{NotViolator}
use Rattle.tree_text.specs.TreeReading.{PlainTree, tree}
use Rattle.tree_text.proofs.ReadTrees.{read_for}
use Rattle.tree_laws.proofs.SoundTrees.{verdict_means}
use Rattle.cmr_front.specs.declared.matrix_file.MatrixForm.{MatrixForm}
use Rattle.cmr_front.specs.declared.outcome.FaultKind.TheVariants as faults
use Rattle.cmr_front.specs.MatrixText.{matrix_in}
use Rattle.cmr_front.proofs.MatrixText.{read_is_binary, read_is_matrix}
use Rattle.cmr_evidence.specs.declared.tools.check.EvidenceKind.{EvidenceKind}
use Rattle.cmr_evidence.specs.declared.tools.check.EvidenceKind.TheVariants as kinds
use Rattle.cmr_evidence.specs.Check.{ChainDecides, CheckOrder, CheckReports, EvidenceReports, TreeDecides, ViolatorDecides, accepted, accepted_report, check_tool, evidence_kind, irregular_report, is_of_support, refused, refused_report, refused_step_report}
use Rattle.cmr_evidence.proofs.CheckAnswers.{refuted_by, shows_irregular}
use Rattle.decompositions_exist.proofs.NotExcluded.{NotExcluded, one_of_two}
use Rattle.reports_exist.proofs.SoundTrees.{sound_or_refused}
use Rattle.reports_exist.proofs.TextReports.{HasReport, on_pair, on_text}

-- ---- chains

module _ (a : Matrix) (c : SizedChain) where
  -- the rest of a chain keeps its rules
  record KeepsRest (s : Matrix) (steps : List SignStep) : Type 0 where
    signs : Matrix
    lead : LeadTo (KeepsRule a) s steps signs
    violator : IsSignedViolator a signs c.chain.violator

  -- the part after these steps is the first that breaks its rule
  broken_after : HasChainSizes a c → (done steps : List SignStep) (s : Matrix) → c.chain.steps ≡ done ++ steps → LeadTo (KeepsRule a) (unsigned a) done s
      → Breaks a s steps c.chain.violator → IsFirstBrokenPart a c (length done + 1)
  broken_after sizes done steps s e lead breaks = record {
    before = length done;
    part_is = refl;
    within = let n = ap length e ∙ length-append done steps in omega (arith, n);
    broken = inr (
      sizes,
      (
        s,
        subst (λ some. LeadTo (KeepsRule a) (unsigned a) some s) (sym (ap (take (length done)) e ∙ take-append_seam done steps)) lead,
        subst (λ some. Breaks a s some c.chain.violator) (sym (ap (drop (length done)) e ∙ drop-append_seam done steps)) breaks,
      ),
    );
  }

  follow : HasChainSizes a c → (steps done : List SignStep) (s : Matrix) → c.chain.steps ≡ done ++ steps → LeadTo (KeepsRule a) (unsigned a) done s
      → NotExcluded (KeepsRest s steps ⊎ ((part : ℕ) × IsFirstBrokenPart a c part))
  follow sizes [] done s e lead neither = one_of_two (IsSignedViolator a s c.chain.violator) (λ either. elim either [
    | inl keeps ↦ neither (inl (record { signs = s; lead = refl; violator = keeps }))
    | inr breaks ↦ neither (inr (length done + 1, broken_after sizes done [] s e lead breaks))
  ])
  follow sizes (step ∷ steps) done s e lead neither = one_of_two ((sign : ℤ) × KeepsRule a s step sign) (λ either. elim either [
    | inl kept ↦
        follow sizes steps (done ++ step ∷ []) (signed_by s step kept.0) (e ∙ sym (append_assoc done (step ∷ []) steps)) (lead_more (KeepsRule a) (unsigned a) s done step kept.0 lead kept.1) (λ rest. elim rest [
          | inl keeps ↦ neither (inl (record { signs = keeps.signs; lead = (kept.0, kept.1, keeps.lead); violator = keeps.violator }))
          | inr broken ↦ neither (inr broken)
        ])
    | inr breaks ↦ neither (inr (length done + 1, broken_after sizes done (step ∷ steps) s e lead (λ sign keeps. breaks (sign, keeps))))
  ])

  pub chain_has_report : IsMatrix a → IsBinary a → HasReport (ChainDecides a c)
  chain_has_report is binary none = one_of_two (HasChainSizes a c) (λ either. elim either [
    | inl sizes ↦ follow sizes c.chain.steps [] (unsigned a) refl refl (λ either. elim either [
      | inl keeps ↦
          none (irregular_report keeps.signs c.chain.violator, accepted keeps.signs (shows_irregular a c keeps.signs is binary (record { sizes = sizes; steps = keeps.lead; violator = keeps.violator })) refl)
      | inr broken ↦ none (refused_step_report broken.0, refused broken.0 broken.1 refl)
    ])
    | inr other ↦ none (refused_step_report 1, refused 1 (record { before = 0; part_is = refl; within = omega arith; broken = inl (other, refl) }) refl)
  ])

-- ---- violators

pub violator_has_report : (m : Matrix) (bytes : List ℕ) (lines : LineSet) → named_lines (height m) m.width (text_of bytes) ≡ Ok lines → HasReport (ViolatorDecides m lines)
violator_has_report m bytes lines e none = one_of_two (IsViolator (entry m) lines.rows lines.columns) (λ either. elim either [
  | inl violator ↦
      let named = found (height m) m.width (text_of bytes) (Ok lines) e in
      let rows : IsRowSet m lines.rows = record { increasing = named.rows_increase; in_range = named.rows_in } in
      let columns : IsColumnSet m lines.columns = record { increasing = named.columns_increase; in_range = named.columns_in } in
      none (accepted_report m (verdicts.No lines), accepted (refuted_by m lines rows columns violator) refl)
  | inr other ↦ none (refused_report [] NotViolator, refused other refl)
])

-- ---- the tool

module _ (either : SoundOrBroken) where
  tree_has_report : (m : Matrix) → IsMatrix m → (bytes : List ℕ) (t : PlainTree) → tree (text_of bytes) ≡ Ok t → HasReport (TreeDecides m t)
  tree_has_report m is bytes t e none =
      let fits = read_for (text_of bytes) t e in
      sound_or_refused either m t fits (λ answer. elim answer [
        | inl sound ↦ none (accepted_report m (verdict_of t.root), accepted sound (verdict_means m is t.rows t.columns t.root fits sound) refl)
        | inr broken ↦ none (refused_report broken.0 broken.1, refused broken.0 broken.1 broken.2 refl)
      ])

  by_kind : (file : List ℕ) (form : MatrixForm) (kind : EvidenceKind) (matrix evidence : List ℕ) (m : Matrix)
      → matrix_in form (is_of_support kind) matrix ≡ Ok m → HasReport (EvidenceReports file kind m evidence)
  by_kind file form kinds.Tree matrix evidence m e = on_text faults.Tree file (TreeDecides m) (tree (text_of evidence)) (tree_has_report m (read_is_matrix form false matrix m e) evidence)
  by_kind file form kinds.Chain matrix evidence m e =
      on_text faults.Chain file (ChainDecides m) (chain (text_of evidence)) (λ c f. chain_has_report m c (read_is_matrix form true matrix m e) (read_is_binary form matrix m e))
  by_kind file form kinds.Violator matrix evidence m e =
      on_text faults.Matrix file (ViolatorDecides m) (named_lines (height m) m.width (text_of evidence)) (violator_has_report m evidence)

  pub check_has_report : (o : CheckOrder) (texts : List (List ℕ)) → length texts ≡ 2 → HasReport ((check_tool o).Reports texts)
  check_has_report o texts count = on_pair (CheckReports o)
      (λ matrix evidence. on_text faults.Matrix o.matrix (λ m. EvidenceReports o.evidence (evidence_kind evidence) m evidence) (matrix_in o.form (is_of_support (evidence_kind evidence)) matrix)
      (λ m e. by_kind o.evidence o.form (evidence_kind evidence) matrix evidence m e))
      texts count
