-- The order of the arguments of `check`, its reports on evidence, and the meaning of its answers.
use Rattle.std.specs.Prelude.{◌≡◌, ◌++◌, if◌then◌else◌, ℕ, Bool, true, false, List, [], ◌∷◌, Ok, bytes_eq, codes, Option, Some}
use Rattle.std.specs.Fmt.{decimal}
use Rattle.cmr_base.specs.Matrix.{Matrix, IsMatrix, IsTernary, entry, height}
use Rattle.cmr_base.specs.LineSets.{submatrix_sum}
use Rattle.cmr_base.specs.Supports.{HaveOneSupport}
use Rattle.cmr_base.specs.Violator.{HasNoViolator, IsViolator}
use Rattle.cmr_base.specs.declared.line_set.LineSet.{LineSet}
use Rattle.text_fields.specs.TextWords.{text_of}
use Rattle.matrix_text.specs.Submatrix.{named_lines}
use Rattle.chains.specs.Chains.{IsFirstBrokenPart, IsRegular, IsSoundChain}
use Rattle.chains.specs.ChainTexts.{chain}
use Rattle.chains.specs.declared.step.SizedChain.{SizedChain}
use Rattle.tree_type.specs.Verdicts as verdicts
use Rattle.tree_type.specs.Verdicts.{Verdict, verdict_of}
use Rattle.tree_type.specs.declared.refusal.Rule.{Rule}
use Rattle.tree_type.specs.declared.refusal.Rule.TheVariants.{NotViolator}
use Rattle.tree_text.specs.TreeReading.{PlainTree}
use Rattle.tree_laws.specs.Laws.{IsRefuted, VerdictMeans}
use Rattle.cmr_front.specs.declared.outcome.FaultKind.TheVariants as faults
use Rattle.cmr_front.specs.declared.status.Answer.{Answer}
use Rattle.cmr_front.specs.declared.status.Answer.TheVariants.{Yes, No, Undecided, Refused}
use Rattle.cmr_front.specs.Evidence.{IsBrokenFor, IsSoundFor, ReportsTree, SaysOfTree, evidence_tool}
use Rattle.cmr_front.specs.MatrixText.{matrix_in}
use Rattle.cmr_front.specs.Printed.{violator_line}
use Rattle.cmr_front.specs.Refusals.{refusal_line}
use Rattle.cmr_front.specs.Report.{Report}
use Rattle.cmr_front.specs.Status.{answer_status}
use Rattle.cmr_front.specs.Texts.{ReportsText}
use Rattle.cmr_front.specs.Tool.{Tool}
use Rattle.cmr_evidence.specs.declared.tools.check.EvidenceKind.{EvidenceKind}
use Rattle.cmr_evidence.specs.declared.tools.check.EvidenceKind.TheVariants as kinds
use Rattle.cmr_evidence.specs.Unimodular.{IsNotUnimodular, IsUnimodular}
use Rattle.cmr_evidence.specs.VerdictWords.{answer_of, answer_word, named_line}
use Rattle.clap.specs.Words.{App, Row, Text, first_of}
use Rattle.cmr_front.specs.declared.matrix_file.MatrixForm.{MatrixForm}
use Rattle.cmr_evidence.specs.declared.tools.check.CheckOptions.{CheckOptions}
use Rattle.cmr_front.specs.Words.Arguments.{form_rule, operand_rule, tool_app}
use Rattle.cmr_front.specs.Words.Parsing.{form_in, matches_in}
use Rattle.cmr_front.specs.Words.ReadWords.{◌>>=◌}

-- ---- the arguments

-- the options of `check`
pub record CheckOrder : Type 0 where
  pub form : MatrixForm
  pub matrix : List ℕ
  pub evidence : List ℕ

-- [-i FORMAT] MATRIX EVIDENCE
abbrev pub check_app : App
check_app = tool_app (codes "check") (form_rule ∷ operand_rule (codes "matrix") ∷ operand_rule (codes "evidence") ∷ [])

abbrev pub check_order_in : List Row → Option CheckOrder
check_order_in rows = do
  form ← form_in rows
  matrix ← first_of (codes "matrix") rows
  evidence ← first_of (codes "evidence") rows
  Some (record { form = form; matrix = matrix; evidence = evidence })

abbrev pub check_order : List Text → Option CheckOrder
check_order words = matches_in check_app words >>= check_order_in

abbrev pub check_order_of : CheckOptions → CheckOrder
check_order_of options = record { form = options.form; matrix = options.matrix.now; evidence = options.evidence.now }

-- ---- the kind of the evidence

abbrev pub kind_named : List ℕ → EvidenceKind
kind_named word =
    if bytes_eq word (codes "cmr-tree") then kinds.Tree
    else if bytes_eq word (codes "cmr-pivots") then kinds.Tree
    else if bytes_eq word (codes "cmr-chain") then kinds.Chain else kinds.Violator

abbrev pub kind_of_words : List (ℕ × List ℕ) → EvidenceKind
kind_of_words [] = kinds.Violator
kind_of_words (word ∷ words) = kind_named word.1

-- by the first word, a tree or a chain; all other evidence is read as a violator
abbrev pub evidence_kind : List ℕ → EvidenceKind
evidence_kind bytes = kind_of_words (text_of bytes).words

-- the matrix is read as 0/1 if the evidence is a chain
abbrev pub is_of_support : EvidenceKind → Bool
is_of_support kinds.Tree = false
is_of_support kinds.Chain = true
is_of_support kinds.Violator = false

-- ---- the reports

-- an answer and all of standard output
abbrev pub said : Answer → List ℕ → Report
said answer output = record { status = answer_status answer; output = output; error = []; files = [] }

abbrev pub violator_in : Matrix → LineSet → List ℕ
violator_in m lines = violator_line lines.rows lines.columns (submatrix_sum m lines.rows lines.columns)

-- the report on evidence that keeps its rules: its verdict
abbrev pub accepted_report : Matrix → Verdict → Report
accepted_report m verdict = said (answer_of verdict) (codes "accepted" ++ answer_word verdict ++ named_line m verdict)

-- the node at this path is the first that breaks a rule, and this is the rule
abbrev pub refused_report : List ℕ → Rule → Report
refused_report path broken = said Refused (refusal_line path broken)

-- the sum is the sum of the signs that the chain gives
abbrev pub irregular_report : Matrix → LineSet → Report
irregular_report signs lines = said No (codes "accepted: not regular\n" ++ violator_in signs lines)

abbrev pub refused_step_report : ℕ → Report
refused_step_report step = said Refused (codes "refused: step " ++ decimal step ++ codes "\n")

-- ---- the decisions

-- a tree is accepted if each node keeps all rules, and its verdict is then right
pub data TreeDecides (m : Matrix) (t : PlainTree) (report : Report) : Type 0 where
  accepted : IsSoundFor m t → VerdictMeans m (verdict_of t.root) → report ≡ accepted_report m (verdict_of t.root) → TreeDecides m t report
  refused : (path : List ℕ) (broken : Rule) → IsBrokenFor m t path broken → report ≡ refused_report path broken → TreeDecides m t report

pub data ViolatorDecides (m : Matrix) (lines : LineSet) (report : Report) : Type 0 where
  accepted : IsRefuted m lines → report ≡ accepted_report m (verdicts.No lines) → ViolatorDecides m lines report
  refused : ¬ (IsViolator (entry m) lines.rows lines.columns) → report ≡ refused_report [] NotViolator → ViolatorDecides m lines report

-- The chain keeps its rules and gives these signs. So each matrix with this support has a violator, and none is totally
-- unimodular.
pub record ShowsIrregular (a : Matrix) (c : SizedChain) (signs : Matrix) : Type 0 where
  pub is_matrix : IsMatrix a
  pub sound : IsSoundChain a c signs
  pub violators : (m : Matrix) → IsTernary m → HaveOneSupport a m → ¬ (HasNoViolator m)
  pub irregular : ¬ (IsRegular a)

pub data ChainDecides (a : Matrix) (c : SizedChain) (report : Report) : Type 0 where
  accepted : (signs : Matrix) → ShowsIrregular a c signs → report ≡ irregular_report signs c.chain.violator → ChainDecides a c report
  refused : (step : ℕ) → IsFirstBrokenPart a c step → report ≡ refused_step_report step → ChainDecides a c report

-- the text of the evidence is tested after the text of the matrix
abbrev pub EvidenceReports : List ℕ → EvidenceKind → Matrix → List ℕ → Report → Type 0
EvidenceReports file kinds.Tree m bytes report = ReportsTree file (TreeDecides m) bytes report
EvidenceReports file kinds.Chain m bytes report = ReportsText faults.Chain file (ChainDecides m) (chain (text_of bytes)) report
EvidenceReports file kinds.Violator m bytes report = ReportsText faults.Matrix file (ViolatorDecides m) (named_lines (height m) m.width (text_of bytes)) report

abbrev pub CheckReportsBy : CheckOrder → EvidenceKind → List ℕ → List ℕ → Report → Type 0
CheckReportsBy o kind matrix evidence report =
    ReportsText faults.Matrix o.matrix (λ m. EvidenceReports o.evidence kind m evidence) (matrix_in o.form (is_of_support kind) matrix) report

abbrev pub CheckReports : CheckOrder → List ℕ → List ℕ → Report → Type 0
CheckReports o matrix evidence report = CheckReportsBy o (evidence_kind evidence) matrix evidence report

-- ---- the meaning of the answers

abbrev pub TreeMeans : Matrix → PlainTree → Answer → Type 0
TreeMeans m t Yes = IsSoundFor m t × (verdict_of t.root ≡ verdicts.Yes) × IsUnimodular m
TreeMeans m t No = IsSoundFor m t × (fault : LineSet) × (verdict_of t.root ≡ verdicts.No fault) × IsNotUnimodular m fault
TreeMeans m t Undecided = IsSoundFor m t × (lines : LineSet) × (verdict_of t.root ≡ verdicts.Open lines)
TreeMeans m t Refused = (path : List ℕ) × (broken : Rule) × IsBrokenFor m t path broken

abbrev pub ViolatorMeans : Matrix → LineSet → Answer → Type 0
ViolatorMeans m lines Yes = ⊥
ViolatorMeans m lines No = IsNotUnimodular m lines
ViolatorMeans m lines Undecided = ⊥
ViolatorMeans m lines Refused = ¬ (IsViolator (entry m) lines.rows lines.columns)

abbrev pub ChainMeans : Matrix → SizedChain → Answer → Type 0
ChainMeans a c Yes = ⊥
ChainMeans a c No = (signs : Matrix) × ShowsIrregular a c signs
ChainMeans a c Undecided = ⊥
ChainMeans a c Refused = (step : ℕ) × IsFirstBrokenPart a c step

-- the text of the evidence represents a tree, a chain or lines that satisfy the meaning of the answer
abbrev pub EvidenceMeans : EvidenceKind → Matrix → List ℕ → Answer → Type 0
EvidenceMeans kinds.Tree m bytes answer = SaysOfTree (TreeMeans m) bytes answer
EvidenceMeans kinds.Chain m bytes answer = (c : SizedChain) × (chain (text_of bytes) ≡ Ok c) × ChainMeans m c answer
EvidenceMeans kinds.Violator m bytes answer = (lines : LineSet) × (named_lines (height m) m.width (text_of bytes) ≡ Ok lines) × ViolatorMeans m lines answer

abbrev pub CheckMeansBy : CheckOrder → EvidenceKind → List ℕ → List ℕ → Answer → Type 0
CheckMeansBy o kind matrix evidence answer = (m : Matrix) × (matrix_in o.form (is_of_support kind) matrix ≡ Ok m) × EvidenceMeans kind m evidence answer

abbrev pub CheckMeans : CheckOrder → List ℕ → List ℕ → Answer → Type 0
CheckMeans o matrix evidence answer = CheckMeansBy o (evidence_kind evidence) matrix evidence answer

abbrev pub check_tool : CheckOrder → Tool
check_tool o = evidence_tool o.matrix o.evidence (CheckReports o) (CheckMeans o)
