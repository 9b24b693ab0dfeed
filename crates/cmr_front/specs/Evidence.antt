-- Tools that read only evidence, or a matrix text and then evidence.
use Rattle.std.specs.Prelude.{◌≡◌, ℕ, List, [], ◌∷◌, Ok}
use Rattle.cmr_base.specs.Matrix.{Matrix}
use Rattle.text_fields.specs.TextWords.{text_of}
use Rattle.tree_type.specs.Soundness.{IsBrokenTree, IsSoundTree}
use Rattle.tree_type.specs.declared.refusal.Rule.{Rule}
use Rattle.tree_text.specs.TreeReading.{PlainTree, tree}
use Rattle.cmr_front.specs.declared.input.InputKind.TheVariants.{Evidence}
use Rattle.cmr_front.specs.declared.outcome.FaultKind.TheVariants as faults
use Rattle.cmr_front.specs.declared.status.Answer.{Answer}
use Rattle.cmr_front.specs.Inputs.{InputFile}
use Rattle.cmr_front.specs.MatrixText.{matrix_file}
use Rattle.cmr_front.specs.OneText.{text_tool}
use Rattle.cmr_front.specs.Report.{Report}
use Rattle.cmr_front.specs.Texts.{ReportsText, pair_tool}
use Rattle.cmr_front.specs.Tool.{Tool}

abbrev pub evidence_file : List ℕ → InputFile
evidence_file name = record { name = name; kind = Evidence }

-- the matrix text comes first
abbrev pub evidence_files : List ℕ → List ℕ → List InputFile
evidence_files matrix evidence = matrix_file matrix ∷ evidence_file evidence ∷ []

-- the tool with these reports on the two texts and these meanings of its answers
abbrev pub evidence_tool : List ℕ → List ℕ → (List ℕ → List ℕ → Report → Type 0) → (List ℕ → List ℕ → Answer → Type 0) → Tool
evidence_tool matrix evidence Reports Says = pair_tool (evidence_files matrix evidence) Reports Says

-- the reports on the tree that a text represents
abbrev pub ReportsTree : List ℕ → (PlainTree → Report → Type 0) → List ℕ → Report → Type 0
ReportsTree file Decides bytes report = ReportsText faults.Tree file Decides (tree (text_of bytes)) report

-- the text represents a tree that satisfies the meaning of an answer
abbrev pub SaysOfTree : (PlainTree → Answer → Type 0) → List ℕ → Answer → Type 0
SaysOfTree Says bytes answer = (t : PlainTree) × (tree (text_of bytes) ≡ Ok t) × Says t answer

-- each node of the tree keeps all rules in the matrix
abbrev pub IsSoundFor : Matrix → PlainTree → Type 0
IsSoundFor m t = IsSoundTree m t.rows t.columns t.root

-- the node at this path is the first that breaks a rule, and this is the rule
abbrev pub IsBrokenFor : Matrix → PlainTree → List ℕ → Rule → Type 0
IsBrokenFor m t path broken = IsBrokenTree m t.rows t.columns t.root path broken

-- the tool that decides on the tree of one file
abbrev pub tree_tool : List ℕ → (PlainTree → Report → Type 0) → (PlainTree → Answer → Type 0) → Tool
tree_tool file Decides Says = text_tool (evidence_file file) (ReportsTree file Decides) (SaysOfTree Says)
