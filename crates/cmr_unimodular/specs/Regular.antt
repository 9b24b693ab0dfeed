-- The order of the arguments of `regular`, its reports, and the meaning of its answers.
use Rattle.std.specs.Prelude.{◌≡◌, ◌≤◌, ◌++◌, ℕ, true, List, [], Option, codes, ◌∷◌, Some, option_map}
use Rattle.cmr_base.specs.declared.limits.TheConstants.{MAX_LINES}
use Rattle.cmr_base.specs.Matrix.{Matrix, height, IsMatrix, IsTernary}
use Rattle.cmr_base.specs.Supports.{HaveOneSupport}
use Rattle.cmr_base.specs.Trees.{IsBinary}
use Rattle.cmr_base.specs.Violator.{HasNoViolator}
use Rattle.cmr_base.specs.declared.line_set.LineSet.{LineSet}
use Rattle.matrix_text.specs.CanonicalMatrices.{dense_text}
use Rattle.chains.specs.declared.step.SignStep.{SignStep}
use Rattle.chains.specs.declared.step.SizedChain.{SizedChain}
use Rattle.chains.specs.ChainTexts.{AreLinesIn, chain_text}
use Rattle.chains.specs.Chains.{IsRegular, IsSoundChain, KeepsRule}
use Rattle.camion_sign.specs.SignOrder.{IsSignedBy}
use Rattle.chains.specs.SignSteps.{LeadTo, unsigned}
use Rattle.tree_type.specs.DecompositionTrees.{SizedTree}
use Rattle.tree_type.specs.Verdicts as verdicts
use Rattle.tree_type.specs.Verdicts.{Verdict}
use Rattle.cmr_front.specs.declared.status.Answer.{Answer}
use Rattle.cmr_front.specs.declared.status.Answer.TheVariants.{Yes, No, Undecided, Refused}
use Rattle.cmr_front.specs.MatrixText.{Source, matrix_tool, source}
use Rattle.cmr_front.specs.Report.{File, Report, asked_file}
use Rattle.cmr_front.specs.Tool.{Tool}
use Rattle.cmr_evidence.specs.Unimodular.{IsNotUnimodular, IsUnimodular}
use Rattle.cmr_unimodular.specs.Verdict.{VerdictOrder, IsDecomposition, IsOpenPart, IsRightVerdict, verdict_in, verdict_report}
use Rattle.clap.specs.Words.{App, Row, Text, first_of}
use Rattle.cmr_front.specs.declared.matrix_file.MatrixForm.{MatrixForm}
use Rattle.cmr_unimodular.specs.declared.tools.regular.RegularOptions.{RegularOptions}
use Rattle.cmr_front.specs.Words.Arguments.{chain_rule, fault_rule, file_rule, form_rule, lines_rule, output_rule, pivots_rule, tool_app, tree_rule, workers_rule}
use Rattle.cmr_front.specs.Words.Parsing.{fault_in, file_in, form_in, lines_in, matches_with_input, pivots_in, workers_in}
use Rattle.cmr_front.specs.Words.ReadWords.{◌>>=◌}

-- ---- the arguments

-- the options of `regular`
pub record RegularOrder : Type 0 where
  pub form : MatrixForm
  pub budget : ℕ
  pub pivots : ℕ
  pub workers : ℕ
  pub tree : Option (List ℕ)
  pub fault : Option (List ℕ)
  pub signed : Option (List ℕ)
  pub chain : Option (List ℕ)
  pub file : List ℕ

-- [-i FORMAT] [--lines L] [--pivots K] [-w N] [-D FILE] [-E FILE] [-M FILE] [-C FILE] [FILE]
abbrev pub regular_app : App
regular_app = tool_app (codes "regular") (form_rule ∷ lines_rule ∷ pivots_rule ∷ workers_rule ∷ tree_rule ∷ fault_rule ∷ output_rule ∷ chain_rule ∷ file_rule ∷ [])

abbrev pub regular_order_in : List Row → Option RegularOrder
regular_order_in rows = do
  form ← form_in rows
  budget ← lines_in rows
  pivots ← pivots_in rows
  workers ← workers_in rows
  Some (record {
    form = form;
    budget = budget;
    pivots = pivots;
    workers = workers;
    tree = first_of (codes "tree") rows;
    fault = fault_in rows;
    signed = first_of (codes "output") rows;
    chain = first_of (codes "chain") rows;
    file = file_in rows;
  })

abbrev pub regular_order : List Text → Option RegularOrder
regular_order words = matches_with_input regular_app words >>= regular_order_in

abbrev pub regular_order_of : RegularOptions → RegularOrder
regular_order_of options = record {
  form = options.form;
  budget = options.budget;
  pivots = options.pivots;
  workers = options.workers;
  tree = option_map (λ name. name.now) options.tree;
  fault = option_map (λ name. name.now) options.fault;
  signed = option_map (λ name. name.now) options.signed;
  chain = option_map (λ name. name.now) options.chain;
  file = options.file.now;
}

-- ---- the reports

abbrev pub regular_verdict : RegularOrder → VerdictOrder
regular_verdict o = record { label = codes "regular"; budget = o.budget; pivots = o.pivots; tree = o.tree; fault = o.fault }

abbrev pub regular_source : RegularOrder → Source
regular_source o = source o.form true o.file

-- a 0/1 matrix and its signing by Camion, whose steps are the steps of a chain
pub record IsSignedTo (a : Matrix) (steps : List SignStep) (signed : Matrix) : Type 0 where
  pub binary : IsBinary a
  pub matrix : IsMatrix a
  pub signed_matrix : IsMatrix signed
  pub by_camion : IsSignedBy a steps signed
  pub one_support : HaveOneSupport a signed
  pub chain : LeadTo (KeepsRule a) (unsigned a) steps signed

-- the chain of these steps with this violator
abbrev pub chain_with : Matrix → List SignStep → LineSet → SizedChain
chain_with a steps violator = record { chain = record { steps = steps; violator = violator }; rows = height a; columns = a.width }

abbrev pub chain_file : Option (List ℕ) → Matrix → List SignStep → Verdict → List File
chain_file name a steps verdicts.Yes = []
chain_file name a steps (verdicts.No fault) = asked_file name (chain_text (chain_with a steps fault))
chain_file name a steps (verdicts.Open lines) = []

-- the violator of a no is within this number of rows and columns
abbrev pub HasLinesIn : ℕ → ℕ → Verdict → Type 0
HasLinesIn rows columns verdicts.Yes = Unit {0}
HasLinesIn rows columns (verdicts.No fault) = AreLinesIn rows columns fault
HasLinesIn rows columns (verdicts.Open lines) = Unit {0}

-- the files of the signed matrix and of the chain
abbrev pub signing_files : RegularOrder → Matrix → List SignStep → Matrix → Verdict → List File
signing_files o a steps signed verdict = asked_file o.signed (dense_text signed) ++ chain_file o.chain a steps verdict

-- the verdict over the signed matrix, with these files after its own
abbrev pub regular_report : RegularOrder → Matrix → List SignStep → Matrix → SizedTree → Report
regular_report o a steps signed tree =
    let report = verdict_report (regular_verdict o) signed tree in
    record { status = report.status; output = report.output; error = report.error; files = report.files ++ signing_files o a steps signed (verdict_in tree) }

-- on a 0/1 matrix: by its signing, and by a decomposition of the signed matrix
pub record RegularDecides (o : RegularOrder) (a : Matrix) (report : Report) : Type 0 where
  pub steps : List SignStep
  pub signed : Matrix
  pub signing : IsSignedTo a steps signed
  pub tree : SizedTree
  pub decomposition : IsDecomposition o.budget o.pivots signed tree
  pub right : IsRightVerdict o.budget o.pivots signed (verdict_in tree)
  pub report_is : report ≡ regular_report o a steps signed tree

-- this signing of the support is totally unimodular
pub record HasGoodSigning (a signed : Matrix) : Type 0 where
  pub regular : IsRegular a
  pub unimodular : IsUnimodular signed

-- the fault is a violator of this signing, its steps with this violator are a sound chain, and each signing of the support has one
pub record HasNoGoodSigning (a : Matrix) (steps : List SignStep) (signed : Matrix) (fault : LineSet) : Type 0 where
  pub not_unimodular : IsNotUnimodular signed fault
  pub chain : IsSoundChain a (chain_with a steps fault) signed
  pub violators : (m : Matrix) → IsTernary m → HaveOneSupport a m → ¬ (HasNoViolator m)
  pub not_regular : ¬ (IsRegular a)

abbrev pub RegularSays : RegularOrder → Matrix → List SignStep → Matrix → Answer → Type 0
RegularSays o a steps signed Yes = (tree : SizedTree) × IsDecomposition o.budget o.pivots signed tree × (verdict_in tree ≡ verdicts.Yes) × HasGoodSigning a signed
RegularSays o a steps signed No = (tree : SizedTree) × IsDecomposition o.budget o.pivots signed tree × (fault : LineSet) × (verdict_in tree ≡ verdicts.No fault) × HasNoGoodSigning a steps signed fault
RegularSays o a steps signed Undecided = (tree : SizedTree) × IsDecomposition o.budget o.pivots signed tree × (lines : LineSet) × (verdict_in tree ≡ verdicts.Open lines) × IsOpenPart o.budget o.pivots signed lines
RegularSays o a steps signed Refused = ⊥

-- For the signing by Camion: a yes has a tree that the checker accepts for the signed matrix; a no names a violator; undecided names
-- a submatrix that is neither recognised nor separated and whose shorter side exceeds the budget.
abbrev pub RegularMeans : RegularOrder → Matrix → Answer → Type 0
RegularMeans o a answer = (steps : List SignStep) × (signed : Matrix) × IsSignedTo a steps signed × RegularSays o a steps signed answer

abbrev pub regular_tool : RegularOrder → Tool
regular_tool o = matrix_tool (regular_source o) ((o.budget ≤ MAX_LINES) × (1 ≤ o.workers) × (o.workers ≤ 64)) (RegularDecides o) (RegularMeans o)
