-- The order of the arguments of `tu`, its reports, and the meaning of its answers.
use Rattle.std.specs.Prelude.{◌≡◌, ◌≤◌, ℕ, false, List, codes, [], ◌∷◌, Option, Some, option_map}
use Rattle.cmr_base.specs.declared.limits.TheConstants.{MAX_LINES}
use Rattle.cmr_base.specs.Matrix.{Matrix}
use Rattle.cmr_front.specs.declared.status.Answer.{Answer}
use Rattle.cmr_front.specs.declared.status.Answer.TheVariants.{Yes, No, Undecided, Refused}
use Rattle.cmr_front.specs.MatrixText.{Source, matrix_tool, source}
use Rattle.cmr_front.specs.Tool.{Tool}
use Rattle.cmr_evidence.specs.Unimodular.{IsNotUnimodular, IsUnimodular}
use Rattle.cmr_unimodular.specs.Verdict.{VerdictOrder, Decides, IsDecomposition, IsOpenPart, verdict_in}
use Rattle.tree_type.specs.DecompositionTrees.{SizedTree}
use Rattle.tree_type.specs.Verdicts as verdicts
use Rattle.cmr_base.specs.declared.line_set.LineSet.{LineSet}
use Rattle.clap.specs.Words.{App, Row, Text, first_of}
use Rattle.cmr_front.specs.declared.matrix_file.MatrixForm.{MatrixForm}
use Rattle.cmr_unimodular.specs.declared.tools.tu.TuOptions.{TuOptions}
use Rattle.cmr_front.specs.Words.Arguments.{fault_rule, file_rule, form_rule, lines_rule, pivots_rule, tool_app, tree_rule, workers_rule}
use Rattle.cmr_front.specs.Words.Parsing.{fault_in, file_in, form_in, lines_in, matches_with_input, pivots_in, workers_in}
use Rattle.cmr_front.specs.Words.ReadWords.{◌>>=◌}

-- ---- the arguments

-- the options of `tu`
pub record TuOrder : Type 0 where
  pub form : MatrixForm
  pub budget : ℕ
  pub pivots : ℕ
  pub workers : ℕ
  pub tree : Option (List ℕ)
  pub fault : Option (List ℕ)
  pub file : List ℕ

-- [-i FORMAT] [--lines L] [--pivots K] [-w N] [-D FILE] [-E FILE] [FILE]
abbrev pub tu_app : App
tu_app = tool_app (codes "tu") (form_rule ∷ lines_rule ∷ pivots_rule ∷ workers_rule ∷ tree_rule ∷ fault_rule ∷ file_rule ∷ [])

abbrev pub tu_order_in : List Row → Option TuOrder
tu_order_in rows = do
  form ← form_in rows
  budget ← lines_in rows
  pivots ← pivots_in rows
  workers ← workers_in rows
  Some (record { form = form; budget = budget; pivots = pivots; workers = workers; tree = first_of (codes "tree") rows; fault = fault_in rows; file = file_in rows })

abbrev pub tu_order : List Text → Option TuOrder
tu_order words = matches_with_input tu_app words >>= tu_order_in

abbrev pub tu_order_of : TuOptions → TuOrder
tu_order_of options = record {
  form = options.form;
  budget = options.budget;
  pivots = options.pivots;
  workers = options.workers;
  tree = option_map (λ name. name.now) options.tree;
  fault = option_map (λ name. name.now) options.fault;
  file = options.file.now;
}

-- ---- the reports

abbrev pub tu_verdict : TuOrder → VerdictOrder
tu_verdict o = record { label = codes "totally unimodular"; budget = o.budget; pivots = o.pivots; tree = o.tree; fault = o.fault }

abbrev pub tu_source : TuOrder → Source
tu_source o = source o.form false o.file

-- A yes has a tree that the checker accepts. A no names a violator. Undecided names a submatrix that is neither recognised nor
-- separated and whose shorter side exceeds the budget.
abbrev pub UnimodularMeans : ℕ → ℕ → Matrix → Answer → Type 0
UnimodularMeans budget pivots m Yes = (tree : SizedTree) × IsDecomposition budget pivots m tree × (verdict_in tree ≡ verdicts.Yes) × IsUnimodular m
UnimodularMeans budget pivots m No = (tree : SizedTree) × IsDecomposition budget pivots m tree × (fault : LineSet) × (verdict_in tree ≡ verdicts.No fault) × IsNotUnimodular m fault
UnimodularMeans budget pivots m Undecided = (tree : SizedTree) × IsDecomposition budget pivots m tree × (lines : LineSet) × (verdict_in tree ≡ verdicts.Open lines) × IsOpenPart budget pivots m lines
UnimodularMeans budget pivots m Refused = ⊥

abbrev pub TuMeans : TuOrder → Matrix → Answer → Type 0
TuMeans o = UnimodularMeans o.budget o.pivots

abbrev pub tu_tool : TuOrder → Tool
tu_tool o = matrix_tool (tu_source o) ((o.budget ≤ MAX_LINES) × (1 ≤ o.workers) × (o.workers ≤ 64)) (Decides (tu_verdict o)) (TuMeans o)
