-- The order of the arguments of `camion`, its reports, and the meaning of its answers.
use Rattle.std.specs.Prelude.{◌≡◌, ℕ, false, List, codes, [], ◌∷◌, Option, Some, option_map}
use Rattle.cmr_base.specs.declared.line_set.LineSet.{LineSet}
use Rattle.cmr_base.specs.Matrix.{Matrix, entry, IsTernary}
use Rattle.cmr_base.specs.CyclePlaces.{HasNoCycleFault, IsCycleFault}
use Rattle.cmr_base.specs.Signing.{IsTotallyUnimodular}
use Rattle.cmr_base.specs.Supports.{HaveOneSupport}
use Rattle.cmr_front.specs.declared.status.Answer.{Answer}
use Rattle.cmr_front.specs.declared.status.Answer.TheVariants.{Yes, No, Undecided, Refused}
use Rattle.cmr_front.specs.MatrixText.{Source, matrix_tool, source}
use Rattle.cmr_front.specs.Report.{Report}
use Rattle.cmr_front.specs.Tool.{Tool}
use Rattle.cmr_reach.specs.FaultReports.{fault_report, yes_report}
use Rattle.clap.specs.Words.{App, Row, Text}
use Rattle.cmr_front.specs.declared.matrix_file.MatrixForm.{MatrixForm}
use Rattle.cmr_front.specs.Words.Arguments.{fault_rule, file_rule, form_rule, tool_app}
use Rattle.cmr_front.specs.Words.Parsing.{fault_in, file_in, form_in, matches_with_input}
use Rattle.cmr_front.specs.Words.ReadWords.{◌>>=◌}
use Rattle.cmr_reach.specs.declared.tools.camion.CamionOptions.{CamionOptions}

-- ---- the arguments

-- the options of `camion`
pub record CamionOrder : Type 0 where
  pub form : MatrixForm
  pub fault : Option (List ℕ)
  pub file : List ℕ

-- [-i FORMAT] [-E FILE] [FILE]
abbrev pub camion_app : App
camion_app = tool_app (codes "camion") (form_rule ∷ fault_rule ∷ file_rule ∷ [])

abbrev pub camion_order_in : List Row → Option CamionOrder
camion_order_in rows = do
  form ← form_in rows
  Some (record { form = form; fault = fault_in rows; file = file_in rows })

abbrev pub camion_order : List Text → Option CamionOrder
camion_order words = matches_with_input camion_app words >>= camion_order_in

abbrev pub camion_order_of : CamionOptions → CamionOrder
camion_order_of options = record {
  form = options.form;
  fault = option_map (λ name. name.now) options.fault;
  file = options.file.now;
}

-- ---- the reports

abbrev pub camion_label : List ℕ
camion_label = codes "camion"

-- on a matrix: a yes if it has no cycle fault, and otherwise a no with the cycle fault
pub data CamionDecides (o : CamionOrder) (m : Matrix) (report : Report) : Type 0 where
  yes : HasNoCycleFault (entry m) → report ≡ yes_report camion_label → CamionDecides o m report
  no : (fault : LineSet) → IsCycleFault m fault.rows fault.columns → report ≡ fault_report camion_label o.fault m fault → CamionDecides o m report

-- it is totally unimodular if some matrix of its support is
abbrev pub IsUnimodularIfSome : Matrix → Type 0
IsUnimodularIfSome m = (n : Matrix) → IsTernary n → HaveOneSupport m n → IsTotallyUnimodular n → IsTotallyUnimodular m

abbrev pub CamionMeans : Matrix → Answer → Type 0
CamionMeans m Yes = HasNoCycleFault (entry m) × IsUnimodularIfSome m
CamionMeans m No = (fault : LineSet) × IsCycleFault m fault.rows fault.columns × ¬ (IsTotallyUnimodular m)
CamionMeans m Undecided = ⊥
CamionMeans m Refused = ⊥

abbrev pub camion_source : CamionOrder → Source
camion_source o = source o.form false o.file

abbrev pub camion_tool : CamionOrder → Tool
camion_tool o = matrix_tool (camion_source o) (Unit {0}) (CamionDecides o) CamionMeans
