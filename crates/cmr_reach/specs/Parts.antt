-- The order of the arguments of `parts`, its reports on a matrix with a decomposition tree, and the meaning of its answers.
use Rattle.std.specs.Prelude.{◌≡◌, ◌⊎◌, ◌++◌, ℕ, false, List, [], ◌∷◌, Ok, Option, Some, None, codes}
use Rattle.cmr_base.specs.Matrix.{Matrix, IsMatrix}
use Rattle.cmr_base.specs.LineSets.{submatrix}
use Rattle.matrix_text.specs.CanonicalMatrices.{dense_text}
use Rattle.compose.specs.declared.arrangement.Arranged.{Arranged}
use Rattle.compose.specs.declared.sum_kind.SumKind.{SumKind}
use Rattle.compose.specs.declared.sum_kind.SumKind.TheVariants as sums
use Rattle.compose.specs.Arrangements.{arranged, three_arrangement, two_arrangement}
use Rattle.compose.specs.SumKinds.{kind_of_form as sum_kind_of}
use Rattle.compose.specs.RoundTrips.{IsRoundTrip}
use Rattle.tree_text.specs.KindWords.{kind_of, word_of_kind}
use Rattle.tree_text.specs.TreeReading.{PlainTree}
use Rattle.tree_type.specs.DecompositionTrees.{Finding, TwoSum, ThreeSum, finding_of}
use Rattle.tree_type.specs.declared.refusal.Rule.{Rule}
use Rattle.cmr_front.specs.declared.matrix_file.MatrixForm.TheVariants.{Dense}
use Rattle.cmr_front.specs.declared.outcome.FaultKind.TheVariants as faults
use Rattle.cmr_front.specs.declared.status.Answer.{Answer}
use Rattle.cmr_front.specs.declared.status.Answer.TheVariants.{Yes, No, Undecided, Refused}
use Rattle.cmr_front.specs.Evidence.{IsBrokenFor, IsSoundFor, ReportsTree, SaysOfTree, evidence_tool}
use Rattle.cmr_front.specs.MatrixText.{matrix_in}
use Rattle.cmr_front.specs.Printed.{line_set_text}
use Rattle.cmr_front.specs.Refusals.{refusal_line}
use Rattle.cmr_front.specs.Report.{Report}
use Rattle.cmr_front.specs.Status.{answer_status}
use Rattle.cmr_front.specs.Texts.{ReportsText}
use Rattle.cmr_front.specs.Tool.{Tool}
use Rattle.cmr_reach.specs.Compose.{ComposeReports, composed_report, ComposeOrder}
use Rattle.clap.specs.Words.{App, Row, Text, first_of}
use Rattle.cmr_front.specs.declared.matrix_file.MatrixForm.{MatrixForm}
use Rattle.cmr_front.specs.Words.Arguments.{form_rule, operand_rule, required, tool_app, value_rule}
use Rattle.cmr_front.specs.Words.Parsing.{form_in, matches_in}
use Rattle.cmr_front.specs.Words.ReadWords.{◌>>=◌}
use Rattle.cmr_reach.specs.declared.tools.parts.PartsOptions.{PartsOptions}

-- ---- the arguments

-- the options of `parts`
pub record PartsOrder : Type 0 where
  pub form : MatrixForm
  pub matrix : List ℕ
  pub tree : List ℕ
  pub first : List ℕ
  pub second : List ℕ

-- [-i FORMAT] MATRIX TREE -A FILE -B FILE
abbrev pub parts_app : App
parts_app = tool_app (codes "parts")
    (form_rule ∷ operand_rule (codes "matrix") ∷ operand_rule (codes "tree") ∷ required (value_rule (codes "first") 65) ∷ required (value_rule (codes "second") 66) ∷ [])

abbrev pub parts_order_in : List Row → Option PartsOrder
parts_order_in rows = do
  form ← form_in rows
  matrix ← first_of (codes "matrix") rows
  tree ← first_of (codes "tree") rows
  first ← first_of (codes "first") rows
  second ← first_of (codes "second") rows
  Some (record { form = form; matrix = matrix; tree = tree; first = first; second = second })

abbrev pub parts_order : List Text → Option PartsOrder
parts_order words = matches_in parts_app words >>= parts_order_in

abbrev pub parts_order_of : PartsOptions → PartsOrder
parts_order_of options = record {
  form = options.form;
  matrix = options.matrix.now;
  tree = options.tree.now;
  first = options.first.now;
  second = options.second.now;
}

-- ---- the reports

-- the kind of the sum, and the order of the lines in which the sum is the matrix
abbrev pub parts_lines : List ℕ → List ℕ → List ℕ → List ℕ
parts_lines kind rows columns = codes "parts: " ++ kind ++ codes "\norder " ++ line_set_text rows columns ++ codes "\n"

-- the two matrices in their files
abbrev pub parts_report : PartsOrder → List ℕ → Arranged → Report
parts_report o kind both = record {
  status = answer_status Yes;
  output = parts_lines kind both.rows both.columns;
  error = [];
  files = (record { name = o.first; bytes = dense_text both.first }) ∷ (record { name = o.second; bytes = dense_text both.second }) ∷ [];
}

abbrev pub said_refused : List ℕ → Report
said_refused output = record { status = answer_status Refused; output = output; error = []; files = [] }

-- the word for a root
abbrev pub root_word : Finding → List ℕ
root_word finding = word_of_kind (kind_of finding)

-- the root is not a sum of two matrices
abbrev pub other_root_report : List ℕ → Report
other_root_report kind = said_refused (codes "refused: root is " ++ kind ++ codes "\n")

-- ---- the decisions

-- the root is a sum of this kind of these two matrices, which are the matrices of its separation
abbrev pub IsRootSum : Matrix → SumKind → Arranged → Finding → Type 0
IsRootSum m kind both (TwoSum two) = (kind ≡ sums.Two) × (both ≡ arranged m (two_arrangement m two))
IsRootSum m kind both (ThreeSum three) = (kind ≡ sum_kind_of three.form) × (both ≡ arranged m (three_arrangement m three))
IsRootSum m kind both finding = ⊥

-- the root is not a sum of two matrices
abbrev pub HasNoParts : Matrix → Finding → Type 0
HasNoParts m finding = (kind : SumKind) (both : Arranged) → ¬ (IsRootSum m kind both finding)

-- the two matrices of the root's separation, whose sum is the matrix with its lines in their order; none if it is not such a sum
abbrev pub IsArranged : Matrix → Finding → Option Arranged → Type 0
IsArranged m finding None = HasNoParts m finding
IsArranged m finding (Some both) = IsMatrix m × (kind : SumKind) × IsRootSum m kind both finding × IsRoundTrip kind m both

-- the facts about the parts of a matrix that the root gives
pub record ArePartsOfRoot (m : Matrix) (finding : Finding) (kind : SumKind) (both : Arranged) : Type 0 where
  pub of_root : IsRootSum m kind both finding
  pub round_trip : IsRoundTrip kind m both
  pub whole : IsMatrix m
  pub first : IsMatrix both.first
  pub second : IsMatrix both.second

abbrev pub root_of : PlainTree → Finding
root_of t = finding_of t.root

-- on a matrix with a tree: by the root if the tree keeps its rules, for every verdict of the tree
pub data PartsDecides (o : PartsOrder) (m : Matrix) (t : PlainTree) (report : Report) : Type 0 where
  parted : IsSoundFor m t → (kind : SumKind) (both : Arranged) → ArePartsOfRoot m (root_of t) kind both → report ≡ parts_report o (root_word (root_of t)) both → PartsDecides o m t report
  other_root : IsSoundFor m t → HasNoParts m (root_of t) → report ≡ other_root_report (root_word (root_of t)) → PartsDecides o m t report
  refused : (path : List ℕ) (broken : Rule) → IsBrokenFor m t path broken → report ≡ said_refused (refusal_line path broken) → PartsDecides o m t report

-- ---- the meaning

-- the report of `compose` on the texts of the two matrices with this sum: the matrix in its file
abbrev pub AreComposedTo : SumKind → Arranged → Matrix → Type 0
AreComposedTo kind both sum = (o : ComposeOrder) → o.form ≡ Dense → o.sum ≡ kind → ComposeReports o (dense_text both.first) (dense_text both.second) (composed_report o.output sum)

abbrev pub PartsMean : Matrix → PlainTree → Answer → Type 0
PartsMean m t Yes = IsSoundFor m t × (kind : SumKind) × (both : Arranged) × ArePartsOfRoot m (root_of t) kind both × AreComposedTo kind both (submatrix m both.rows both.columns)
PartsMean m t No = ⊥
PartsMean m t Undecided = ⊥
PartsMean m t Refused = (IsSoundFor m t × HasNoParts m (root_of t)) ⊎ ((path : List ℕ) × (broken : Rule) × IsBrokenFor m t path broken)

-- ---- the tool

-- on the texts of the matrix and of the tree: a fault of the matrix has precedence
abbrev pub PartsReports : PartsOrder → List ℕ → List ℕ → Report → Type 0
PartsReports o matrix tree report = ReportsText faults.Matrix o.matrix (λ m. ReportsTree o.tree (PartsDecides o m) tree) (matrix_in o.form false matrix) report

abbrev pub PartsSay : PartsOrder → List ℕ → List ℕ → Answer → Type 0
PartsSay o matrix tree answer = (m : Matrix) × (matrix_in o.form false matrix ≡ Ok m) × SaysOfTree (PartsMean m) tree answer

abbrev pub parts_tool : PartsOrder → Tool
parts_tool o = evidence_tool o.matrix o.tree (PartsReports o) (PartsSay o)
