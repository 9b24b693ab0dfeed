-- The inverse of `parts`: `compose` with the sum of the printed kind makes from the two files that `parts` writes the matrix with its
-- lines in the printed order.
use Rattle.std.specs.Prelude.{◌≡◌, ◌≢◌, ℕ, false, List, [], ◌∷◌, Ok}
use Rattle.cmr_base.specs.Matrix.{Matrix}
use Rattle.cmr_base.specs.LineSets.{submatrix}
use Rattle.text_fields.specs.TextWords.{text_of}
use Rattle.compose.specs.declared.arrangement.Arranged.{Arranged}
use Rattle.compose.specs.declared.sum_kind.SumKind.{SumKind}
use Rattle.tree_text.specs.TreeReading.{PlainTree, tree}
use Rattle.cmr_front.specs.declared.matrix_file.MatrixForm.TheVariants.{Dense}
use Rattle.cmr_front.specs.declared.status.Answer.TheVariants.{Yes}
use Rattle.cmr_front.specs.Evidence.{evidence_files}
use Rattle.cmr_front.specs.Inputs.{given, texts}
use Rattle.cmr_front.specs.MatrixText.{matrix_in}
use Rattle.cmr_front.specs.Report.{Held, Report, with_files}
use Rattle.cmr_front.specs.Run.{ReportsHeld}
use Rattle.cmr_front.specs.Status.{answer_status}
use Rattle.cmr_reach.specs.Compose.{compose_tool, composed_report, ComposeOrder}
use Rattle.cmr_reach.specs.Parts.{ArePartsOfRoot, parts_lines, parts_tool, root_of, root_word, PartsOrder}

-- the order of `compose`: the sum of this kind of the two files, into a file of this name
abbrev pub back_order : PartsOrder → SumKind → List ℕ → ComposeOrder
back_order o kind output = record { form = Dense; sum = kind; first = o.first; second = o.second; output = output }

-- The files that were read hold a matrix and a tree of it, and the parts of its root are printed. When they are in their files,
-- `compose` writes their sum, which is the matrix with its lines in the printed order.
pub record IsComposedBack (o : PartsOrder) (held : Held) (report : Report) : Type 0 where
  pub matrix_text : List ℕ
  pub tree_text : List ℕ
  pub held_texts : given held (evidence_files o.matrix o.tree) ≡ texts (matrix_text ∷ tree_text ∷ [])
  pub matrix : Matrix
  pub matrix_is : matrix_in o.form false matrix_text ≡ Ok matrix
  pub plain_tree : PlainTree
  pub tree_is : tree (text_of tree_text) ≡ Ok plain_tree
  pub kind : SumKind
  pub both : Arranged
  pub are_parts : ArePartsOfRoot matrix (root_of plain_tree) kind both
  pub printed : report.output ≡ parts_lines (root_word (root_of plain_tree)) both.rows both.columns
  pub composed : (output : List ℕ) → ReportsHeld (compose_tool (back_order o kind output)) (with_files held report.files) (composed_report output (submatrix matrix both.rows both.columns))

abbrev pub PartsComposeBack : Type 0
PartsComposeBack = (o : PartsOrder) (held : Held) (report : Report) → ReportsHeld (parts_tool o) held report → report.status ≡ answer_status Yes → o.first ≢ o.second → IsComposedBack o held report
