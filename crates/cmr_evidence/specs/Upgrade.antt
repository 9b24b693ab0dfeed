-- The order of the arguments of `upgrade`, its report on a tree text, and the meaning of its answer.
use Rattle.std.specs.Prelude.{◌≡◌, ◌++◌, ℕ, List, [], ◌∷◌, Ok, codes, Option, Some}
use Rattle.std.specs.Fmt.{decimal}
use Rattle.text_fields.specs.TextWords.{text_of}
use Rattle.tree_type.specs.NodeCounts.{node_count}
use Rattle.tree_text.specs.CanonicalTrees.{tree_text}
use Rattle.tree_text.specs.TreeReading.{PlainTree, tree}
use Rattle.cmr_front.specs.declared.status.Answer.{Answer}
use Rattle.cmr_front.specs.declared.status.Answer.TheVariants.{Yes, No, Undecided, Refused}
use Rattle.cmr_front.specs.Evidence.{tree_tool}
use Rattle.cmr_front.specs.Report.{Report}
use Rattle.cmr_front.specs.Status.{answer_status}
use Rattle.cmr_front.specs.Tool.{Tool}
use Rattle.clap.specs.Words.{App, Row, Text, first_of}
use Rattle.cmr_evidence.specs.declared.tools.upgrade.UpgradeOptions.{UpgradeOptions}
use Rattle.cmr_front.specs.Words.Arguments.{operand_rule, required, tool_app, tree_rule}
use Rattle.cmr_front.specs.Words.Parsing.{matches_in}
use Rattle.cmr_front.specs.Words.ReadWords.{◌>>=◌}

-- ---- the arguments

-- the options of `upgrade`
pub record UpgradeOrder : Type 0 where
  pub evidence : List ℕ
  pub tree : List ℕ

-- EVIDENCE -D FILE
abbrev pub upgrade_app : App
upgrade_app = tool_app (codes "upgrade") (operand_rule (codes "evidence") ∷ required tree_rule ∷ [])

abbrev pub upgrade_order_in : List Row → Option UpgradeOrder
upgrade_order_in rows = do
  evidence ← first_of (codes "evidence") rows
  tree ← first_of (codes "tree") rows
  Some (record { evidence = evidence; tree = tree })

abbrev pub upgrade_order : List Text → Option UpgradeOrder
upgrade_order words = matches_in upgrade_app words >>= upgrade_order_in

abbrev pub upgrade_order_of : UpgradeOptions → UpgradeOrder
upgrade_order_of options = record { evidence = options.evidence.now; tree = options.tree.now }

-- ---- the reports

-- the canonical text
abbrev pub upgraded_text : PlainTree → List ℕ
upgraded_text t = tree_text t.rows t.columns t.root

abbrev pub upgraded_line : ℕ → List ℕ
upgraded_line nodes = codes "upgraded: " ++ decimal nodes ++ codes " nodes\n"

abbrev pub upgrade_report : List ℕ → PlainTree → Report
upgrade_report file t = record {
  status = answer_status Yes;
  output = upgraded_line (node_count t.root);
  error = [];
  files = (record { name = file; bytes = upgraded_text t }) ∷ [];
}

abbrev pub UpgradeDecides : List ℕ → PlainTree → Report → Type 0
UpgradeDecides file t report = report ≡ upgrade_report file t

-- the written text represents the tree that was read
abbrev pub UpgradeMeans : PlainTree → Answer → Type 0
UpgradeMeans t Yes = tree (text_of (upgraded_text t)) ≡ Ok t
UpgradeMeans t No = ⊥
UpgradeMeans t Undecided = ⊥
UpgradeMeans t Refused = ⊥

abbrev pub upgrade_tool : UpgradeOrder → Tool
upgrade_tool o = tree_tool o.evidence (UpgradeDecides o.tree) UpgradeMeans
