-- The meaning of the answer of `upgrade` for the tree.
use Rattle.std.proofs.Common.{◌≡◌, ◌∙◌, ℕ, List, Ok, ap, sym, arith}
use Rattle.text_fields.specs.TextWords.{text_of}
use Rattle.tree_text.specs.TreeReading.{PlainTree, tree}
use Rattle.tree_text.proofs.ReadTrees.{written_again}
use Rattle.cmr_front.specs.declared.status.Answer.{Answer}
use Rattle.cmr_front.specs.declared.status.Answer.TheVariants.{Yes, No, Undecided, Refused}
use Rattle.cmr_front.specs.Report.{Report}
use Rattle.cmr_front.specs.Status.{answer_status}
use Rattle.cmr_front.specs.Tool.{HasOneReport, IsLawful}
use Rattle.cmr_front.proofs.Statuses.{status_of}
use Rattle.cmr_front.proofs.TreeFile.{one_report_of_tree, tree_lawful}
use Rattle.cmr_evidence.specs.Upgrade.{UpgradeDecides, UpgradeMeans, upgrade_tool, UpgradeOrder}

says : (file bytes : List ℕ) (t : PlainTree) (r : Report) (answer : Answer) → tree (text_of bytes) ≡ Ok t → UpgradeDecides file t r → r.status ≡ answer_status answer → UpgradeMeans t answer
says file bytes t r Yes read e is = written_again (text_of bytes) t read
says file bytes t r No read e is = let s = status_of r _ e in absurd (omega arith)
says file bytes t r Undecided read e is = let s = status_of r _ e in absurd (omega arith)
says file bytes t r Refused read e is = let s = status_of r _ e in absurd (omega arith)

pub upgrade_lawful : (o : UpgradeOrder) → IsLawful (upgrade_tool o)
upgrade_lawful o = tree_lawful o.evidence (UpgradeDecides o.tree) UpgradeMeans (λ t r s a b. ap (λ report. report.status) (a ∙ sym b)) (says o.tree) (λ t r e. (Yes, status_of r _ e))

pub upgrade_has_one_report : (o : UpgradeOrder) → HasOneReport (upgrade_tool o)
upgrade_has_one_report o = one_report_of_tree o.evidence (UpgradeDecides o.tree) UpgradeMeans (λ t r s a b. a ∙ sym b)
