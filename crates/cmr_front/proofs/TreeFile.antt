-- Tools that read one tree text.
use Rattle.std.proofs.Common.{◌≡◌, ℕ, List, [], ◌∷◌, Ok, refl, arith}
use Rattle.text_fields.specs.TextWords.{text_of}
use Rattle.tree_text.specs.TreeReading.{PlainTree, tree}
use Rattle.cmr_front.specs.declared.outcome.FaultKind.TheVariants as faults
use Rattle.cmr_front.specs.declared.status.Answer.{Answer}
use Rattle.cmr_front.specs.Evidence.{ReportsTree, SaysOfTree, evidence_file, tree_tool}
use Rattle.cmr_front.specs.Report.{Report}
use Rattle.cmr_front.specs.Status.{answer_status}
use Rattle.cmr_front.specs.Tool.{HasOneReport, IsLawful}
use Rattle.cmr_front.proofs.OneText.{one_report_of_one, text_lawful}
use Rattle.cmr_front.proofs.Statuses.{IsAnswered}
use Rattle.cmr_front.proofs.Texts.{answered, fault_of_last, one_of_text, one_report_of_text}

-- the tool is lawful if its decisions on trees are
pub tree_lawful : (file : List ℕ) (Decides : PlainTree → Report → Type 0) (Says : PlainTree → Answer → Type 0)
    → ((t : PlainTree) (r s : Report) → Decides t r → Decides t s → r.status ≡ s.status)
    → ((bytes : List ℕ) (t : PlainTree) (r : Report) (answer : Answer) → tree (text_of bytes) ≡ Ok t → Decides t r → r.status ≡ answer_status answer → Says t answer)
    → ((t : PlainTree) (r : Report) → Decides t r → IsAnswered r) → IsLawful (tree_tool file Decides Says)
tree_lawful file Decides Says one says answers =
    text_lawful (ReportsTree file Decides) (SaysOfTree Says)
    (λ bytes. one_of_text faults.Tree file Decides one (tree (text_of bytes)))
    (λ bytes r answer a is. let found = answered faults.Tree file Decides (tree (text_of bytes)) r answer a is in (found.0, found.1, says bytes found.0 r answer found.1 found.2 is))
    (evidence_file file)
    (λ bytes. fault_of_last faults.Tree file Decides (evidence_file file ∷ []) (0, omega arith, refl) answers (tree (text_of bytes)))

-- it has one report if its decisions on trees have one
pub one_report_of_tree : (file : List ℕ) (Decides : PlainTree → Report → Type 0) (Says : PlainTree → Answer → Type 0)
    → ((t : PlainTree) (r s : Report) → Decides t r → Decides t s → r ≡ s) → HasOneReport (tree_tool file Decides Says)
one_report_of_tree file Decides Says one = one_report_of_one (ReportsTree file Decides) (λ bytes. one_report_of_text faults.Tree file Decides one (tree (text_of bytes))) (SaysOfTree Says) (evidence_file file)
