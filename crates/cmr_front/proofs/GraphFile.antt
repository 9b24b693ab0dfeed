-- Tools that read one graph text.
use Rattle.std.proofs.Common.{◌≡◌, ℕ, List, [], ◌∷◌, Result, Err, ap₂, subst, refl, arith}
use Rattle.text_fields.specs.Reading.{Fault}
use Rattle.text_fields.specs.TextWords.{text_of}
use Rattle.graph_text.specs.declared.error.GraphKind.{GraphKind}
use Rattle.graph_text.specs.declared.read.SizedNetwork.{SizedNetwork}
use Rattle.graph_text.specs.GraphReading.{IsGraph}
use Rattle.graph_text.proofs.OneReading.{readings_are_one}
use Rattle.cmr_front.specs.declared.outcome.FaultKind.TheVariants as faults
use Rattle.cmr_front.specs.declared.outcome.Stop.{Stop}
use Rattle.cmr_front.specs.declared.outcome.Stop.TheVariants as stops
use Rattle.cmr_front.specs.declared.status.Answer.{Answer}
use Rattle.cmr_front.specs.GraphText.{ReportsGraph, SaysOfGraph, StopsGraph, graph_tool}
use Rattle.cmr_front.specs.MatrixText.{matrix_file}
use Rattle.cmr_front.specs.Outcome.{bad_text}
use Rattle.cmr_front.specs.Report.{Report}
use Rattle.cmr_front.specs.Status.{answer_status}
use Rattle.cmr_front.specs.Texts.{ReportsText}
use Rattle.cmr_front.specs.Tool.{HasOneReport, IsDecision, IsLawful}
use Rattle.cmr_front.proofs.OneText.{one_report_of_one, text_lawful}
use Rattle.cmr_front.proofs.Statuses.{IsAnswered}
use Rattle.cmr_front.proofs.Texts.{answered, fault_of_last, one_of_text, one_report_of_text}

module _ (file : List ℕ) (Decides : SizedNetwork → Report → Type 0) where
  -- a text at fault
  pub graph_stopped : (bytes : List ℕ) (stop : Stop) → StopsGraph file bytes stop → IsDecision (ReportsGraph file Decides bytes) (Err stop)
  graph_stopped bytes stops.BadWords h = absurd h
  graph_stopped bytes (stops.CannotRead name) h = absurd h
  graph_stopped bytes (stops.TooLong name) h = absurd h
  graph_stopped bytes (stops.BadText name fault place) (same, kind, is, read) = (Err (kind, place), read, ap₂ (λ n f. bad_text n f place) same is)
  graph_stopped bytes stops.Memory h = tt

  -- two reports are on one reading
  together : (bytes : List ℕ) (r s : Report) → ReportsGraph file Decides bytes r → ReportsGraph file Decides bytes s
      → (read : Result SizedNetwork (Fault GraphKind)) × ReportsText faults.Graph file Decides read r × ReportsText faults.Graph file Decides read s
  together bytes r s (one, is_one, a) (two, is_two, b) =
      (one, a, subst (λ (read : Result SizedNetwork (Fault GraphKind)). ReportsText faults.Graph file Decides read s) (readings_are_one (text_of bytes) two one is_two is_one) b)

  -- the tool is lawful if its decisions on networks are lawful
  pub graph_lawful : (Says : SizedNetwork → Answer → Type 0) → ((net : SizedNetwork) (r s : Report) → Decides net r → Decides net s → r.status ≡ s.status)
      → ((net : SizedNetwork) (r : Report) (answer : Answer) → Decides net r → r.status ≡ answer_status answer → Says net answer)
      → ((net : SizedNetwork) (r : Report) → Decides net r → IsAnswered r) → IsLawful (graph_tool file Decides Says)
  graph_lawful Says one says answers =
      text_lawful (ReportsGraph file Decides) (SaysOfGraph Says)
      (λ bytes r s a b. let t = together bytes r s a b in one_of_text faults.Graph file Decides one t.0 r s t.1 t.2)
      (λ bytes r answer a is. let found = answered faults.Graph file Decides a.0 r answer a.2 is in
      (found.0, subst (IsGraph (text_of bytes)) found.1 a.1, says found.0 r answer found.2 is))
      (matrix_file file)
      (λ bytes r a is. fault_of_last faults.Graph file Decides (matrix_file file ∷ []) (0, omega arith, refl) answers a.0 r a.2 is)

  -- it has one report if its decisions on networks have one
  pub one_report_of_graph : (Says : SizedNetwork → Answer → Type 0) → ((net : SizedNetwork) (r s : Report) → Decides net r → Decides net s → r ≡ s) → HasOneReport (graph_tool file Decides Says)
  one_report_of_graph Says one =
      one_report_of_one (ReportsGraph file Decides) (λ bytes r s a b. let t = together bytes r s a b in one_report_of_text faults.Graph file Decides one t.0 r s t.1 t.2) (SaysOfGraph Says) (matrix_file file)
