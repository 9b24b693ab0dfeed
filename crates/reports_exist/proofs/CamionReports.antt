-- `camion` has a report on each text.
use Rattle.std.proofs.Common.{◌≡◌, inl, inr, ℕ, false, List, length, refl}
use Rattle.cmr_base.specs.CyclePlaces.{IsFaultAt}
use Rattle.cmr_base.specs.Matrix.{Matrix, IsMatrix, entry}
use Rattle.cmr_front.proofs.MatrixText.{read_is_matrix}
use Rattle.cmr_reach.specs.Camion.{CamionDecides, CamionOrder, camion_label, camion_source, camion_tool}
use Rattle.cmr_reach.specs.Camion as decides
use Rattle.cmr_reach.specs.FaultReports.{fault_report, yes_report}
use Rattle.decompositions_exist.proofs.FaultsExist.{first_fault}
use Rattle.decompositions_exist.proofs.NotExcluded.{one_of_two}
use Rattle.reports_exist.proofs.TextReports.{HasReport, on_matrix}

decided : (o : CamionOrder) (m : Matrix) → IsMatrix m → HasReport (CamionDecides o m)
decided o m is none = one_of_two ((t : ℕ) × (c : ℕ) × (d : ℕ) × (path : List ℕ) × IsFaultAt (entry m) t c d path) (λ either. elim either [
  | inl f ↦ first_fault m is f.0 f.1 f.2 f.3 f.4 (λ fault. none (fault_report camion_label o.fault m fault.0, decides.no fault.0 fault.1 refl))
  | inr without ↦ none (yes_report camion_label, decides.yes (λ t c d path fault. without (t, c, d, path, fault)) refl)
])

pub camion_has_report : (o : CamionOrder) (texts : List (List ℕ)) → length texts ≡ 1 → HasReport ((camion_tool o).Reports texts)
camion_has_report o = on_matrix (camion_source o) (CamionDecides o) (λ bytes m e. decided o m (read_is_matrix o.form false bytes m e))
