-- `graphic` and `network` have a report on each matrix text.
use Rattle.std.proofs.Common.{◌≡◌, inl, inr, ℕ, Bool, true, false, List, length, option_map, refl, sym, subst}
use Rattle.cmr_base.specs.declared.network.Network.{Network as Net}
use Rattle.cmr_base.specs.GreedySets.{IsGreedySet, IsHereditary, IsMinimalWithout}
use Rattle.cmr_base.specs.Matrix.{Matrix, IsMatrix}
use Rattle.cmr_base.proofs.GraphicMatrices.{graphic_hereditary, network_matrix_hereditary}
use Rattle.cmr_base.proofs.GreedyLemmas.{greedy_set_minimal}
use Rattle.cmr_base.proofs.Submatrices.{inherited_from_hereditary}
use Rattle.cmr_base.proofs.Parts.{is_matrix-transposed}
use Rattle.cmr_base.proofs.WholeMatrices.{is_ternary, whole_submatrix}
use Rattle.cmr_front.specs.Minimal.{IsMinimalAsked}
use Rattle.cmr_front.proofs.MatrixText.{read_is_matrix}
use Rattle.cmr_classes.specs.declared.tools.graphic_network.TestedProperty.{TestedProperty}
use Rattle.cmr_classes.specs.declared.tools.graphic_network.TestedProperty.TheVariants.{Graphic, Network}
use Rattle.cmr_classes.specs.GraphicNetwork.{Has, IsTestable, Shows, TestDecides, TestOrder, is_binary, path_tool, test_no, test_source, test_yes, tested_lines, tested_matrix}
use Rattle.cmr_classes.specs.GraphicNetwork as decides
use Rattle.cmr_classes.proofs.AlikeNetworks.{lines_back}
use Rattle.decompositions_exist.proofs.NotExcluded.{one_of_two}
use Rattle.reports_exist.proofs.MinimalReports.{asked_exists}
use Rattle.reports_exist.proofs.TextReports.{HasReport, on_matrix}

hereditary : (p : TestedProperty) → IsHereditary (Has p)
hereditary Graphic = graphic_hereditary
hereditary Network = network_matrix_hereditary

minimal : (p : TestedProperty) (m : Matrix) → IsMatrix m → ¬ (Has p m) → (rows columns : List ℕ) → IsGreedySet (Has p) m rows columns → IsMinimalWithout (Has p) m rows columns
minimal p m is lacks rows columns greedy =
    greedy_set_minimal (Has p) m (inherited_from_hereditary (Has p) (hereditary p) m (is_ternary m is)) rows columns (λ has. lacks (subst (Has p) (whole_submatrix m is) has)) greedy

tested_is_matrix : (transposed : Bool) (m : Matrix) → IsMatrix m → IsMatrix (tested_matrix transposed m)
tested_is_matrix true m is = is_matrix-transposed m is
tested_is_matrix false m is = is

-- a network that shows the property
shown : (p : TestedProperty) (m : Matrix) → Has p m → (net : Net) × Shows p net m
shown Graphic m has = has.1
shown Network m has = has

module _ (p : TestedProperty) (o : TestOrder) where
  decided : (m : Matrix) → IsMatrix m → HasReport (TestDecides p o m)
  decided m is none = one_of_two (Has p (tested_matrix o.transposed m)) (λ either. elim either [
    | inl has ↦ let net = shown p (tested_matrix o.transposed m) has in none (test_yes p o net.0, decides.yes net.0 (record { has = has; shows = net.1 }) refl)
    | inr lacks ↦
        asked_exists (Has p) (tested_matrix o.transposed m) (minimal p (tested_matrix o.transposed m) (tested_is_matrix o.transposed m is) lacks) o.minimal (λ found.
        let own = option_map (tested_lines o.transposed) found.0 in
        let asked = subst (IsMinimalAsked (Has p) (tested_matrix o.transposed m) o.minimal) (sym (lines_back o.transposed found.0)) found.1 in
        none (test_no p o m own, decides.no own (record { lacks = lacks; asked = asked }) refl))
  ])

  pub path_has_report : (texts : List (List ℕ)) → length texts ≡ 1 → HasReport ((path_tool p o).Reports texts)
  path_has_report = on_matrix (test_source p o) (TestDecides p o) (λ bytes m e. decided m (read_is_matrix o.form (is_binary p) bytes m e))
