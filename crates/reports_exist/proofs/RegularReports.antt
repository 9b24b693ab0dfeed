-- `regular` has a report on each text.
use Rattle.std.proofs.Common.{◌≡◌, ◌≤◌, ℕ, true, List, length, refl, arith}
use Rattle.cmr_base.specs.Matrix.{Matrix, IsMatrix}
use Rattle.cmr_base.specs.Trees.{IsBinary}
use Rattle.cmr_base.specs.declared.limits.TheConstants.{MAX_LINES}
use Rattle.chains.specs.SignSteps.{AreSigns, unsigned}
use Rattle.chains.proofs.ChainViolators.{unsigned_signs}
use Rattle.camion_sign.proofs.FreeSteps.{chain_steps}
use Rattle.cmr_front.proofs.MatrixText.{read_is_binary, read_is_matrix}
use Rattle.cmr_unimodular.specs.Regular.{RegularDecides, RegularOrder, regular_report, regular_source, regular_tool}
use Rattle.cmr_unimodular.proofs.RightVerdicts.{verdict_is_right}
use Rattle.reports_exist.proofs.SigningsExist.{signing_exists}
use Rattle.reports_exist.proofs.TextReports.{HasReport, on_matrix}
use Rattle.reports_exist.proofs.UnimodularReports.{decomposition_exists}

signs_are_matrix : (a s : Matrix) → IsMatrix a → AreSigns a s → IsMatrix s
signs_are_matrix a s is signs =
    let high = is.height_in in
    let wide = is.width_in in
    let same_high = signs.same_height in
    let same_wide = signs.same_width in
    record { rectangular = signs.ternary.rectangular; small = signs.ternary.small; height_in = omega (arith, high, same_high); width_in = omega (arith, wide, same_wide) }

decided : (o : RegularOrder) → o.budget ≤ MAX_LINES → (a : Matrix) → IsMatrix a → IsBinary a → HasReport (RegularDecides o a)
decided o low a is binary none = signing_exists a is (λ signing.
    let steps = signing.0 in
    let signed = signing.1 in
    let whole = signing.2 in
    let signed_is = signs_are_matrix a signed is whole.signs in
    decomposition_exists o.budget o.pivots signed low signed_is (λ tree. none (
      regular_report o a steps signed tree.0,
      record {
        steps = steps;
        signed = signed;
        signing = record {
          binary = binary;
          matrix = is;
          signed_matrix = signed_is;
          by_camion = whole.by_camion;
          one_support = whole.one_support;
          chain = chain_steps a is binary steps (unsigned a) signed (unsigned_signs a) whole.by_camion.steps_are;
        };
        tree = tree.0;
        decomposition = tree.1;
        right = verdict_is_right o.budget o.pivots signed signed_is tree.0 tree.1;
        report_is = refl;
      },
    )))

pub regular_has_report : (o : RegularOrder) → o.budget ≤ MAX_LINES → (texts : List (List ℕ)) → length texts ≡ 1 → HasReport ((regular_tool o).Reports texts)
regular_has_report o low = on_matrix (regular_source o) (RegularDecides o) (λ bytes m e. decided o low m (read_is_matrix o.form true bytes m e) (read_is_binary o.form bytes m e))
