-- `tu` has a report on each text.
use Rattle.std.proofs.Common.{◌≡◌, ◌≤◌, ℕ, false, List, length, refl, sym, subst}
use Rattle.cmr_base.specs.Matrix.{Matrix, IsMatrix, height}
use Rattle.cmr_base.specs.declared.limits.TheConstants.{MAX_LINES}
use Rattle.cmr_front.proofs.MatrixText.{read_is_matrix}
use Rattle.tree_type.specs.DecompositionTrees.{SizedTree}
use Rattle.tree_type.specs.Invariant.{IsTreeFor}
use Rattle.tree_type.specs.Soundness.{IsSoundTree}
use Rattle.open_parts.specs.TriedShapes.{IsTriedWith}
use Rattle.open_parts.proofs.TriedRoots.{tried_shapes_are_sound, tried_shapes_are_trees}
use Rattle.cmr_unimodular.specs.Tu.{TuOrder, tu_source, tu_tool, tu_verdict}
use Rattle.cmr_unimodular.specs.Verdict.{Decides, IsDecomposition, VerdictOrder, verdict_report}
use Rattle.cmr_unimodular.proofs.RightVerdicts.{verdict_is_right}
use Rattle.decompositions_exist.proofs.NodesExist.{node_of_tree}
use Rattle.decompositions_exist.proofs.NotExcluded.{NotExcluded}
use Rattle.decompositions_exist.proofs.TriedExist.{tried_with_exists}
use Rattle.reports_exist.proofs.TextReports.{HasReport, on_matrix}

-- a matrix has a tree of the stated shape that keeps all rules
pub decomposition_exists : (budget pivots : ℕ) (m : Matrix) → budget ≤ MAX_LINES → IsMatrix m → NotExcluded ((tree : SizedTree) × IsDecomposition budget pivots m tree)
decomposition_exists budget pivots m low is none = tried_with_exists budget m is pivots (λ found.
    let fits = tried_shapes_are_trees budget pivots m found.0 is found.1 in
    let node = node_of_tree (height m) m.width found.0 fits in
    none (
      record { rows = height m; columns = m.width; root = node.0 },
      record {
        rows = refl;
        columns = refl;
        is_tree = subst (IsTreeFor (height m) m.width) (sym node.1) fits;
        shape = subst (IsTriedWith budget pivots m) (sym node.1) found.1;
        sound = subst (IsSoundTree m (height m) m.width) (sym node.1) (tried_shapes_are_sound budget pivots m found.0 low is found.1);
      },
    ))

pub verdict_has_report : (o : VerdictOrder) (m : Matrix) → o.budget ≤ MAX_LINES → IsMatrix m → HasReport (Decides o m)
verdict_has_report o m low is none = decomposition_exists o.budget o.pivots m low is (λ found.
    none (verdict_report o m found.0, record { tree = found.0; decomposition = found.1; right = verdict_is_right o.budget o.pivots m is found.0 found.1; report_is = refl }))

pub tu_has_report : (o : TuOrder) → o.budget ≤ MAX_LINES → (texts : List (List ℕ)) → length texts ≡ 1 → HasReport ((tu_tool o).Reports texts)
tu_has_report o low = on_matrix (tu_source o) (Decides (tu_verdict o)) (λ bytes m e. verdict_has_report (tu_verdict o) m low (read_is_matrix o.form false bytes m e))
