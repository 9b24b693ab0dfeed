-- `compose` has a report on each two texts.
use Rattle.std.proofs.Common.{◌≡◌, inl, inr, ℕ, false, List, length, refl, arith}
use Rattle.cmr_base.specs.Matrix.{Matrix, HasTernaryEntries, IsMatrix, IsRectangular}
use Rattle.compose.specs.declared.sum_kind.SumKind.{SumKind}
use Rattle.compose.specs.declared.sum_kind.SumKind.TheVariants.{Concentrated, Delta, Mixed, One, Two, YForm}
use Rattle.compose.specs.SumKinds.{HaveSum, sum_of}
use Rattle.compose.proofs.SumSizes.{sums_lose_lines}
use Rattle.cmr_front.specs.declared.outcome.FaultKind.TheVariants as faults
use Rattle.cmr_front.specs.MatrixText.{matrix_in}
use Rattle.cmr_reach.specs.declared.tools.compose_tool.Obstacle.TheVariants.{BadConnector, BadEntry, TooManyColumns, TooManyRows}
use Rattle.cmr_reach.specs.Compose.{ComposeDecides, ComposeOrder, ComposeReports, HaveFewColumns, HaveFewRows, composed, composed_report, compose_tool, obstacle_report, refused}
use Rattle.decompositions_exist.proofs.NotExcluded.{one_of_two}
use Rattle.reports_exist.proofs.TextReports.{HasReport, on_pair, on_text}
use Rattle.pivots.proofs.PartLaws.{rectangular_filled}

sum_rectangular : (kind : SumKind) (first second : Matrix) → IsRectangular (sum_of kind first second)
sum_rectangular One first second = rectangular_filled _ _ _
sum_rectangular Two first second = rectangular_filled _ _ _
sum_rectangular Delta first second = rectangular_filled _ _ _
sum_rectangular YForm first second = rectangular_filled _ _ _
sum_rectangular Mixed first second = rectangular_filled _ _ _
sum_rectangular Concentrated first second = rectangular_filled _ _ _

sum_is_matrix : (kind : SumKind) (first second : Matrix) → HaveFewRows kind first second → HaveFewColumns kind first second → HaveSum kind first second
    → HasTernaryEntries (sum_of kind first second) → IsMatrix (sum_of kind first second)
sum_is_matrix kind first second rows columns have small =
    let lost = sums_lose_lines kind first second have in
    let lost_rows = lost.0 in
    let lost_columns = lost.1 in
    record { rectangular = sum_rectangular kind first second; small = small; height_in = omega (arith, rows, lost_rows); width_in = omega (arith, columns, lost_columns) }

decided : (o : ComposeOrder) (first second : Matrix) → HasReport (ComposeDecides o first second)
decided o first second none =
    one_of_two (HaveFewRows o.sum first second) (λ either. elim either [
      | inr many ↦ none (obstacle_report TooManyRows, refused TooManyRows many refl)
      | inl rows ↦ one_of_two (HaveFewColumns o.sum first second) (λ either. elim either [
        | inr many ↦ none (obstacle_report TooManyColumns, refused TooManyColumns (rows, many) refl)
        | inl columns ↦ one_of_two (HaveSum o.sum first second) (λ either. elim either [
          | inr bad ↦ none (obstacle_report BadConnector, refused BadConnector (rows, columns, bad) refl)
          | inl have ↦ one_of_two (HasTernaryEntries (sum_of o.sum first second)) (λ either. elim either [
            | inr large ↦ none (obstacle_report BadEntry, refused BadEntry (rows, columns, have, large) refl)
            | inl small ↦
                none (composed_report o.output (sum_of o.sum first second), composed (record { rows = rows; columns = columns; connected = have; is_matrix = sum_is_matrix o.sum first second rows columns have small }) refl)
          ])
        ])
      ])
    ])

pub compose_has_report : (o : ComposeOrder) (texts : List (List ℕ)) → length texts ≡ 2 → HasReport ((compose_tool o).Reports texts)
compose_has_report o texts count = on_pair (ComposeReports o)
    (λ first second. on_text faults.Matrix o.first _ (matrix_in o.form false first) (λ a e. on_text faults.Matrix o.second (ComposeDecides o a) (matrix_in o.form false second) (λ b f. decided o a b)))
    texts count
