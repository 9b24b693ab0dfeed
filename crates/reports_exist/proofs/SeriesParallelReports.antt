-- `series-parallel` has a report on each text.
use Rattle.std.proofs.Common.{◌≡◌, inl, inr, ℕ, List, length, refl}
use Rattle.cmr_base.specs.Matrix.{Matrix}
use Rattle.cmr_base.specs.Reductions.{IsSeriesParallel}
use Rattle.sp_reduce.proofs.Submatrices.{greedy_set}
use Rattle.cmr_classes.specs.SeriesParallel.{SeriesParallelDecides, SeriesParallelOrder, series_parallel_no, series_parallel_source, series_parallel_tool, series_parallel_yes}
use Rattle.cmr_classes.specs.SeriesParallel as decides
use Rattle.decompositions_exist.proofs.NotExcluded.{one_of_two}
use Rattle.reports_exist.proofs.MinimalReports.{asked_exists}
use Rattle.reports_exist.proofs.TextReports.{HasReport, on_matrix}

decided : (o : SeriesParallelOrder) (m : Matrix) → HasReport (SeriesParallelDecides o m)
decided o m none = one_of_two (IsSeriesParallel o.binary m) (λ either. elim either [
  | inl is ↦ none (series_parallel_yes o m, decides.yes is refl)
  | inr lacks ↦ asked_exists (IsSeriesParallel o.binary) m (λ rows columns greedy. greedy_set o.binary m rows columns lacks greedy) o.minimal (λ found.
      none (series_parallel_no o m found.0, decides.no found.0 (record { lacks = lacks; asked = found.1 }) refl))
])

pub series_parallel_has_report : (o : SeriesParallelOrder) (texts : List (List ℕ)) → length texts ≡ 1 → HasReport ((series_parallel_tool o).Reports texts)
series_parallel_has_report o = on_matrix (series_parallel_source o) (SeriesParallelDecides o) (λ bytes m e. decided o m)
