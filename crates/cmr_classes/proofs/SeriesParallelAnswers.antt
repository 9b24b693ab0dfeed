-- The meaning of the answers of `series-parallel` for the matrix.
use Rattle.std.proofs.Common.{◌≡◌, ◌∙◌, ℕ, ℤ, Bool, zero, suc, List, Option, Some, None, ap, sym, arith, length}
use Rattle.std.specs.Prelude.{◌+◌}
use Rattle.cmr_base.specs.declared.line.Step.{Step}
use Rattle.cmr_base.specs.Matrix.{Matrix, height, entry}
use Rattle.cmr_base.specs.LineSets.{AllBelow, first_lines}
use Rattle.cmr_base.specs.Reductions.{IsSeriesParallel, first_step, lines_of, removal, removal_on, rows_without, columns_without}
use Rattle.cmr_base.proofs.Members.{IsWithin, in_at}
use Rattle.cmr_base.proofs.RemovedLines.{rows_within, columns_within, first_lines_in}
use Rattle.cmr_base.proofs.Lists.{no_items}
use Rattle.sp_reduce.proofs.Orders.{after_step}
use Rattle.sp_reduce.proofs.Submatrices.{any_order}
use Rattle.cmr_front.specs.declared.status.Answer.{Answer}
use Rattle.cmr_front.specs.declared.status.Answer.TheVariants.{Yes, No, Undecided, Refused}
use Rattle.cmr_front.specs.Report.{Report}
use Rattle.cmr_front.specs.Status.{answer_status}
use Rattle.cmr_classes.specs.SeriesParallel.{SeriesParallelDecides, SeriesParallelMeans, yes, no, series_parallel_no, series_parallel_source, series_parallel_tool, SeriesParallelOrder}
use Rattle.cmr_front.proofs.MatrixText.{lawful}
use Rattle.cmr_front.proofs.MinimalSets.{one_minimal}
use Rattle.cmr_front.proofs.OneReports.{one_report_of_matrix}
use Rattle.cmr_front.specs.Tool.{HasOneReport, IsLawful}
use Rattle.cmr_front.proofs.Statuses.{IsAnswered, status_of}

record IsLeft (R C : List ℕ) (rows columns : List ℕ) : Type 0 where
  rows_in : IsWithin rows R
  columns_in : IsWithin columns C

-- the lines that removals leave are lines of the matrix
left : (binary : Bool) (M : ℕ → ℕ → ℤ) (n : ℕ) (R C : List ℕ) → IsLeft R C (removal_on binary M n R C).rows (removal_on binary M n R C).columns
left binary M zero R C = record { rows_in = λ x h. h; columns_in = λ x h. h }
left binary M (suc n) R C = go (λ rows columns. left binary M n rows columns) (first_step binary M R C (lines_of R C))
  where
    go : ((rows columns : List ℕ) → IsLeft rows columns (removal_on binary M n rows columns).rows (removal_on binary M n rows columns).columns)
        → (found : Option Step) → IsLeft R C (after_step binary M n R C found).rows (after_step binary M n R C found).columns
    go later None = record { rows_in = λ x h. h; columns_in = λ x h. h }
    go later (Some step) =
        let l = later (rows_without R step.line) (columns_without C step.line) in
        record { rows_in = λ x h. rows_within step.line R x (l.rows_in x h); columns_in = λ x h. columns_within step.line C x (l.columns_in x h) }

below : (count : ℕ) (lines : List ℕ) → IsWithin lines (first_lines count) → AllBelow count lines
below count lines within k h = first_lines_in count _ (within _ (in_at lines k h))

pub rest_rows_below : (binary : Bool) (m : Matrix) → AllBelow (height m) (removal binary m).rows
rest_rows_below binary m = below (height m) (removal binary m).rows (left binary (entry m) (height m + m.width) (first_lines (height m)) (first_lines m.width)).rows_in

pub rest_columns_below : (binary : Bool) (m : Matrix) → AllBelow m.width (removal binary m).columns
rest_columns_below binary m = below m.width (removal binary m).columns (left binary (entry m) (height m + m.width) (first_lines (height m)) (first_lines m.width)).columns_in

-- a matrix is series-parallel if the reductions leave no line
pub series_parallel_without_rest : (binary : Bool) (m : Matrix) (rows columns : List ℕ) → rows ≡ (removal binary m).rows → columns ≡ (removal binary m).columns
    → length rows ≡ 0 → length columns ≡ 0 → IsSeriesParallel binary m
series_parallel_without_rest binary m rows columns r c e f = (any_order binary m).1 (sym r ∙ no_items rows e, sym c ∙ no_items columns f)

-- the reductions of a series-parallel matrix leave no line
pub rest_of_series_parallel : (binary : Bool) (m : Matrix) (rows columns : List ℕ) → rows ≡ (removal binary m).rows → columns ≡ (removal binary m).columns
    → IsSeriesParallel binary m → (length rows ≡ 0) × (length columns ≡ 0)
rest_of_series_parallel binary m rows columns r c holds =
    let none = (any_order binary m).0 holds in
    (ap length (r ∙ none.0), ap length (c ∙ none.1))

-- a yes and a no exclude each other
one_status : (o : SeriesParallelOrder) (m : Matrix) (r s : Report) → SeriesParallelDecides o m r → SeriesParallelDecides o m s → r.status ≡ s.status
one_status o m r s (yes has e) (yes has' f) = status_of r _ e ∙ sym (status_of s _ f)
one_status o m r s (yes has e) (no minimal is f) = absurd (is.lacks has)
one_status o m r s (no minimal is e) (yes has f) = absurd (is.lacks has)
one_status o m r s (no minimal is e) (no minimal' is' f) = status_of r _ e ∙ sym (status_of s _ f)

says : (o : SeriesParallelOrder) (m : Matrix) (r : Report) (answer : Answer) → SeriesParallelDecides o m r → r.status ≡ answer_status answer → SeriesParallelMeans o m answer
says o m r Yes (yes has e) is = has
says o m r No (yes has e) is = let s = status_of r _ e in absurd (omega arith)
says o m r Undecided (yes has e) is = let s = status_of r _ e in absurd (omega arith)
says o m r Refused (yes has e) is = let s = status_of r _ e in absurd (omega arith)
says o m r Yes (no minimal lacks e) is = let s = status_of r _ e in absurd (omega arith)
says o m r No (no minimal lacks e) is = (minimal, lacks)
says o m r Undecided (no minimal lacks e) is = let s = status_of r _ e in absurd (omega arith)
says o m r Refused (no minimal lacks e) is = let s = status_of r _ e in absurd (omega arith)

answers : (o : SeriesParallelOrder) (m : Matrix) (r : Report) → SeriesParallelDecides o m r → IsAnswered r
answers o m r (yes has e) = (Yes, status_of r _ e)
answers o m r (no minimal lacks e) = (No, status_of r _ e)

pub series_parallel_lawful : (o : SeriesParallelOrder) → IsLawful (series_parallel_tool o)
series_parallel_lawful o = lawful (series_parallel_source o) (SeriesParallelDecides o) (SeriesParallelMeans o) (says o) (Unit {0}) (one_status o) (answers o)

one_reduction : (o : SeriesParallelOrder) (m : Matrix) (r s : Report) → SeriesParallelDecides o m r → SeriesParallelDecides o m s → r ≡ s
one_reduction o m r s (yes has e) (yes has' f) = e ∙ sym f
one_reduction o m r s (yes has e) (no minimal is f) = absurd (is.lacks has)
one_reduction o m r s (no minimal is e) (yes has f) = absurd (is.lacks has)
one_reduction o m r s (no minimal is e) (no minimal' is' f) =
    e ∙ ap (series_parallel_no o m) (one_minimal (IsSeriesParallel o.binary) m o.minimal minimal minimal' is.asked is'.asked) ∙ sym f

pub series_parallel_has_one_report : (o : SeriesParallelOrder) → HasOneReport (series_parallel_tool o)
series_parallel_has_one_report o = one_report_of_matrix (series_parallel_source o) (Unit {0}) (SeriesParallelDecides o) (SeriesParallelMeans o) (λ m is. one_reduction o m)
