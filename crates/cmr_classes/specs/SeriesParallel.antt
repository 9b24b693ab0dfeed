-- The order of the arguments of `series-parallel`, its reports, and the meaning of its answers.
use Rattle.std.specs.Prelude.{◌≡◌, ◌++◌, if◌then◌else◌, ℕ, Bool, List, [], Option, codes, ◌∷◌, Some, option_map}
use Rattle.cmr_base.specs.Matrix.{Matrix, height}
use Rattle.cmr_base.specs.Reductions.{IsSeriesParallel, removal}
use Rattle.cmr_base.specs.declared.line_set.LineSet.{LineSet}
use Rattle.sp_reduce.specs.declared.removal.Reduction.{Reduction}
use Rattle.matrix_text.specs.CanonicalMatrices.{submatrix_text}
use Rattle.cmr_front.specs.declared.status.Answer.{Answer}
use Rattle.cmr_front.specs.declared.status.Answer.TheVariants.{Yes, No, Undecided, Refused}
use Rattle.cmr_front.specs.MatrixText.{Source, matrix_tool, source}
use Rattle.cmr_front.specs.Minimal.{IsMinimalAsked, minimal_file, minimal_line}
use Rattle.cmr_front.specs.Printed.{line_set_text, steps_text}
use Rattle.cmr_front.specs.Report.{File, Report, asked_file}
use Rattle.cmr_front.specs.Status.{answer_status}
use Rattle.cmr_front.specs.Tool.{Tool}
use Rattle.clap.specs.Words.{App, Row, Text, first_of}
use Rattle.cmr_front.specs.declared.matrix_file.MatrixForm.{MatrixForm}
use Rattle.cmr_classes.specs.declared.tools.series_parallel.SpOptions.{SpOptions}
use Rattle.cmr_front.specs.Words.Arguments.{binary_rule, file_rule, form_rule, minimal_rule, rest_rule, steps_rule, tool_app}
use Rattle.cmr_front.specs.Words.Parsing.{file_in, form_in, has_flag, matches_with_input}
use Rattle.cmr_front.specs.Words.ReadWords.{◌>>=◌}

-- ---- the arguments

-- the options of `series-parallel`
pub record SeriesParallelOrder : Type 0 where
  pub form : MatrixForm
  pub binary : Bool
  pub minimal : Option (List ℕ)
  pub steps : Option (List ℕ)
  pub rest : Option (List ℕ)
  pub file : List ℕ

-- [-i FORMAT] [-b] [-N FILE] [-S FILE] [-R FILE] [FILE]
abbrev pub series_parallel_app : App
series_parallel_app = tool_app (codes "series-parallel") (form_rule ∷ binary_rule ∷ minimal_rule ∷ steps_rule ∷ rest_rule ∷ file_rule ∷ [])

abbrev pub series_parallel_order_in : List Row → Option SeriesParallelOrder
series_parallel_order_in rows = do
  form ← form_in rows
  Some (record {
    form = form;
    binary = has_flag (codes "binary") rows;
    minimal = first_of (codes "minimal") rows;
    steps = first_of (codes "steps") rows;
    rest = first_of (codes "rest") rows;
    file = file_in rows;
  })

abbrev pub series_parallel_order : List Text → Option SeriesParallelOrder
series_parallel_order words = matches_with_input series_parallel_app words >>= series_parallel_order_in

abbrev pub series_parallel_order_of : SpOptions → SeriesParallelOrder
series_parallel_order_of options = record {
  form = options.form;
  binary = options.binary;
  minimal = option_map (λ name. name.now) options.minimal;
  steps = option_map (λ name. name.now) options.steps;
  rest = option_map (λ name. name.now) options.rest;
  file = options.file.now;
}

-- ---- the reports

-- the name of the tested property
abbrev pub series_parallel_name : Bool → List ℕ
series_parallel_name binary = if binary then codes "binary series-parallel" else codes "series-parallel"

-- the lines that the reductions leave
abbrev pub rest_of : Bool → Matrix → LineSet
rest_of binary m = record { rows = (removal binary m).rows; columns = (removal binary m).columns }

-- the steps of the stated order, and the lines that they leave
pub record IsReduced (binary : Bool) (m : Matrix) (reduction : Reduction) : Type 0 where
  pub steps : reduction.steps ≡ (removal binary m).steps
  pub rows : reduction.rest.rows ≡ (removal binary m).rows
  pub columns : reduction.rest.columns ≡ (removal binary m).columns

-- the files of the steps and of the lines that they leave
abbrev pub reduction_files : SeriesParallelOrder → Matrix → List File
reduction_files o m =
    asked_file o.steps (steps_text (removal o.binary m).steps)
    ++ asked_file o.rest (submatrix_text (height m) m.width (rest_of o.binary m))

abbrev pub series_parallel_yes : SeriesParallelOrder → Matrix → Report
series_parallel_yes o m = record {
  status = answer_status Yes;
  output = series_parallel_name o.binary ++ codes ": yes\n";
  error = [];
  files = reduction_files o m;
}

abbrev pub no_output : Bool → LineSet → Option LineSet → List ℕ
no_output binary rest minimal = series_parallel_name binary ++ codes ": no\nrest " ++ line_set_text rest.rows rest.columns ++ codes "\n" ++ minimal_line minimal

abbrev pub series_parallel_no : SeriesParallelOrder → Matrix → Option LineSet → Report
series_parallel_no o m minimal = record {
  status = answer_status No;
  output = no_output o.binary (rest_of o.binary m) minimal;
  error = [];
  files = minimal_file o.minimal m minimal ++ reduction_files o m;
}

-- it is not series-parallel, and if the file of a minimal submatrix is requested, this is one
pub record IsNotSeriesParallel (o : SeriesParallelOrder) (m : Matrix) (minimal : Option LineSet) : Type 0 where
  pub lacks : ¬ IsSeriesParallel o.binary m
  pub asked : IsMinimalAsked (IsSeriesParallel o.binary) m o.minimal minimal

-- on a matrix: a yes if it is series-parallel, and otherwise a no, with the minimal submatrix if its file is requested
pub data SeriesParallelDecides (o : SeriesParallelOrder) (m : Matrix) (report : Report) : Type 0 where
  yes : IsSeriesParallel o.binary m → report ≡ series_parallel_yes o m → SeriesParallelDecides o m report
  no : (minimal : Option LineSet) → IsNotSeriesParallel o m minimal → report ≡ series_parallel_no o m minimal → SeriesParallelDecides o m report

abbrev pub SeriesParallelMeans : SeriesParallelOrder → Matrix → Answer → Type 0
SeriesParallelMeans o m Yes = IsSeriesParallel o.binary m
SeriesParallelMeans o m No = (minimal : Option LineSet) × IsNotSeriesParallel o m minimal
SeriesParallelMeans o m Undecided = ⊥
SeriesParallelMeans o m Refused = ⊥

abbrev pub series_parallel_source : SeriesParallelOrder → Source
series_parallel_source o = source o.form o.binary o.file

abbrev pub series_parallel_tool : SeriesParallelOrder → Tool
series_parallel_tool o = matrix_tool (series_parallel_source o) (Unit {0}) (SeriesParallelDecides o) (SeriesParallelMeans o)
