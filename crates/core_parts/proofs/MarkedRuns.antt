-- Runs of nonzeros in marked lines.
use Rattle.std.proofs.Common.{◌≡◌, ◌<◌, ◌+◌, ◌++◌, ◌∙◌, cond, map, take, ℕ, Bool, true, false, List, [], ◌∷◌, length, get_or, ap}
use Rattle.std.proofs.lemmas.List.{append-nil, length-map, take_more}
use Rattle.std.proofs.lemmas.List.Elements.{filter-append}
use Rattle.cmr_base.specs.Matrix.{height}
use Rattle.cmr_base.specs.LineSets.{first_lines}
use Rattle.sparse_matrix.specs.declared.nonzero.Nonzero.{Nonzero}
use Rattle.sparse_matrix.specs.LineMarks.{is_marked}
use Rattle.sparse_matrix.specs.SparseRows.{SparseRows, matrix_of_runs, value_in}
use Rattle.sparse_matrix.proofs.MarkedLines.{no_nonzero}
use Rattle.core_parts.specs.PartRuns.{marked_run}

pub height_of_runs : (m : SparseRows) → height (matrix_of_runs m) ≡ length m.runs
height_of_runs m = length-map m.runs (λ run. map (value_in run) (first_lines m.width))

run_more : (marks : List Bool) (run : List Nonzero) (k : ℕ) → k < length run
    → marked_run marks (take (k + 1) run) ≡ marked_run marks (take k run) ++ cond (is_marked marks (get_or run k no_nonzero).line) (get_or run k no_nonzero ∷ []) []
run_more marks run k l = ap (marked_run marks) (take_more run k no_nonzero l) ∙ filter-append (λ x. is_marked marks x.line) (take k run) (get_or run k no_nonzero ∷ [])

pub run_with : (marks : List Bool) (run : List Nonzero) (k : ℕ) → k < length run → is_marked marks (get_or run k no_nonzero).line ≡ true
    → marked_run marks (take (k + 1) run) ≡ marked_run marks (take k run) ++ get_or run k no_nonzero ∷ []
run_with marks run k l h = run_more marks run k l ∙ ap (λ (b : Bool). marked_run marks (take k run) ++ cond b (get_or run k no_nonzero ∷ []) []) h

pub run_without : (marks : List Bool) (run : List Nonzero) (k : ℕ) → k < length run → is_marked marks (get_or run k no_nonzero).line ≡ false
    → marked_run marks (take (k + 1) run) ≡ marked_run marks (take k run)
run_without marks run k l h = run_more marks run k l ∙ ap (λ (b : Bool). marked_run marks (take k run) ++ cond b (get_or run k no_nonzero ∷ []) []) h
    ∙ append-nil (marked_run marks (take k run))
