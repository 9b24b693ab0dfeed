-- Runs of nonzeros in columns of a part, by their places.
use Rattle.std.specs.Prelude.{◌≡◌, ◌≢◌, filter, map, ℕ, Bool, true, List, length}
use Rattle.std.specs.List.{AllByRecursion}
use Rattle.sparse_matrix.specs.declared.nonzero.Nonzero.{Nonzero}
use Rattle.sparse_matrix.specs.LineMarks.{is_marked}
use Rattle.sparse_matrix.specs.SparseRows.{SparseRows, run_of}
use Rattle.core_parts.specs.CoreParts.{IsAtPlace, place_at}

-- the nonzeros of a run in marked lines
abbrev pub marked_run : List Bool → List Nonzero → List Nonzero
marked_run marks run = filter (λ x. is_marked marks x.line) run

-- one row has this run, and the others have what they had before
pub record HasRun (before : SparseRows) (row : ℕ) (run : List Nonzero) (after : SparseRows) : Type 0 where
  pub rows : length after.runs ≡ length before.runs
  pub width : after.width ≡ before.width
  pub here : run_of after row ≡ run
  pub others : (other : ℕ) → other ≢ row → run_of after other ≡ run_of before other

abbrev pub at_place : List ℕ → Nonzero → Nonzero
at_place places x = record { line = place_at places x.line; value = x.value }

-- the nonzeros of a run in marked lines, each at the place of its line
abbrev pub placed_run : List Bool → List ℕ → List Nonzero → List Nonzero
placed_run marks places run = map (at_place places) (marked_run marks run)

-- each marked line with a nonzero of the run is one of these lines, at its place
abbrev pub AreAtPlaces : List ℕ → List Bool → List ℕ → List Nonzero → Type 0
AreAtPlaces lines marks places run = AllByRecursion (λ x. is_marked marks x.line ≡ true → IsAtPlace lines x.line (place_at places x.line)) run
