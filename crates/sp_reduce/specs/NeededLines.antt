-- Sets of lines of which every line is needed.
use Rattle.std.specs.Prelude.{◌≡◌, ◌<◌, ℕ, Bool, List, length, slice_index}
use Rattle.cmr_base.specs.declared.line.Line.{Line}
use Rattle.cmr_base.specs.Matrix.{Matrix, entry}
use Rattle.cmr_base.specs.Reductions.{HasLine, IsSeriesParallelOn, nonzeros_at, rows_without, columns_without}
use Rattle.sp_reduce.specs.declared.kind.LineKind.{LineKind}
use Rattle.sp_reduce.specs.LineKinds.{table}

-- each of these lines has two nonzeros in these crossing lines
abbrev pub HaveTwoNonzeros : Matrix → LineKind → (own across : List ℕ) → Type 0
HaveTwoNonzeros m kind own across = (at : ℕ) → at < length own → nonzeros_at across (table (entry m) kind (slice_index own at)) ≡ 2

-- these lines without any one of them are series-parallel
abbrev pub NeedsAllLines : Bool → Matrix → (rows columns : List ℕ) → Type 0
NeedsAllLines binary m rows columns =
    (line : Line) → HasLine rows columns line → IsSeriesParallelOn binary (entry m) (rows_without rows line) (columns_without columns line)
