-- Nonzeros of all lines of a kind in marked crossing lines, counted row by row.
use Rattle.std.specs.Prelude.{◌≡◌, ◌<◌, ◌&&◌, ◌||◌, ◌==◌, ◌↔◌, nat_lt, if◌then◌else◌, Bool, true, false, ℕ, List, length, slice_index, slice_index_or, sum_by}
use Rattle.cmr_base.specs.Matrix.{Matrix, entry}
use Rattle.cmr_base.specs.Trees.{support}
use Rattle.cmr_base.specs.LineSets.{first_lines}
use Rattle.cmr_base.specs.Planes.{is_minus}
use Rattle.cmr_base.specs.Members.{IsIn}
use Rattle.cmr_base.specs.Reductions.{nonzeros_at}
use Rattle.sp_reduce.specs.declared.kind.LineKind.{LineKind}
use Rattle.sp_reduce.specs.declared.kind.LineKind.TheVariants.{Rows, Columns}
use Rattle.sp_reduce.specs.declared.tallies.Tallies.{Tallies}
use Rattle.sp_reduce.specs.LineKinds.{count_of_kind, cross_size, table}
use Rattle.sp_reduce.specs.StayingSides.{weight, weight_at, minus_weight_at}

-- of `size` lines, exactly these are marked
pub record AreMarks (size : ℕ) (lines : List ℕ) (marks : List Bool) : Type 0 where
  pub long : length marks ≡ size
  pub exact : (k : ℕ) → (slice_index_or marks k false ≡ true) ↔ IsIn k lines

-- the weight of each marked line, and 0 for the other lines
pub record AreWeights (marks : List Bool) (weights : List ℕ) : Type 0 where
  pub long : length weights ≡ length marks
  pub exact : (k : ℕ) → k < length marks → slice_index weights k ≡ (if slice_index_or marks k false then weight k else 0)

-- a position above the row, or in the row and before the column
abbrev pub is_before : ℕ → ℕ → ℕ → ℕ → Bool
is_before row column i j = nat_lt i row || (i == row && nat_lt j column)

-- a nonzero there
abbrev pub is_passed : Matrix → ℕ → ℕ → ℕ → ℕ → Bool
is_passed m row column i j = is_before row column i j && support m i j

-- an entry -1 there
abbrev pub is_passed_minus : Matrix → ℕ → ℕ → ℕ → ℕ → Bool
is_passed_minus m row column i j = is_passed m row column i j && is_minus (entry m i j)

-- the same of a line of the kind and a crossing line
abbrev pub by_kind : (ℕ → ℕ → Bool) → LineKind → ℕ → ℕ → Bool
by_kind test Rows line other = test line other
by_kind test Columns line other = test other line

-- the sum of the numbers of the marked positions that pass the test
abbrev pub tally : (ℕ → ℕ) → List Bool → ℕ → (ℕ → Bool) → ℕ
tally number marks size test = sum_by (λ k. if slice_index_or marks k false && test k then number k else 0) (first_lines size)

-- each column is counted, and each row that is visited
abbrev pub IsCounted : LineKind → List Bool → ℕ → Type 0
IsCounted Rows visited line = slice_index_or visited line false ≡ true
IsCounted Columns visited line = Unit {0}

-- if columns are counted, each marked row is visited
abbrev pub AreVisited : LineKind → (visited marks : List Bool) → Type 0
AreVisited Rows visited marks = Unit {0}
AreVisited Columns visited marks = (row : ℕ) → slice_index_or marks row false ≡ true → slice_index_or visited row false ≡ true

-- the rows in which the nonzeros of lines of the kind are found
abbrev pub rows_for : LineKind → (lines across : List ℕ) → List ℕ
rows_for Rows lines across = lines
rows_for Columns lines across = across

-- each counted line of the kind has the count and the weights of its nonzeros that were counted so far, and the weights of its entries -1
pub record AreTallies (m : Matrix) (kind : LineKind) (visited marks : List Bool) (row column : ℕ) (tallies : Tallies) : Type 0 where
  pub many_counts : length tallies.counts.items ≡ count_of_kind m kind
  pub many_sums : length tallies.sums.items ≡ count_of_kind m kind
  pub many_minus_sums : length tallies.minus_sums.items ≡ count_of_kind m kind
  pub counts : (line : ℕ) → line < count_of_kind m kind → IsCounted kind visited line
      → slice_index tallies.counts.items line ≡ tally (λ _. 1) marks (cross_size m kind) (by_kind (is_passed m row column) kind line)
  pub sums : (line : ℕ) → line < count_of_kind m kind → IsCounted kind visited line
      → slice_index tallies.sums.items line ≡ tally weight marks (cross_size m kind) (by_kind (is_passed m row column) kind line)
  pub minus_sums : (line : ℕ) → line < count_of_kind m kind → IsCounted kind visited line
      → slice_index tallies.minus_sums.items line ≡ tally weight marks (cross_size m kind) (by_kind (is_passed_minus m row column) kind line)

-- the first `count` of these lines have their tallies among all lines
pub record AreTalliesAt (lines : List ℕ) (count : ℕ) (all tallies : Tallies) : Type 0 where
  pub many_counts : length tallies.counts.items ≡ count
  pub many_sums : length tallies.sums.items ≡ count
  pub many_minus_sums : length tallies.minus_sums.items ≡ count
  pub counts : (at : ℕ) → at < count → slice_index tallies.counts.items at ≡ slice_index all.counts.items (slice_index lines at)
  pub sums : (at : ℕ) → at < count → slice_index tallies.sums.items at ≡ slice_index all.sums.items (slice_index lines at)
  pub minus_sums : (at : ℕ) → at < count → slice_index tallies.minus_sums.items at ≡ slice_index all.minus_sums.items (slice_index lines at)

-- each of these lines has the count and the weights of its nonzeros in these crossing lines, and the weights of its entries -1
pub record AreTalliesOf (m : Matrix) (kind : LineKind) (lines across : List ℕ) (tallies : Tallies) : Type 0 where
  pub many_counts : length tallies.counts.items ≡ length lines
  pub many_sums : length tallies.sums.items ≡ length lines
  pub many_minus_sums : length tallies.minus_sums.items ≡ length lines
  pub counts : (at : ℕ) → at < length lines → slice_index tallies.counts.items at ≡ nonzeros_at across (table (entry m) kind (slice_index lines at))
  pub sums : (at : ℕ) → at < length lines → slice_index tallies.sums.items at ≡ weight_at across (table (entry m) kind (slice_index lines at))
  pub minus_sums : (at : ℕ) → at < length lines
      → slice_index tallies.minus_sums.items at ≡ minus_weight_at across (table (entry m) kind (slice_index lines at))
