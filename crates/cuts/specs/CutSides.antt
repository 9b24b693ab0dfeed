-- Sides of a cut, with the numbers of the lines that cross them.
use Rattle.std.specs.Prelude.{◌≡◌, Bool, false, cond, nat_lt, List, ℕ, length, slice_index_or}
use Rattle.cmr_base.specs.declared.line.Line.TheVariants.{Row, Column}
use Rattle.cmr_base.specs.declared.line_mask.LineMask.{LineMask}
use Rattle.cmr_base.specs.LineMasks.{as_set, IsMaskOf}
use Rattle.cmr_base.specs.Matrix.{Matrix, height, transposed}
use Rattle.cmr_base.specs.Separations.{Lines}
use Rattle.cmr_base.specs.Trees.{support}
use Rattle.cuts.specs.declared.heaps.Heaps.{Heaps}
use Rattle.cuts.specs.declared.line_patterns.Halves.{Halves}
use Rattle.cuts.specs.declared.line_patterns.LinePatterns.{LinePatterns}
use Rattle.cuts.specs.declared.numbered_set.NumberedSet.{NumberedSet}
use Rattle.cuts.specs.declared.sides.Side.{Side}
use Rattle.cuts.specs.Classes.{AreClassNumbers, AreNumbers, is_in_heap}
use Rattle.cuts.specs.Covers.{AreOutside, AreWithin, IsHalved}
use Rattle.cuts.specs.LineCuts.{IsCut}

-- a set of rows, and the numbers of the columns for it
pub record HasSetNumbers (m : Matrix) (rows : NumberedSet) : Type 0 where
  pub set_size : rows.set.size ≡ height m
  pub size : length rows.numbers.items ≡ m.width
  pub numbers : AreNumbers (support m) m.width rows.set.words rows.numbers.items

-- numbers of the rows for the columns of the side, and of the columns for its rows
pub record HasNumbers (m : Matrix) (side : Side) : Type 0 where
  pub lines : IsMaskOf m side.lines
  pub rows : AreClassNumbers m side.lines.columns.words side.row_numbers.items
  pub columns : AreClassNumbers (transposed m) side.lines.rows.words side.column_numbers.items

-- two larger sides: a cut with the lines of the side in side one also has the lines of one larger side there
pub record AreHalves (m : Matrix) (side : Side) (halves : Halves) : Type 0 where
  pub one : HasNumbers m halves.one
  pub other : HasNumbers m halves.other
  pub halved : IsHalved m (as_set side.lines) (as_set halves.one.lines) (as_set halves.other.lines)

-- a larger side: a cut with the lines of the side in side one and the lines of `far` in side two has the lines of the larger
-- side in side one
pub record IsForced (m : Matrix) (side : Side) (far : LineMask) (more : Side) : Type 0 where
  pub numbers : HasNumbers m more
  pub forced : (T : Lines) → IsCut m T → AreWithin m (as_set side.lines) T → AreOutside m (as_set far) T → AreWithin m (as_set more.lines) T

-- ---- heaps

-- the rows with classes in one heap, or in the other
abbrev pub rows_heap : Heaps → (classes : List ℕ) → Bool → Lines
rows_heap heaps classes inside (Row r) = is_in_heap heaps (slice_index_or classes r 0) inside
rows_heap heaps classes inside (Column c) = false

abbrev pub columns_heap : Heaps → (classes : List ℕ) → Bool → Lines
columns_heap heaps classes inside (Row r) = false
columns_heap heaps classes inside (Column c) = is_in_heap heaps (slice_index_or classes c 0) inside

-- the heap of the rows or of the columns, whose lighter heap is heavier
abbrev pub heap_of : LinePatterns → Bool → Lines
heap_of patterns inside = cond (nat_lt patterns.rows.heaps.lighter patterns.columns.heaps.lighter) (columns_heap patterns.columns.heaps patterns.side.now.column_numbers.items inside)
    (rows_heap patterns.rows.heaps patterns.side.now.row_numbers.items inside)
