-- The numbers of a side from the numbers for its rows and for its columns.
use Rattle.std.proofs.Common.{ℕ, Bool, List, true, false, cond, ◌≡◌, ◌<◌, ◌≤◌, ◌⊎◌, ◌∙◌, sym, ap, refl, subst, length, slice_index_or}
use Rattle.cmr_base.specs.BitSets.{Bits}
use Rattle.cmr_base.specs.declared.line.Line.{Line}
use Rattle.cmr_base.specs.declared.line.Line.TheVariants.{Row, Column}
use Rattle.cmr_base.specs.declared.line_mask.LineMask.{LineMask}
use Rattle.cmr_base.specs.ColumnSets.{has_column}
use Rattle.cmr_base.specs.LineMasks.{as_set, IsMaskOf}
use Rattle.cmr_base.specs.Matrix.{Matrix, height, transposed, IsMatrix}
use Rattle.cmr_base.specs.Trees.{support}
use Rattle.cmr_base.proofs.Booleans.{is_lt, is_not_lt, not_both}
use Rattle.cmr_base.proofs.Parts.{height-transposed}
use Rattle.cuts.specs.declared.line_patterns.LinePatterns.{LinePatterns}
use Rattle.cuts.specs.declared.numbered_set.NumberedSet.{NumberedSet}
use Rattle.cuts.specs.Classes.{AreClassNumbers, AreNumbers, is_in_heap}
use Rattle.cuts.specs.Patterns.{AreAtMostBeside}
use Rattle.cuts.specs.CutSides.{HasSetNumbers, columns_heap, heap_of, rows_heap}
use Rattle.cuts.proofs.ClassLemmas.{of_columns, of_rows}

-- the numbers of a copy
pub numbers_at : (m m' : Matrix) (numbered : NumberedSet) (set : Bits) (numbers : List ℕ) → m' ≡ m → numbered.set ≡ set → numbered.numbers.items ≡ numbers
    → set.size ≡ height m → length numbers ≡ m.width → AreNumbers (support m) m.width set.words numbers → HasSetNumbers m' numbered
numbers_at m m' numbered set numbers em es en size long h = subst (λ (z : Matrix). HasSetNumbers z numbered) (sym em) (record {
  set_size = ap (λ (s : Bits). s.size) es ∙ size;
  size = ap length en ∙ long;
  numbers = subst (λ (s : Bits). AreNumbers (support m) m.width s.words numbered.numbers.items) (sym es) (subst (λ (v : List ℕ). AreNumbers (support m) m.width set.words v) (sym en) h);
})

-- the sizes and the numbers of a side with these rows and columns
abbrev pub AreSideNumbers : Matrix → (rows columns : NumberedSet) → Type 0
AreSideNumbers m rows columns = IsMaskOf m (record { rows = rows.set; columns = columns.set }) × AreClassNumbers m columns.set.words columns.numbers.items × AreClassNumbers (transposed m) rows.set.words rows.numbers.items

pub side_numbered : (m by_rows by_columns : Matrix) (rows columns : NumberedSet) → IsMatrix m → by_rows ≡ m → by_columns ≡ transposed m
    → HasSetNumbers by_rows rows → HasSetNumbers by_columns columns → AreSideNumbers m rows columns
side_numbered m by_rows by_columns rows columns is er ec has_rows has_columns =
    let one : HasSetNumbers m rows = subst (λ (z : Matrix). HasSetNumbers z rows) er has_rows in
    let two : HasSetNumbers (transposed m) columns = subst (λ (z : Matrix). HasSetNumbers z columns) ec has_columns in (
      record { rows = one.set_size; columns = two.set_size ∙ height-transposed m },
      of_rows m columns.set.words columns.numbers.items (height m) is refl two.numbers,
      of_columns m rows.set.words rows.numbers.items is one.numbers,
    )

-- each row of a set is in the copied set or among the further rows
pub grown_rows : (before copied further after : Bits) → copied ≡ before → ((x : ℕ) → has_column after.words x ≡ true → (has_column copied.words x ≡ true) ⊎ (has_column further.words x ≡ true))
    → (x : ℕ) → has_column after.words x ≡ true → (has_column before.words x ≡ true) ⊎ (has_column further.words x ≡ true)
grown_rows before copied further after e h x t = subst (λ (s : Bits). (has_column s.words x ≡ true) ⊎ (has_column further.words x ≡ true)) e (h x t)

pub grown_lines : (before further after : LineMask) → ((x : ℕ) → has_column after.rows.words x ≡ true → (has_column before.rows.words x ≡ true) ⊎ (has_column further.rows.words x ≡ true))
    → ((x : ℕ) → has_column after.columns.words x ≡ true → (has_column before.columns.words x ≡ true) ⊎ (has_column further.columns.words x ≡ true))
    → (x : Line) → as_set after x ≡ true → (as_set before x ≡ true) ⊎ (as_set further x ≡ true)
grown_lines before further after rows columns (Row r) t = rows r t
grown_lines before further after rows columns (Column c) t = columns c t

-- ---- heaps

-- the rows of a heap, and no columns
pub rows_in_heap : (patterns : LinePatterns) (inside : Bool) (lines : LineMask) (classes : List ℕ)
    → patterns.columns.heaps.lighter ≤ patterns.rows.heaps.lighter → classes ≡ patterns.side.now.row_numbers.items
    → ((c : ℕ) → has_column lines.columns.words c ≡ false)
    → ((r : ℕ) → has_column lines.rows.words r ≡ true → is_in_heap patterns.rows.heaps (slice_index_or classes r 0) inside ≡ true) → (x : Line)
    → as_set lines x ≡ true → heap_of patterns inside x ≡ true
rows_in_heap patterns inside lines classes by_rows ec none rows x t =
    ap (λ (b : Bool). cond b (columns_heap patterns.columns.heaps patterns.side.now.column_numbers.items inside) (rows_heap patterns.rows.heaps patterns.side.now.row_numbers.items inside) x) (is_not_lt patterns.rows.heaps.lighter patterns.columns.heaps.lighter by_rows)
    ∙ ap (λ (v : List ℕ). rows_heap patterns.rows.heaps v inside x) (sym ec) ∙ in_rows x t
  where
    in_rows : (x : Line) → as_set lines x ≡ true → rows_heap patterns.rows.heaps classes inside x ≡ true
    in_rows (Row r) t = rows r t
    in_rows (Column c) t = absurd (not_both (has_column lines.columns.words c) t (none c))

-- the columns of a heap, and no rows
pub columns_in_heap : (patterns : LinePatterns) (inside : Bool) (lines : LineMask) (classes : List ℕ)
    → patterns.rows.heaps.lighter < patterns.columns.heaps.lighter → classes ≡ patterns.side.now.column_numbers.items
    → ((r : ℕ) → has_column lines.rows.words r ≡ false)
    → ((c : ℕ) → has_column lines.columns.words c ≡ true → is_in_heap patterns.columns.heaps (slice_index_or classes c 0) inside ≡ true) → (x : Line)
    → as_set lines x ≡ true → heap_of patterns inside x ≡ true
columns_in_heap patterns inside lines classes by_columns ec none columns x t =
    ap (λ (b : Bool). cond b (columns_heap patterns.columns.heaps patterns.side.now.column_numbers.items inside) (rows_heap patterns.rows.heaps patterns.side.now.row_numbers.items inside) x) (is_lt patterns.rows.heaps.lighter patterns.columns.heaps.lighter by_columns)
    ∙ ap (λ (v : List ℕ). columns_heap patterns.columns.heaps v inside x) (sym ec) ∙ in_columns x t
  where
    in_columns : (x : Line) → as_set lines x ≡ true → columns_heap patterns.columns.heaps classes inside x ≡ true
    in_columns (Column c) t = columns c t
    in_columns (Row r) t = absurd (not_both (has_column lines.rows.words r) t (none r))

-- ---- patterns

pub beside : (own own' : Bits) (classes classes' : List ℕ) (most : ℕ) → own ≡ own' → classes ≡ classes' → AreAtMostBeside own classes most → AreAtMostBeside own' classes' most
beside own own' classes classes' most eo ec h = subst (λ (s : Bits). AreAtMostBeside s classes' most) eo (subst (λ (v : List ℕ). AreAtMostBeside own v most) ec h)
