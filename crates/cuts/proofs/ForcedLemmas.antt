-- Forced lines: a cut has them on one side, since each is unlike a line of the other side.
use Rattle.std.proofs.Common.{ℕ, true, false, not, List, ◌≡◌, ◌≢◌, ◌∙◌, ap, subst, inl, inr, get_or}
use Rattle.cmr_base.specs.declared.line.Line.{Line}
use Rattle.cmr_base.specs.declared.line.Line.TheVariants.{Row, Column}
use Rattle.cmr_base.specs.ColumnSets.{has_column}
use Rattle.cmr_base.specs.Matrix.{Matrix, height, IsMatrix}
use Rattle.cmr_base.specs.Separations.{Lines, opposite}
use Rattle.cmr_base.proofs.Booleans.{two_cases, not_both, not_is}
use Rattle.cmr_base.specs.declared.line_mask.LineMask.{LineMask}
use Rattle.cmr_base.specs.LineMasks.{as_set}
use Rattle.cuts.specs.declared.sides.Side.{Side}
use Rattle.cuts.specs.Classes.{IsUnlikeOne}
use Rattle.cuts.specs.Covers.{AddsAtMost, AreClasses, AreOutside, AreWithin, Covers}
use Rattle.cuts.specs.LineCuts.{IsCut}
use Rattle.cuts.specs.CutSides.{HasNumbers, IsForced}
use Rattle.cuts.proofs.CoverLemmas.{column_classes, one_pattern, row_classes}
use Rattle.cuts.proofs.CutLemmas.{other_is_cut}
use Rattle.cmr_base.specs.Components.{IsLineOf}

module _ (m : Matrix) (H K T : Lines) (is : IsMatrix m) (cut : IsCut m T) (one : AreWithin m H T) (two : AreOutside m K T) where
  not_in : (z : Line) → IsLineOf m z → K z ≡ true → H z ≡ false
  not_in z l k = elim (two_cases (H z)) [
    | inl h ↦ absurd (not_both (T z) (one z l h) (two z l k))
    | inr f ↦ f
  ]

  forced_line : (line : ℕ → Line) (class : ℕ → ℕ) → AreClasses m H line class → (x k : ℕ) → IsLineOf m (line x) → IsLineOf m (line k) → K (line k) ≡ true
      → class x ≢ 0 → class k ≢ 0 → class x ≢ class k → T (line x) ≡ true
  forced_line line class classes x k lx lk hk nx nk d = elim (two_cases (T (line x))) [
    | inl t ↦ t
    | inr f ↦ elim (two_cases (H (line x))) [
      | inl h ↦ one (line x) lx h
      | inr g ↦ absurd (one_pattern m H T (line x) (line k) is cut one lx lk (classes x k lx lk g (not_in (line k) lk hk) nx nk d) f (two (line k) lk hk))
    ]
  ]

unlike_at : (size size' : ℕ) (numbers numbers' far : List ℕ) (x : ℕ) → size ≡ size' → numbers ≡ numbers' → IsUnlikeOne size numbers far x → IsUnlikeOne size' numbers' far x
unlike_at size size' numbers numbers' far x es en h = subst (λ (n : ℕ). IsUnlikeOne n numbers' far x) es (subst (λ (v : List ℕ). IsUnlikeOne size v far x) en h)

pub side_forced : (m : Matrix) (side more : Side) (lines far : LineMask) (row_size column_size : ℕ) (row_numbers column_numbers : List ℕ) → IsMatrix m
    → HasNumbers m side → HasNumbers m more → AddsAtMost m (as_set more.lines) (as_set side.lines) (as_set lines)
    → row_size ≡ side.lines.rows.size → column_size ≡ side.lines.columns.size → row_numbers ≡ side.row_numbers.items → column_numbers ≡ side.column_numbers.items
    → ((x : ℕ) → has_column lines.rows.words x ≡ true → IsUnlikeOne row_size row_numbers far.rows.words x)
    → ((x : ℕ) → has_column lines.columns.words x ≡ true → IsUnlikeOne column_size column_numbers far.columns.words x) → IsForced m side far more
side_forced m side more lines far row_size column_size row_numbers column_numbers is has numbers adds eh ew er ec unlike_row unlike_column = record {
  numbers = numbers;
  forced = λ T cut one two x l e. elim (adds x l e) [
    | inl old ↦ one x l old
    | inr new ↦ forced T cut one two x l new
  ];
}
  where
    forced : (T : Lines) → IsCut m T → AreWithin m (as_set side.lines) T → AreOutside m (as_set far) T → AreWithin m (as_set lines) T
    forced T cut one two (Row r) l e =
        let (nx, k, lk, hk, nk, d) = unlike_at row_size (height m) row_numbers side.row_numbers.items far.rows.words r (eh ∙ has.lines.rows) er (unlike_row r e) in
        forced_line m (as_set side.lines) (as_set far) T is cut one two Row (λ a. get_or side.row_numbers.items a 0) (row_classes m side.lines side.row_numbers.items is has.rows) r k l lk hk nx nk d
    forced T cut one two (Column c) l e =
        let (nx, k, lk, hk, nk, d) = unlike_at column_size m.width column_numbers side.column_numbers.items far.columns.words c (ew ∙ has.lines.columns) ec (unlike_column c e) in
        forced_line m (as_set side.lines) (as_set far) T is cut one two Column (λ a. get_or side.column_numbers.items a 0) (column_classes m side.lines side.column_numbers.items is has.columns) c k l lk hk nx nk d

-- ---- a cut that separates lines from a side separates them from the side with its forced lines

pub covers_forced : (m : Matrix) (side more : Side) (far : LineMask) (P : Lines) → IsForced m side far more → Covers m (as_set more.lines) (as_set far) P → Covers m (as_set side.lines) (as_set far) P
covers_forced m side more far P so h T w = h T (record { cut = w.cut; one = so.forced T w.cut w.one w.two; two = w.two })

-- the same for the lines of side two
pub covers_forced_beside : (m : Matrix) (side more : Side) (far : LineMask) (P : Lines) → IsForced m side far more → Covers m (as_set far) (as_set more.lines) P
    → Covers m (as_set far) (as_set side.lines) P
covers_forced_beside m side more far P so h T w = h T (record {
  cut = w.cut;
  one = w.one;
  two = λ z l e. not_is (T z) (so.forced (opposite T) (other_is_cut m T w.cut) (λ y k f. ap not (w.two y k f)) (λ y k f. ap not (w.one y k f)) z l e);
})
