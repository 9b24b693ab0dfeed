-- Closed sets, and cuts with their sides exchanged.
use Rattle.std.proofs.Common.{ℕ, ℤ, true, false, not, ◌≡◌, ◌<◌, ap, arith}
use Rattle.cmr_base.specs.declared.line.Line.TheVariants.{Row, Column}
use Rattle.cmr_base.specs.LineSets.{first_lines}
use Rattle.cmr_base.specs.Matrix.{Matrix, height, entry}
use Rattle.cmr_base.specs.Separations.{AreEnough, Lines, count_lines_in, opposite}
use Rattle.cmr_base.specs.Seeds.{IsClosed}
use Rattle.cmr_base.proofs.Booleans.{not_is, not_false, not_not}
use Rattle.cmr_base.proofs.LineCounts.{count_same, inside_is}
use Rattle.cmr_base.proofs.ListedLines.{contains_first_lines}
use Rattle.cuts.specs.declared.corners.Corners.{Corners}
use Rattle.cuts.specs.LineCuts.{IsCut}

-- ---- closed sets

-- an entry between the sides
pub upper_at : {upper lower : ℕ → ℕ → ℤ} {S : Lines} (m : Matrix) → IsClosed (height m) m.width (entry m) upper lower S → (r c : ℕ) → r < height m → c < m.width
    → S (Row r) ≡ true → S (Column c) ≡ false → entry m r c ≡ upper r c
upper_at m closed r c lr lc er ec = closed.upper r c (contains_first_lines (height m) r lr) (contains_first_lines m.width c lc) er ec

pub lower_at : {upper lower : ℕ → ℕ → ℤ} {S : Lines} (m : Matrix) → IsClosed (height m) m.width (entry m) upper lower S → (r c : ℕ) → r < height m → c < m.width
    → S (Row r) ≡ false → S (Column c) ≡ true → entry m r c ≡ lower r c
lower_at m closed r c lr lc er ec = closed.lower r c (contains_first_lines (height m) r lr) (contains_first_lines m.width c lc) er ec

-- ---- the sides exchanged

pub other_closed : {upper lower : ℕ → ℕ → ℤ} (m : Matrix) (T : Lines) → IsClosed (height m) m.width (entry m) upper lower T → IsClosed (height m) m.width (entry m) lower upper (opposite T)
other_closed m T closed = record {
  upper = λ r c hr hc er ec. closed.lower r c hr hc (not_is (T (Row r)) er) (not_false (T (Column c)) ec);
  lower = λ r c hr hc er ec. closed.upper r c hr hc (not_false (T (Row r)) er) (not_is (T (Column c)) ec);
}

pub other_enough : (m : Matrix) (T : Lines) (least : ℕ) → AreEnough (first_lines (height m)) (first_lines m.width) T least → AreEnough (first_lines (height m)) (first_lines m.width) (opposite T) least
other_enough m T least enough = record { one = enough.two; two = let a = twice in let b = enough.one in omega arith }
  where
    twice : count_lines_in (opposite (opposite T)) (first_lines (height m)) (first_lines m.width) ≡ count_lines_in T (first_lines (height m)) (first_lines m.width)
    twice =
        let a = inside_is (height m) m.width (opposite (opposite T)) in
        let b = inside_is (height m) m.width T in
        let r = count_same (λ x. not (not (T (Row x)))) (λ x. T (Row x)) (height m) (λ x l. not_not (T (Row x))) in
        let c = count_same (λ x. not (not (T (Column x)))) (λ x. T (Column x)) m.width (λ x l. not_not (T (Column x))) in
        omega arith

abbrev exchanged : Corners → Corners
exchanged c = record { one = c.two; two = c.one }

pub other_is_cut : (m : Matrix) (T : Lines) → IsCut m T → IsCut m (opposite T)
other_is_cut m T w = record {
  corners = exchanged w.corners;
  are_inside = record { row_one = w.are_inside.row_two; column_one = w.are_inside.column_two; row_two = w.are_inside.row_one; column_two = w.are_inside.column_one };
  upper = w.lower;
  lower = w.upper;
  cut = record {
    closed = other_closed m T w.cut.closed;
    row_one = ap not w.cut.row_two;
    column_one = ap not w.cut.column_two;
    row_two = ap not w.cut.row_one;
    column_two = ap not w.cut.column_one;
    enough = other_enough m T 4 w.cut.enough;
  };
}
