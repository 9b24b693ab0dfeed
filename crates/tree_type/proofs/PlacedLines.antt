-- Lines of a node as lines of the matrix.
use Rattle.std.proofs.Common.{◌<◌, ℕ, suc, List, [], ◌∷◌, length, get_or, Contains, arith}
use Rattle.std.specs.List.{AllByRecursion}
use Rattle.cmr_base.specs.declared.line_set.LineSet.{LineSet}
use Rattle.cmr_base.specs.Matrix.{Matrix, height, IsMatrix}
use Rattle.cmr_base.proofs.Lists.{all_contained}
use Rattle.cmr_base.proofs.ListsWithout.{contains_from_in, in-get_or}
use Rattle.cmr_base.proofs.Parts.{is_matrix-submatrix, length-increasing}
use Rattle.tree_type.specs.Invariant.{AreLines, AreLinesOf}
use Rattle.tree_type.specs.Soundness.{part}

pub part_is : (m : Matrix) (lines : LineSet) → IsMatrix m → AreLines m lines → IsMatrix (part m lines)
part_is m lines is are =
    let rows = length-increasing lines.rows (height m) are.rows.increasing are.rows.in_range in
    let columns = length-increasing lines.columns m.width are.columns.increasing are.columns.in_range in
    is_matrix-submatrix m lines.rows lines.columns is (let h = is.height_in in omega (arith, rows, h)) (let w = is.width_in in omega (arith, columns, w))

in_range : (xs ys : List ℕ) (high : ℕ) → ((x : ℕ) → Contains xs x → Contains ys x) → ((k : ℕ) → k < length ys → get_or ys k 0 < high) → (k : ℕ) → k < length xs → get_or xs k 0 < high
in_range xs ys high within below k l =
    let there = within (get_or xs k 0) (contains_from_in xs (get_or xs k 0) (in-get_or xs k l)) in
    all_contained (λ y. y < high) ys (get_or xs k 0) (each_below ys below) there
  where
    each_below : (zs : List ℕ) → ((k : ℕ) → k < length zs → get_or zs k 0 < high) → AllByRecursion (λ y. y < high) zs
    each_below [] h = tt
    each_below (z ∷ zs) h = (h 0 (omega arith), each_below zs (λ k l. h (suc k) (omega arith)))

pub lines_within : (m : Matrix) (child parent : LineSet) → AreLinesOf child parent → AreLines m parent → AreLines m child
lines_within m child parent h are = record {
  rows = record { increasing = h.rows_increase; in_range = in_range child.rows parent.rows (height m) h.rows are.rows.in_range };
  columns = record { increasing = h.columns_increase; in_range = in_range child.columns parent.columns m.width h.columns are.columns.in_range };
}
