-- The numbers of lines that a sum has less than its two matrices.
use Rattle.std.proofs.Common.{◌≡◌, ◌+◌, ◌-◌, ◌∙◌, ◌*ℤ◌, ℕ, ℤ, Bool, true, false, map, arith}
use Rattle.std.proofs.lemmas.List.{length-map}
use Rattle.std.proofs.lemmas.List.FromFn.{length-range_with_len}
use Rattle.cmr_base.specs.Matrix.{Matrix, height, entry}
use Rattle.cmr_base.specs.LineSets.{first_lines}
use Rattle.cmr_base.specs.Separations.{zeros}
use Rattle.cmr_base.specs.MatrixSums.{HaveCornerSum, connecting_columns, connecting_rows, core_block, corner_sum, filled, four_blocks, sum_along}
use Rattle.compose.specs.declared.sum_kind.SumKind.{SumKind}
use Rattle.compose.specs.declared.sum_kind.SumKind.TheVariants.{One, Two, Delta, YForm, Mixed, Concentrated}
use Rattle.compose.specs.SumKinds.{HaveSum, LosesColumns, LosesRows, SumsLoseLines}

filled_height : (m n : ℕ) (entries : ℕ → ℕ → ℤ) → height (filled m n entries) ≡ m
filled_height m n entries = length-map (first_lines m) (λ row. map (entries row) (first_lines n)) ∙ length-range_with_len 0 m

corner_height : (first_flat second_flat : Bool) (f s : Matrix) → HaveCornerSum first_flat second_flat f s
    → height (corner_sum first_flat second_flat f s) + (connecting_rows second_flat + connecting_rows first_flat) ≡ height f + height s
corner_height first_flat second_flat f s have =
    let e = filled_height ((height f - connecting_rows second_flat) + (height s - connecting_rows first_flat))
    ((f.width - connecting_columns second_flat) + (s.width - connecting_columns first_flat))
    (sum_along first_flat (height f - connecting_rows second_flat) (f.width - connecting_columns second_flat) (entry f) (entry s)) in
    let one = have.first_rows in
    let two = have.second_rows in
    omega arith

corner_width : (first_flat second_flat : Bool) (f s : Matrix) → HaveCornerSum first_flat second_flat f s
    → (corner_sum first_flat second_flat f s).width + (connecting_columns second_flat + connecting_columns first_flat) ≡ f.width + s.width
corner_width first_flat second_flat f s have = let one = have.first_columns in let two = have.second_columns in omega arith

rows_lost : (kind : SumKind) (f s : Matrix) → HaveSum kind f s → LosesRows kind f s
rows_lost One f s have = let e = filled_height (height f + height s) (f.width + s.width) (four_blocks (height f) f.width 0 0 (entry f) zeros zeros (entry s)) in omega arith
rows_lost Two f s have =
    let e = filled_height (height f + (height s - 1)) ((f.width - 1) + s.width) (four_blocks (height f) (f.width - 1) 1 0 (entry f) (λ r c. entry f r (f.width - 1) *ℤ entry s 0 c) zeros (entry s)) in
    let row = have.row in
    omega arith
rows_lost Delta f s have = corner_height true true f s have
rows_lost YForm f s have = corner_height false false f s have
rows_lost Mixed f s have = corner_height true false f s have
rows_lost Concentrated f s have =
    let e = filled_height ((height f - 2) + (height s - 1)) ((f.width - 1) + (s.width - 2))
    (four_blocks (height f - 2) (f.width - 1) 1 2 (entry f) zeros (core_block (height f - 3) (entry f) (entry s)) (entry s)) in
    let one = have.first_rows in
    let two = have.second_rows in
    omega arith

columns_lost : (kind : SumKind) (f s : Matrix) → HaveSum kind f s → LosesColumns kind f s
columns_lost One f s have = omega arith
columns_lost Two f s have = let column = have.column in omega arith
columns_lost Delta f s have = corner_width true true f s have
columns_lost YForm f s have = corner_width false false f s have
columns_lost Mixed f s have = corner_width true false f s have
columns_lost Concentrated f s have = let one = have.first_columns in let two = have.second_columns in omega arith

pub sums_lose_lines : SumsLoseLines
sums_lose_lines kind f s have = (rows_lost kind f s have, columns_lost kind f s have)
