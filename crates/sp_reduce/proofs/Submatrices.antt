-- The lines of a matrix and those of its submatrices.
use Rattle.std.proofs.Common.{◌≡◌, ◌↔◌, [], ◌<◌, ◌+◌, ◌∙◌, inl, ℕ, Bool, ℤ, pos, ◌*ℤ◌, List, length, map, get_or, refl, ap, ap₂, sym, subst, arith}
use Rattle.std.specs.List.Sorted.{IsStrictlyIncreasing}
use Rattle.std.proofs.lemmas.List.{length-map}
use Rattle.std.proofs.lemmas.List.FromFn.{length-range_with_len}
use Rattle.cmr_base.specs.Matrix.{Matrix, height, entry}
use Rattle.cmr_base.specs.LineSets.{IsRowSet, IsColumnSet, first_lines, submatrix}
use Rattle.cmr_base.specs.Reductions.{IsSeriesParallel, IsSeriesParallelOn, removal_on}
use Rattle.cmr_base.proofs.Integers.{products}
use Rattle.cmr_base.proofs.Parts.{entry-submatrix}
use Rattle.cmr_base.specs.Members.{IsIn}
use Rattle.cmr_base.proofs.Members.{IsWithin}
use Rattle.cmr_base.proofs.ListsWithout.{in-get_or, increasing_distinct, same_place, place_of, place_is}
use Rattle.cmr_base.proofs.RemovedLines.{first_lines_increase, in_first_lines, first_lines_in}
use Rattle.cmr_base.proofs.GreedyLemmas.{IsInherited, greedy_set_minimal}
use Rattle.sp_reduce.specs.Laws.{SubmatricesAreSeriesParallel, RestDecides, GreedySetIsMinimal}
use Rattle.sp_reduce.proofs.Embeddings.{Embeds, series_parallel-embeds, series_parallel-within}
use Rattle.sp_reduce.proofs.Orders.{series_parallel_from_rest, rest_from_series_parallel}

plain : (z w : ℤ) → z ≡ w → z ≡ (pos 1 *ℤ pos 1) *ℤ w
plain z w e = e ∙ one w
  where
    one : (z : ℤ) → z ≡ (pos 1 *ℤ pos 1) *ℤ z
    one z = simp products

submatrix_embeds : (binary : Bool) (m : Matrix) (R C : List ℕ) → IsStrictlyIncreasing R → IsStrictlyIncreasing C
    → Embeds binary (entry (submatrix m R C)) (entry m) (first_lines (length R)) (first_lines (length C)) R C
submatrix_embeds binary m R C r c = record {
  row = λ i. get_or R i 0;
  column = λ j. get_or C j 0;
  row_factor = λ i. pos 1;
  column_factor = λ j. pos 1;
  rows_in = λ i h. in-get_or R i (first_lines_in (length R) i h);
  columns_in = λ j h. in-get_or C j (first_lines_in (length C) j h);
  row_once = λ i k h g e. same_place R i k (increasing_distinct R r) (first_lines_in (length R) i h) (first_lines_in (length R) k g) e;
  column_once = λ i k h g e. same_place C i k (increasing_distinct C c) (first_lines_in (length C) i h) (first_lines_in (length C) k g) e;
  row_factors = λ i. inl refl;
  column_factors = λ j. inl refl;
  same = λ i j h g. plain (entry (submatrix m R C) i j) (entry m (get_or R i 0) (get_or C j 0)) (entry-submatrix m R C i j (first_lines_in (length R) i h) (first_lines_in (length C) j g));
}

embeds_submatrix : (binary : Bool) (m : Matrix) (R C : List ℕ) → Embeds binary (entry m) (entry (submatrix m R C)) R C (first_lines (length R)) (first_lines (length C))
embeds_submatrix binary m R C = record {
  row = λ i. place_of i R;
  column = λ j. place_of j C;
  row_factor = λ i. pos 1;
  column_factor = λ j. pos 1;
  rows_in = λ i h. in_first_lines (length R) (place_of i R) (place_is i R h).in_range;
  columns_in = λ j h. in_first_lines (length C) (place_of j C) (place_is j C h).in_range;
  row_once = λ i k h g e. once R i k h g e;
  column_once = λ i k h g e. once C i k h g e;
  row_factors = λ i. inl refl;
  column_factors = λ j. inl refl;
  same = λ i j h g.
      let v = place_is i R h in
      let w = place_is j C g in
      plain (entry m i j) (entry (submatrix m R C) (place_of i R) (place_of j C))
      (sym (entry-submatrix m R C (place_of i R) (place_of j C) v.in_range w.in_range ∙ ap₂ (entry m) v.there w.there));
}
  where
    once : (xs : List ℕ) (i k : ℕ) → IsIn i xs → IsIn k xs → place_of i xs ≡ place_of k xs → i ≡ k
    once xs i k h g e = sym (place_is i xs h).there ∙ ap (λ (p : ℕ). get_or xs p 0) e ∙ (place_is k xs g).there

height-submatrix : (m : Matrix) (R C : List ℕ) → height (submatrix m R C) ≡ length R
height-submatrix m R C = length-map R (λ row. map (entry m row) C)

-- some lines can all be removed if and only if the submatrix on them is series-parallel
pub submatrix_from_lines : (binary : Bool) (m : Matrix) (R C : List ℕ) → IsStrictlyIncreasing R → IsStrictlyIncreasing C
    → IsSeriesParallelOn binary (entry m) R C → IsSeriesParallel binary (submatrix m R C)
submatrix_from_lines binary m R C r c sp = subst (λ (n : ℕ). IsSeriesParallelOn binary (entry (submatrix m R C)) (first_lines n) (first_lines (length C))) (sym (height-submatrix m R C))
    (series_parallel-embeds binary (entry (submatrix m R C)) (entry m) sp.0 (first_lines (length R)) (first_lines (length C)) R C (first_lines_increase (length R)) (first_lines_increase (length C)) (submatrix_embeds binary m R C r c) sp.1)

pub lines_from_submatrix : (binary : Bool) (m : Matrix) (R C : List ℕ) → IsStrictlyIncreasing R → IsStrictlyIncreasing C
    → IsSeriesParallel binary (submatrix m R C) → IsSeriesParallelOn binary (entry m) R C
lines_from_submatrix binary m R C r c sp =
    let v = subst (λ (n : ℕ). IsSeriesParallelOn binary (entry (submatrix m R C)) (first_lines n) (first_lines (length C))) (height-submatrix m R C) sp in
    series_parallel-embeds binary (entry m) (entry (submatrix m R C)) v.0 R C (first_lines (length R)) (first_lines (length C)) r c (embeds_submatrix binary m R C) v.1

pub row_set_within : (m : Matrix) (rows : List ℕ) → IsRowSet m rows → IsWithin rows (first_lines (height m))
row_set_within m rows is x h = let w = place_is x rows h in in_first_lines (height m) x (subst (λ (y : ℕ). y < height m) w.there (is.in_range (place_of x rows) w.in_range))

pub column_set_within : (m : Matrix) (columns : List ℕ) → IsColumnSet m columns → IsWithin columns (first_lines m.width)
column_set_within m columns is x h = let w = place_is x columns h in in_first_lines m.width x (subst (λ (y : ℕ). y < m.width) w.there (is.in_range (place_of x columns) w.in_range))

pub submatrices : SubmatricesAreSeriesParallel
submatrices binary m rows columns is js sp =
    submatrix_from_lines binary m rows columns is.increasing js.increasing
    (series_parallel-within binary (entry m) (first_lines (height m)) (first_lines m.width) rows columns is.increasing js.increasing (row_set_within m rows is) (column_set_within m columns js) sp)

all_lines_few : (m : Matrix) → length (first_lines (height m)) + length (first_lines m.width) ≡ height m + m.width
all_lines_few m = ap₂ (λ (a b : ℕ). a + b) (length-range_with_len 0 (height m)) (length-range_with_len 0 m.width)

pub any_order : RestDecides
any_order binary m = (
  (λ sp. rest_from_series_parallel binary (entry m) (height m + m.width) (first_lines (height m)) (first_lines m.width) (let e = all_lines_few m in omega (arith, e)) (first_lines_increase (height m)) (first_lines_increase m.width) sp),
  (λ e. series_parallel_from_rest binary (entry m) (height m + m.width) (first_lines (height m)) (first_lines m.width) e.0 e.1),
)

pub series_parallel_inherited : (binary : Bool) (m : Matrix) → IsInherited (IsSeriesParallel binary) m
series_parallel_inherited binary m R C A B r c a b within_rows within_columns sp =
    submatrix_from_lines binary m A B a b (series_parallel-within binary (entry m) R C A B a b within_rows within_columns (lines_from_submatrix binary m R C r c sp))

pub greedy_set : GreedySetIsMinimal
greedy_set binary m rows columns lack g =
    greedy_set_minimal (IsSeriesParallel binary) m (series_parallel_inherited binary m) rows columns
    (λ sp. lack (lines_from_submatrix binary m (first_lines (height m)) (first_lines m.width) (first_lines_increase (height m)) (first_lines_increase m.width) sp)) g

-- ---- the submatrix on some lines, by the stated order

pub rest_decides : (binary : Bool) (m : Matrix) (R C : List ℕ) → IsStrictlyIncreasing R → IsStrictlyIncreasing C
    → (((removal_on binary (entry m) (length R + length C) R C).rows ≡ []) × ((removal_on binary (entry m) (length R + length C) R C).columns ≡ [])) ↔ IsSeriesParallel binary (submatrix m R C)
rest_decides binary m R C r c = (
  (λ e. submatrix_from_lines binary m R C r c (series_parallel_from_rest binary (entry m) (length R + length C) R C e.0 e.1)),
  (λ sp. rest_from_series_parallel binary (entry m) (length R + length C) R C (omega arith) r c (lines_from_submatrix binary m R C r c sp)),
)
