-- The pivot of a submatrix in its place is the pivot of the submatrix as a matrix of its own.
use Rattle.std.proofs.Common.{◌≡◌, ◌<◌, ◌↔◌, ◌∙◌, ◌*ℤ◌, ◌-ℤ◌, neg_ℤ, ℕ, Bool, cond, ℤ, List, [], length, map, get_or, Contains, eqb, eqb-true, ap, ap₂, sym, refl, subst, arith}
use Rattle.std.proofs.lemmas.Bool.{eq-eqb}
use Rattle.std.proofs.lemmas.List.{get_or_default, get_or-map, length-map}
use Rattle.std.proofs.lemmas.List.Elements.{Contains-get_or}
use Rattle.std.specs.List.Sorted.{IsStrictlyIncreasing}
use Rattle.cmr_base.specs.declared.line_set.LineSet.{LineSet}
use Rattle.cmr_base.specs.LineSets.{IsRowSet, IsColumnSet, submatrix}
use Rattle.cmr_base.specs.Matrix.{Matrix, height, entry, IsEntry, HasTernaryEntries, IsRectangular, IsTernary}
use Rattle.cmr_base.specs.Signing.{IsSign, IsTotallyUnimodular}
use Rattle.cmr_base.proofs.Booleans.{same_test}
use Rattle.cmr_base.proofs.FilledCells.{filled_small}
use Rattle.cmr_base.proofs.ListsWithout.{increasing_distinct, same_place}
use Rattle.cmr_base.proofs.Parts.{entry-submatrix, each-submatrix}
use Rattle.cmr_base.proofs.SignEntries.{zero_is_entry, sign_of_entry}
use Rattle.cmr_base.specs.PlacedPivots.{pivot_entry, replaced_entry, pivoted_part, IsPlaceIn, IsTernaryPivot}
use Rattle.ghouila.specs.PivotLaws.{pivot_at, IsPivotPlace}
use Rattle.ghouila.proofs.PivotLaws.{filled_again, pivot_entry_same, pivots_decide}
use Rattle.cmr_base.specs.declared.position.Position.{Position}
use Rattle.pivots.specs.PartLaws.{numbered_place, PartPivotsArePivots, PartPivotsDecide}
use Rattle.pivots.proofs.PartLaws.{entry_among, replaced_is_small}

-- ---- lines by their places

-- two positions are equal if and only if the lines at them are
test_of_places : (lines : List ℕ) (x y : ℕ) → IsStrictlyIncreasing lines → x < length lines → y < length lines → eqb x y ≡ eqb (get_or lines x 0) (get_or lines y 0)
test_of_places lines x y increasing hx hy = same_test (eqb x y) (eqb (get_or lines x 0) (get_or lines y 0))
    (λ e. eq-eqb (get_or lines x 0) (get_or lines y 0) (ap (λ k. get_or lines k 0) (eqb-true x y e)))
    (λ e. eq-eqb x y (same_place lines x y (increasing_distinct lines increasing) hx hy (eqb-true (get_or lines x 0) (get_or lines y 0) e)))

-- an entry of a pivot, with the lines by their places
entry_by_places : (M : ℕ → ℕ → ℤ) (f g : ℕ → ℕ) (r c i j : ℕ) → eqb i r ≡ eqb (f i) (f r) → eqb j c ≡ eqb (g j) (g c)
    → pivot_entry (λ i j. M (f i) (g j)) r c i j ≡ pivot_entry M (f r) (g c) (f i) (g j)
entry_by_places M f g r c i j rows columns =
    ap₂ (λ (s t : Bool). cond s (cond t (M (f r) (g c)) (M (f r) (g c) *ℤ M (f r) (g j))) (cond t (neg_ℤ (M (f r) (g c) *ℤ M (f i) (g c))) (M (f i) (g j) -ℤ M (f r) (g c) *ℤ (M (f i) (g c) *ℤ M (f r) (g j))))) rows columns

-- the place of a line of a list
placed : (lines : List ℕ) (x : ℕ) → Contains lines x → (k : ℕ) × (k < length lines) × (get_or lines k 0 ≡ x)
placed lines x (k, l, e) = (k, l, get_or_default lines k 0 x l ∙ e)

-- ---- the submatrix after the pivot

module _ (m : Matrix) (lines : LineSet) (is_rows : IsRowSet m lines.rows) (is_columns : IsColumnSet m lines.columns) where
  -- the submatrix of a matrix
  abbrev part_of : Matrix → Matrix
  part_of n = submatrix n lines.rows lines.columns

  part_height : (n : Matrix) → height (part_of n) ≡ length lines.rows
  part_height n = length-map lines.rows (λ row. map (entry n row) lines.columns)

  part_rectangular : (n : Matrix) → IsRectangular (part_of n)
  part_rectangular n row inside =
      ap length (get_or-map (λ r. map (entry n r) lines.columns) lines.rows row 0 [] (let e = part_height n in omega (arith, e, inside)))
      ∙ length-map lines.columns (entry n (get_or lines.rows row 0))

  pub pivot_of_part : (row column : ℕ) → row < length lines.rows → column < length lines.columns → part_of (pivoted_part m lines (numbered_place lines row column)) ≡ pivot_at (part_of m) row column
  pivot_of_part row column row_in column_in =
      filled_again (part_of (pivoted_part m lines place)) (height (part_of m)) (length lines.columns) (pivot_entry (entry (part_of m)) row column)
      (part_rectangular (pivoted_part m lines place)) (part_height (pivoted_part m lines place) ∙ sym (part_height m)) refl
      (λ i j hi hj. same i j (let e = part_height m in omega (arith, e, hi)) hj)
    where
      place : Position
      place = numbered_place lines row column

      same : (i j : ℕ) → i < length lines.rows → j < length lines.columns
          → entry (part_of (pivoted_part m lines (numbered_place lines row column))) i j ≡ pivot_entry (entry (part_of m)) row column i j
      same i j hi hj =
          entry-submatrix (pivoted_part m lines (numbered_place lines row column)) lines.rows lines.columns i j hi hj
          ∙ entry_among m lines (numbered_place lines row column) is_rows is_columns (get_or lines.rows i 0) (get_or lines.columns j 0) (Contains-get_or lines.rows i 0 hi) (Contains-get_or lines.columns j 0 hj)
          ∙ sym (entry_by_places (entry m) (λ k. get_or lines.rows k 0) (λ k. get_or lines.columns k 0) row column i j
          (test_of_places lines.rows i row is_rows.increasing hi row_in) (test_of_places lines.columns j column is_columns.increasing hj column_in))
          ∙ sym (pivot_entry_same (entry (part_of m)) (λ i j. entry m (get_or lines.rows i 0) (get_or lines.columns j 0)) row column i j
          (entry-submatrix m lines.rows lines.columns row column row_in column_in) (entry-submatrix m lines.rows lines.columns i column hi column_in)
          (entry-submatrix m lines.rows lines.columns row j row_in hj) (entry-submatrix m lines.rows lines.columns i j hi hj))

  -- ---- total unimodularity

  module _ (small : HasTernaryEntries m) (place : Position) (place_in : IsPlaceIn m lines place) where
    abbrev after : Matrix
    after = pivoted_part m lines place

    -- the pivot of the submatrix has the entries of the pivot in its place
    ternary_pivot : HasTernaryEntries (part_of after) → IsTernaryPivot m lines place
    ternary_pivot each i j hi hj =
        let p = placed lines.rows i hi in
        let q = placed lines.columns j hj in
        subst IsEntry (entry-submatrix after lines.rows lines.columns p.0 q.0 p.1 q.1 ∙ ap₂ (λ (r c : ℕ). entry after r c) p.2 q.2 ∙ entry_among m lines place is_rows is_columns i j hi hj) (each p.0 q.0)

    ternary_part : IsTernaryPivot m lines place → HasTernaryEntries (part_of after)
    ternary_part ternary = each-submatrix IsEntry after lines.rows lines.columns zero_is_entry (filled_small (height m) m.width (replaced_entry m lines place) (replaced_is_small m lines place small ternary))

    pub part_decides : IsTotallyUnimodular (part_of m) ↔ (IsTernaryPivot m lines place × IsTotallyUnimodular (part_of after))
    part_decides = go (placed lines.rows place.row place_in.row) (placed lines.columns place.column place_in.column)
      where
        go : (k : ℕ) × (k < length lines.rows) × (get_or lines.rows k 0 ≡ place.row) → (l : ℕ) × (l < length lines.columns) × (get_or lines.columns l 0 ≡ place.column)
            → IsTotallyUnimodular (part_of m) ↔ (IsTernaryPivot m lines place × IsTotallyUnimodular (part_of after))
        go (k, row_in, e) (l, column_in, f) = (
          λ unimodular.
              let pivoted = law.0 unimodular in
              (ternary_pivot (subst HasTernaryEntries (sym same) pivoted.0), subst IsTotallyUnimodular (sym same) pivoted.1),
          λ pivoted. law.1 (subst HasTernaryEntries same (ternary_part pivoted.0), subst IsTotallyUnimodular same pivoted.1),
        )
          where
            here : numbered_place lines k l ≡ place
            here = ap₂ (λ (r c : ℕ). let made : Position = record { row = r; column = c } in made) e f

            same : part_of (pivoted_part m lines place) ≡ pivot_at (part_of m) k l
            same = ap (λ (p : Position). part_of (pivoted_part m lines p)) (sym here) ∙ pivot_of_part k l row_in column_in

            is_place : IsPivotPlace (part_of m) k l
            is_place = record {
              row_in = let h = part_height m in omega (arith, h, row_in);
              column_in = column_in;
              nonzero = subst IsSign (sym (entry-submatrix m lines.rows lines.columns k l row_in column_in ∙ ap₂ (λ (r c : ℕ). entry m r c) e f)) (sign_of_entry (entry m place.row place.column) (small place.row place.column) place_in.nonzero);
            }

            is_ternary : IsTernary (part_of m)
            is_ternary = record { rectangular = part_rectangular m; small = each-submatrix IsEntry m lines.rows lines.columns zero_is_entry small }

            law : IsTotallyUnimodular (part_of m) ↔ (HasTernaryEntries (pivot_at (part_of m) k l) × IsTotallyUnimodular (pivot_at (part_of m) k l))
            law = pivots_decide (part_of m) k l is_ternary is_place

pub part_pivots_are_pivots : PartPivotsArePivots
part_pivots_are_pivots m lines row column is_rows is_columns row_in column_in = pivot_of_part m lines is_rows is_columns row column row_in column_in

pub part_pivots_decide : PartPivotsDecide
part_pivots_decide m lines place small is_rows is_columns place_in = part_decides m lines is_rows is_columns small place place_in
