-- `generate` has a report.
use Rattle.std.proofs.Common.{◌≡◌, ◌≤◌, ◌+◌, ◌-◌, ℕ, zero, suc, ℤ, pos, ◌*ℤ◌, Bool, true, false, cond, nat_lt, List, [], ◌∷◌, get_or, refl, sym, subst, arith}
use Rattle.std.specs.List.{AllByRecursion}
use Rattle.cmr_base.specs.Draws.{draws}
use Rattle.cmr_base.specs.Matrix.{HasTernaryEntries, IsEntry, IsMatrix, IsRectangular, Matrix, entry, height}
use Rattle.cmr_base.specs.MatrixSums.{four_blocks, two_sum}
use Rattle.cmr_base.specs.Separations.{zeros}
use Rattle.cmr_base.proofs.FilledCells.{filled_small}
use Rattle.cmr_base.proofs.Integers.{sums}
use Rattle.cmr_base.proofs.Lists.{all_at}
use Rattle.cmr_base.proofs.SmallEntries.{entry_at, product_is_entry, zero_is_entry}
use Rattle.generate.specs.declared.making.MakeKind.{MakeKind}
use Rattle.generate.specs.declared.making.MakeKind.TheVariants.{Network, TwoSum}
use Rattle.generate.specs.Generated.{circulant, circulant_sum, generated_network, generated_sum, IsGenerated}
use Rattle.generate.proofs.JoinedRows.{IsRow, all_negated_rows, length-negated_rows, matrix_rows, sum_height, sum_width}
use Rattle.generate.proofs.RandomTrees.{is_network}
use Rattle.generate.proofs.SumRows.{circulant_rows}
use Rattle.cmr_unimodular.specs.Generate.{GenerateOrder, IsInRange, IsMade, generate_report, generate_tool, generate_verdict}
use Rattle.cmr_unimodular.proofs.GenerateAnswers.{size_low, sum_size_low}
use Rattle.reports_exist.proofs.NetworkMatrices.{network_height, network_is_matrix, network_matrix, network_reproduces, network_width}
use Rattle.reports_exist.proofs.TextReports.{HasReport}
use Rattle.reports_exist.proofs.UnimodularReports.{verdict_has_report}
use Rattle.pivots.proofs.PartLaws.{rectangular_filled}

-- ---- matrices of rows

rows_small : (width : ℕ) (rows : List (List ℤ)) → AllByRecursion (IsRow width) rows → (row column : ℕ) → IsEntry (get_or (get_or rows row []) column (pos 0))
rows_small width [] all row column = zero_is_entry
rows_small width (first ∷ rows) all zero column = entry_at first all.0.small column
rows_small width (first ∷ rows) all (suc row) column = rows_small width rows all.1 row column

matrix_of_rows : (m : Matrix) → AllByRecursion (IsRow m.width) m.rows → height m ≤ 1000 → m.width ≤ 1000 → IsMatrix m
matrix_of_rows m all rows columns = record {
  rectangular = λ row l. (all_at (IsRow m.width) m.rows row [] all l).long;
  small = rows_small m.width m.rows all;
  height_in = rows;
  width_in = columns;
}

-- ---- sums of circulants

circulant_is_matrix : IsMatrix circulant
circulant_is_matrix = matrix_of_rows circulant circulant_rows (omega arith) (omega arith)

blocks_small : (m n up left : ℕ) (first right below second : ℕ → ℕ → ℤ) → ((r c : ℕ) → IsEntry (first r c)) → ((r c : ℕ) → IsEntry (right r c))
    → ((r c : ℕ) → IsEntry (below r c)) → ((r c : ℕ) → IsEntry (second r c))
    → (r c : ℕ) → IsEntry (four_blocks m n up left first right below second r c)
blocks_small m n up left first right below second f g h s r c = go (nat_lt r m) (nat_lt c n)
  where
    go : (a b : Bool) → IsEntry (cond a (cond b (first r c) (right r (left + (c - n)))) (cond b (below (up + (r - m)) c) (second (up + (r - m)) (left + (c - n)))))
    go true true = f r c
    go true false = g r (left + (c - n))
    go false true = h (up + (r - m)) c
    go false false = s (up + (r - m)) (left + (c - n))

two_sum_small : (m n : Matrix) → HasTernaryEntries m → HasTernaryEntries n → HasTernaryEntries (two_sum m n)
two_sum_small m n f s =
    filled_small (height m + (height n - 1)) ((m.width - 1) + n.width) (four_blocks (height m) (m.width - 1) 1 0 (entry m) (λ r c. entry m r (m.width - 1) *ℤ entry n 0 c) zeros (entry n))
    (blocks_small (height m) (m.width - 1) 1 0 (entry m) (λ r c. entry m r (m.width - 1) *ℤ entry n 0 c) zeros (entry n) f (λ r c. product_is_entry (entry m r (m.width - 1)) (entry n 0 c) (f r (m.width - 1)) (s 0 c)) (λ r c. zero_is_entry) s)

sum_small : (k : ℕ) → HasTernaryEntries (circulant_sum k)
sum_small zero = circulant_is_matrix.small
sum_small (suc zero) = circulant_is_matrix.small
sum_small (suc (suc k)) = two_sum_small (circulant_sum (suc k)) circulant (sum_small (suc k)) circulant_is_matrix.small

sum_rectangular : (k : ℕ) → IsRectangular (circulant_sum k)
sum_rectangular zero = circulant_is_matrix.rectangular
sum_rectangular (suc zero) = circulant_is_matrix.rectangular
sum_rectangular (suc (suc k)) = rectangular_filled _ _ _

sum_is_matrix : (k : ℕ) → 1 ≤ k → k ≤ 249 → IsMatrix (circulant_sum k)
sum_is_matrix k some few =
    let high = sum_height k some in
    let wide = sum_width k some in
    record { rectangular = sum_rectangular k; small = sum_small k; height_in = omega (arith, high, few); width_in = omega (arith, wide, few) }

generated_is_matrix : (size number : ℕ) → 1 ≤ size → size ≤ 249 → IsMatrix (generated_sum size number)
generated_is_matrix size number some few =
    let m = circulant_sum size in
    let is = sum_is_matrix size some few in
    let signs = (draws (height m) 2 0 number).0 in
    let rows = length-negated_rows m.rows signs in
    let high = is.height_in in
    matrix_of_rows (generated_sum size number) (all_negated_rows m.width m.rows signs (matrix_rows m is)) (omega (arith, rows, high)) is.width_in

-- ---- the tool

module _ (o : GenerateOrder) (range : IsInRange o) where
  made : (what : MakeKind) → o.what ≡ what → (m : Matrix) × IsMade o m
  made Network e =
      let is = is_network o.size o.number in
      let low = size_low o.what o.size range.size in
      let m = network_matrix (generated_network o.size o.number) o.size o.size is in (
        m,
        record {
          generated = subst (λ what. IsGenerated what o.size o.number m) (sym e)
              (network_height (generated_network o.size o.number) o.size o.size is, network_width (generated_network o.size o.number) o.size o.size is, network_reproduces (generated_network o.size o.number) o.size o.size is);
          is_matrix = network_is_matrix (generated_network o.size o.number) o.size o.size is low low;
        },
      )
  made TwoSum e = (
    generated_sum o.size o.number,
    record { generated = subst (λ what. IsGenerated what o.size o.number (generated_sum o.size o.number)) (sym e) refl; is_matrix = generated_is_matrix o.size o.number range.positive (sum_size_low o.what o.size range.size e) },
  )

  pub generate_has_report : (texts : List (List ℕ)) → HasReport ((generate_tool o).Reports texts)
  generate_has_report texts none =
      let m = made o.what refl in
      verdict_has_report (generate_verdict o) m.0 range.budget m.1.is_matrix (λ tested.
      none (generate_report o m.0 tested.0, record { made = m.0; is_made = m.1; tested = tested.0; verdict = tested.1; report_is = refl }))
