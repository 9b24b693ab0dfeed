-- Sums of matrices without violators have none.
use Rattle.std.proofs.Common.{◌≡◌, ◌<◌, ◌≤◌, ◌+◌, ◌-◌, ◌*ℤ◌, ℕ, ℤ, pos, Bool, true, false, sym, subst, arith}
use Rattle.cmr_base.specs.declared.separation.Form.{Form}
use Rattle.cmr_base.specs.declared.separation.Form.TheVariants.{Delta, YForm, Mixed, Concentrated}
use Rattle.cmr_base.specs.Matrix.{Matrix, height, entry}
use Rattle.cmr_base.specs.Violator.{HasNoViolator}
use Rattle.cmr_base.specs.Separations.{zeros}
use Rattle.cmr_base.specs.MatrixSums.{filled, four_blocks, one_sum, HaveTwoSum, two_sum, connecting_rows, connecting_columns, sum_along, HaveCornerSum, corner_sum, core_block, HaveConcentratedSum, concentrated_sum, HaveThreeSum, three_sum}
use Rattle.cmr_base.proofs.ViolatorLemmas.{violator_same}
use Rattle.cmr_base.proofs.Lists.{all_weaker}
use Rattle.cmr_base.proofs.FilledMatrices.{height-filled, entry-filled}
use Rattle.ghouila.proofs.ViolatedLines.{narrower, free_from_none, none_from_free}
use Rattle.ghouila.proofs.BlockSums.{Free, one_sum_free, two_sum_free, three_sum_free}
use Rattle.ghouila.proofs.ConcentratedSums.{concentrated_sum_free}

module _ (m n : ℕ) (entries : ℕ → ℕ → ℤ) where
  filled_none : Free m n entries → HasNoViolator (filled m n entries)
  filled_none free = none_from_free (filled m n entries) (λ v.
      let inside = all_weaker (λ r. r < height (filled m n entries)) (λ r. r < m) (λ r l. let e = height-filled m n entries in omega arith) v.R v.rows in
      free (record {
        R = v.R;
        C = v.C;
        rows = inside;
        columns = v.columns;
        violator = violator_same (entry (filled m n entries)) entries v.R v.C
            (all_weaker (λ r. r < m) (λ r. _) (λ r l. all_weaker (λ c. c < n) (λ c. entry (filled m n entries) r c ≡ entries r c) (λ c k. entry-filled m n entries r c l k) v.C v.columns) v.R inside) v.violator;
      }))

-- the same sizes, written differently
resized : (M : ℕ → ℕ → ℤ) (m n m' n' : ℕ) → m' ≤ m → n' ≤ n → Free m n M → Free m' n' M
resized M m n m' n' l k = narrower M (λ r. r < m) (λ c. c < n) (λ r. r < m') (λ c. c < n') (λ r h. omega arith) (λ c h. omega arith)

back_after : (m k : ℕ) → k ≤ m → (m - k) + k ≤ m
back_after m k l = omega arith

back_before : (m k : ℕ) → k ≤ m → k + (m - k) ≤ m
back_before m k l = omega arith

pub one_sums_have_none : (first second : Matrix) → HasNoViolator first → HasNoViolator second → HasNoViolator (one_sum first second)
one_sums_have_none first second free1 free2 =
    filled_none (height first + height second) (first.width + second.width) (four_blocks (height first) first.width 0 0 (entry first) zeros zeros (entry second))
    (one_sum_free (height first) first.width (height second) second.width (entry first) (entry second) (free_from_none first free1) (free_from_none second free2))

pub two_sums_have_none : (first second : Matrix) → HaveTwoSum first second → HasNoViolator first → HasNoViolator second → HasNoViolator (two_sum first second)
two_sums_have_none first second have free1 free2 =
    filled_none (height first + (height second - 1)) ((first.width - 1) + second.width)
    (four_blocks (height first) (first.width - 1) 1 0 (entry first) (λ r c. entry first r (first.width - 1) *ℤ entry second 0 c) zeros (entry second))
    (two_sum_free (height first) (first.width - 1) (height second - 1) second.width (entry first) (entry second)
    (resized (entry first) (height first) first.width (height first) ((first.width - 1) + 1) (omega arith) (back_after first.width 1 have.column) (free_from_none first free1))
    (resized (entry second) (height second) second.width (1 + (height second - 1)) second.width (back_before (height second) 1 have.row) (omega arith) (free_from_none second free2)))

corner_sums_have_none : (flat1 flat2 : Bool) (first second : Matrix) → HaveCornerSum flat1 flat2 first second → HasNoViolator first → HasNoViolator second
    → HasNoViolator (corner_sum flat1 flat2 first second)
corner_sums_have_none flat1 flat2 first second have free1 free2 =
    filled_none ((height first - connecting_rows flat2) + (height second - connecting_rows flat1)) ((first.width - connecting_columns flat2) + (second.width - connecting_columns flat1))
    (sum_along flat1 (height first - connecting_rows flat2) (first.width - connecting_columns flat2) (entry first) (entry second))
    (three_sum_free flat2 flat1 have.corner (height first - connecting_rows flat2) (first.width - connecting_columns flat2) (height second - connecting_rows flat1) (second.width - connecting_columns flat1) (entry first) (entry second)
    have.sign have.one have.two
    (resized (entry first) (height first) first.width ((height first - connecting_rows flat2) + connecting_rows flat2) ((first.width - connecting_columns flat2) + connecting_columns flat2)
    (back_after (height first) (connecting_rows flat2) have.first_rows) (back_after first.width (connecting_columns flat2) have.first_columns) (free_from_none first free1))
    (resized (entry second) (height second) second.width (connecting_rows flat1 + (height second - connecting_rows flat1)) (connecting_columns flat1 + (second.width - connecting_columns flat1))
    (back_before (height second) (connecting_rows flat1) have.second_rows) (back_before second.width (connecting_columns flat1) have.second_columns) (free_from_none second free2)))

concentrated_sums_have_none : (first second : Matrix) → HaveConcentratedSum first second → HasNoViolator first → HasNoViolator second → HasNoViolator (concentrated_sum first second)
concentrated_sums_have_none first second have free1 free2 =
    filled_none ((height first - 2) + (height second - 1)) ((first.width - 1) + (second.width - 2)) (blocks (height first - 2) (first.width - 1))
    (subst (λ (k : ℕ). Free (k + (height second - 1)) ((first.width - 1) + (second.width - 2)) (blocks k (first.width - 1))) (less_two (height first) have.first_rows)
    (subst (λ (k : ℕ). Free (((height first - 3) + 1) + (height second - 1)) (k + (second.width - 2)) (blocks ((height first - 3) + 1) k)) (less_one first.width have.first_columns)
    (concentrated_sum_free (height first - 3) (first.width - 3) (height second - 1) (second.width - 2) (entry first) (entry second)
    (let l = have.second_rows in omega arith, let l = have.second_columns in omega arith) have.core have.same
    (λ r l. subst (λ (k : ℕ). entry first r k ≡ pos 0) (sym (less_one first.width have.first_columns)) (have.above r l))
    (λ c l k. have.right c l (let w = have.second_columns in omega arith))
    (resized (entry first) (height first) first.width ((height first - 3) + 3) ((first.width - 3) + 3) (back_after (height first) 3 have.first_rows) (back_after first.width 3 have.first_columns) (free_from_none first free1))
    (resized (entry second) (height second) second.width (1 + (height second - 1)) (2 + (second.width - 2))
    (back_before (height second) 1 (let l = have.second_rows in omega arith)) (back_before second.width 2 (let l = have.second_columns in omega arith)) (free_from_none second free2)))))
  where
    blocks : ℕ → ℕ → ℕ → ℕ → ℤ
    blocks m n = four_blocks m n 1 2 (entry first) zeros (core_block (height first - 3) (entry first) (entry second)) (entry second)

    less_two : (k : ℕ) → 3 ≤ k → (k - 3) + 1 ≡ k - 2
    less_two k l = omega arith

    less_one : (k : ℕ) → 3 ≤ k → (k - 3) + 2 ≡ k - 1
    less_one k l = omega arith

pub three_sums_have_none : (form : Form) (first second : Matrix) → HaveThreeSum form first second → HasNoViolator first → HasNoViolator second → HasNoViolator (three_sum form first second)
three_sums_have_none Delta = corner_sums_have_none true true
three_sums_have_none YForm = corner_sums_have_none false false
three_sums_have_none Mixed = corner_sums_have_none true false
three_sums_have_none Concentrated = concentrated_sums_have_none
