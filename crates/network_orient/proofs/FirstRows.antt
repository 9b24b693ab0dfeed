-- First rows that are the first rows of a matrix without violator have no cycle fault. Conversely, first rows without fault are
-- the first rows of such a matrix with their support.
use Rattle.std.proofs.Common.{zero, suc, [], ◌∷◌, refl, ◌≡◌, ◌≢◌, ◌<◌, ◌≤◌, ◌↔◌, ◌⊎◌, inl, inr, ◌∙◌, ℕ, ℤ, pos, ◌*ℤ◌, List, get_or, ap, sym, subst, arith}
use Rattle.std.specs.List.{AllByRecursion}
use Rattle.std.proofs.lemmas.Bool.{cases_lt}
use Rattle.std.proofs.lemmas.List.{get_or_past}
use Rattle.cmr_base.specs.declared.network.Network.{Network}
use Rattle.cmr_base.specs.CyclePlaces.{HasNoCycleFault, IsFaultAt, IsPath, cycle_columns, cycle_rows, path_rows}
use Rattle.cmr_base.specs.Matrix.{Matrix, height, entry, row_of, transposed, IsEntry, IsMatrix, IsRectangular, IsTernary}
use Rattle.cmr_base.specs.MatrixSums.{filled}
use Rattle.cmr_base.specs.Signing.{IsSign}
use Rattle.cmr_base.specs.Sums.{IsTwoModFour, sum_over}
use Rattle.cmr_base.specs.Supports.{AgreeUpToSigns, HaveOneSupport}
use Rattle.cmr_base.specs.Trees.{Reproduces}
use Rattle.cmr_base.specs.Violator.{HasNoViolator}
use Rattle.cmr_base.proofs.FilledMatrices.{height-filled, entry-filled}
use Rattle.cmr_base.proofs.Integers.{mul_left_comm, mul-zero, sums}
use Rattle.cmr_base.proofs.Lists.{all_of}
use Rattle.cmr_base.proofs.SumLaws.{sum_over_same}
use Rattle.cmr_base.proofs.TransposedLemmas.{column_set_from_transposed, row_set_from_transposed, violator_from_transposed}
use Rattle.ghouila.proofs.Minors.{entry_by_sign, sign_twice}
use Rattle.ghouila.proofs.NetworkSignings.{network_matrices}
use Rattle.ghouila.proofs.SignsAgree.{signs_agree}
use Rattle.ghouila.proofs.SignsUnique.{column_in, no_violator_no_fault, row_in, violator_up_to_signs}
use Rattle.network_orient.specs.FirstRows.{HasNoFaultBefore}
use Rattle.network_orient.specs.SignedGroups.{AgreeBefore, AreSignedGroups, sign_of}
use Rattle.network_orient.proofs.Orientations.{beyond_sizes}
use Rattle.network_orient.proofs.SignedSupports.{filled_is_ternary}
use Rattle.network_orient.proofs.SignedRows.{AreRowsMultiplied}

-- ---- a cycle place depends only on the rows up to its own

module _ (M N : ℕ → ℕ → ℤ) (count : ℕ) (agree : (r x : ℕ) → r < count → M r x ≡ N r x) where
  nonzero_on : (r x : ℕ) → r < count → M r x ≢ pos 0 → N r x ≢ pos 0
  nonzero_on r x l nonzero e = nonzero (agree r x l ∙ e)

  path_on : (t c d : ℕ) (lines : List ℕ) → t < count → IsPath M t c d lines → IsPath N t c d lines
  path_on t c d [] l p = p
  path_on t c d (r ∷ []) l (low, one, two) = (low, nonzero_on r c (omega arith) one, nonzero_on r d (omega arith) two)
  path_on t c d (r ∷ j ∷ lines) l (low, one, two, none, rest) =
      (low, nonzero_on r c (omega arith) one, nonzero_on r j (omega arith) two, sym (agree t j l) ∙ none, path_on t j d lines l rest)

  rows_low : (t c d : ℕ) (lines : List ℕ) → t < count → IsPath M t c d lines → AllByRecursion (λ r. r < count) (path_rows lines)
  rows_low t c d [] l p = tt
  rows_low t c d (r ∷ []) l (low, one, two) = (omega arith, tt)
  rows_low t c d (r ∷ j ∷ lines) l (low, one, two, none, rest) = (omega arith, rows_low t j d lines l rest)

  sums_on : (columns rows : List ℕ) → AllByRecursion (λ r. r < count) rows → AllByRecursion (λ r. sum_over columns (M r) ≡ sum_over columns (N r)) rows
  sums_on columns [] low = tt
  sums_on columns (r ∷ rows) (l, low) = (sum_over_same columns (M r) (N r) (all_of (λ x. M r x ≡ N r x) (λ x. agree r x l) columns), sums_on columns rows low)

pub fault_on : (M N : ℕ → ℕ → ℤ) (count : ℕ) → ((r x : ℕ) → r < count → M r x ≡ N r x) → (t c d : ℕ) (path : List ℕ) → t < count → IsFaultAt M t c d path → IsFaultAt N t c d path
fault_on M N count agree t c d path l f =
    let back : (r x : ℕ) → r < count → N r x ≡ M r x = λ r x k. sym (agree r x k) in
    let columns = cycle_columns c d path in
    record {
      place = record {
        order = f.place.order;
        first = nonzero_on M N count agree t c l f.place.first;
        last = nonzero_on M N count agree t d l f.place.last;
        is_path = path_on M N count agree t c d path l f.place.is_path;
        least = λ other p. f.place.least other (path_on N M count back t c d other l p);
      };
      two_mod_four = subst IsTwoModFour
          (sum_over_same (cycle_rows t path) (λ row. sum_over columns (M row)) (λ row. sum_over columns (N row))
          (sums_on M N count agree columns (cycle_rows t path) (l, rows_low M N count agree t c d path l f.place.is_path)))
          f.two_mod_four;
    }

-- ---- the matrix without violator that has these first rows

sign_at : (signs : List ℤ) → AllByRecursion IsSign signs → (k : ℕ) → IsSign (get_or signs k (pos 1))
sign_at [] all k = inl refl
sign_at (s ∷ signs) (here, all) zero = here
sign_at (s ∷ signs) (here, all) (suc k) = sign_at signs all k

past_width : (m : Matrix) → IsRectangular m → (row column : ℕ) → row < height m → m.width ≤ column → entry m row column ≡ pos 0
past_width m is row column l past = get_or_past (row_of m row) column (pos 0) (let e = is row l in omega (arith, e, past))

signed_twice : (s t z : ℤ) → IsSign s → IsSign t → z ≡ s *ℤ (t *ℤ (s *ℤ (t *ℤ z)))
signed_twice s t z u v = sym (ap (λ (x : ℤ). s *ℤ x) (mul_left_comm t s (t *ℤ z)) ∙ sign_twice s (t *ℤ (t *ℤ z)) u ∙ sign_twice t z v)

signed_zero : (s t x y : ℤ) → x ≡ pos 0 → y ≡ pos 0 → x ≡ s *ℤ (t *ℤ y)
signed_zero s t x y e f = e ∙ sym (ap (λ (z : ℤ). s *ℤ (t *ℤ z)) f ∙ ap (λ (z : ℤ). s *ℤ z) (mul-zero t) ∙ mul-zero s)

module _ (m n : Matrix) (is_m : IsMatrix m) (is_n : IsMatrix n) (height_same : height m ≡ height n) (width_same : m.width ≡ n.width) (no_violator : HasNoViolator m) where
  pub first_rows_free : (groups : List ℕ) (count : ℕ) (rows columns : List ℤ) → AreSignedGroups m n (height m) groups columns
      → AreRowsMultiplied m n count rows columns → count ≤ height m → HasNoFaultBefore n count
  first_rows_free groups count rows columns signed multiplied fits t c d path l fault = free t c d path (fault_on (entry n) (entry whole) count agree t c d path l fault)
    where
      entries : ℕ → ℕ → ℤ
      entries row column = sign_of rows row *ℤ (sign_of columns column *ℤ entry m row column)

      whole : Matrix
      whole = filled (height m) m.width entries

      same : height whole ≡ height m
      same = height-filled (height m) m.width entries

      is_whole : IsTernary whole
      is_whole = filled_is_ternary (height m) m.width entries (λ row column. entry_by_sign (sign_of rows row) (sign_of columns column *ℤ entry m row column) (sign_at rows multiplied.row_signs row) (entry_by_sign (sign_of columns column) (entry m row column) (signed.each_sign column) (is_m.small row column)))

      multiplied_back : (row column : ℕ) → (row < height m) ⊎ (height m ≤ row) → (column < m.width) ⊎ (m.width ≤ column)
          → entry m row column ≡ sign_of rows row *ℤ (sign_of columns column *ℤ entry whole row column)
      multiplied_back row column (inl low) (inl near) =
          signed_twice (sign_of rows row) (sign_of columns column) (entry m row column) (sign_at rows multiplied.row_signs row) (signed.each_sign column)
          ∙ ap (λ (z : ℤ). sign_of rows row *ℤ (sign_of columns column *ℤ z)) (sym (entry-filled (height m) m.width entries row column low near))
      multiplied_back row column (inr high) far =
          signed_zero (sign_of rows row) (sign_of columns column) (entry m row column) (entry whole row column) (beyond_sizes m is_m.rectangular row column (inl high)) (beyond_sizes whole is_whole.rectangular row column (inl (omega (arith, high, same))))
      multiplied_back row column low (inr far) =
          signed_zero (sign_of rows row) (sign_of columns column) (entry m row column) (entry whole row column) (beyond_sizes m is_m.rectangular row column (inr far)) (beyond_sizes whole is_whole.rectangular row column (inr far))

      agreement : AgreeUpToSigns (entry whole) (entry m)
      agreement = record {
        row_sign = sign_of rows;
        column_sign = sign_of columns;
        row_signs = sign_at rows multiplied.row_signs;
        column_signs = signed.each_sign;
        entries = λ row column. multiplied_back row column (cases_lt row (height m)) (cases_lt column m.width);
      }

      free : HasNoCycleFault (entry whole)
      free = no_violator_no_fault whole is_whole.rectangular is_whole.small
          (λ R C row_set column_set violator. no_violator R C (record { increasing = row_set.increasing; in_range = λ k h. let low = row_set.in_range k h in omega (arith, low, same) }) (record { increasing = column_set.increasing; in_range = column_set.in_range }) (violator_up_to_signs (entry whole) (entry m) R C agreement violator))

      agree : (r x : ℕ) → r < count → entry n r x ≡ entry whole r x
      agree r x k = elim (cases_lt x m.width) [
        | inl near ↦ multiplied.multiplied r k x near ∙ sym (entry-filled (height m) m.width entries r x (omega arith) near)
        | inr past ↦ past_width n is_n.rectangular r x (omega arith) (omega arith) ∙ sym (past_width whole is_whole.rectangular r x (omega (arith, same, k, fits)) past)
      ]

-- ---- first rows without fault

-- the entries of the first `count` rows, and zeros below
abbrev first_entry : (ℕ → ℕ → ℤ) → (count row column : ℕ) → (row < count) ⊎ (count ≤ row) → ℤ
first_entry M count row column (inl l) = M row column
first_entry M count row column (inr l) = pos 0

abbrev first_rows : (ℕ → ℕ → ℤ) → ℕ → ℕ → ℕ → ℤ
first_rows M count row column = first_entry M count row column (cases_lt row count)

first_rows_same : (M : ℕ → ℕ → ℤ) (count row column : ℕ) → row < count → first_rows M count row column ≡ M row column
first_rows_same M count row column low = go (cases_lt row count)
  where
    go : (k : (row < count) ⊎ (count ≤ row)) → first_entry M count row column k ≡ M row column
    go (inl l) = refl
    go (inr l) = absurd (omega (arith, low, l))

first_rows_low : (M : ℕ → ℕ → ℤ) (count row column : ℕ) → first_rows M count row column ≢ pos 0 → row < count
first_rows_low M count row column = go (cases_lt row count)
  where
    go : (k : (row < count) ⊎ (count ≤ row)) → first_entry M count row column k ≢ pos 0 → row < count
    go (inl l) nonzero = l
    go (inr l) nonzero = absurd (nonzero refl)

first_rows_nonzero : (M : ℕ → ℕ → ℤ) (count row column : ℕ) → first_rows M count row column ≢ pos 0 → M row column ≢ pos 0
first_rows_nonzero M count row column nonzero zero_there = nonzero (first_rows_same M count row column (first_rows_low M count row column nonzero) ∙ zero_there)

first_rows_small : (M : ℕ → ℕ → ℤ) (count row column : ℕ) → IsEntry (M row column) → IsEntry (first_rows M count row column)
first_rows_small M count row column small = go (cases_lt row count)
  where
    go : (k : (row < count) ⊎ (count ≤ row)) → IsEntry (first_entry M count row column k)
    go (inl l) = small
    go (inr l) = record { low = omega (arith, sums); high = omega (arith, sums) }

first_rows_zeros : (M N : ℕ → ℕ → ℤ) (count row column : ℕ) → (M row column ≡ pos 0) ↔ (N row column ≡ pos 0) → (first_rows M count row column ≡ pos 0) ↔ (first_rows N count row column ≡ pos 0)
first_rows_zeros M N count row column same = go (cases_lt row count)
  where
    go : (k : (row < count) ⊎ (count ≤ row)) → (first_entry M count row column k ≡ pos 0) ↔ (first_entry N count row column k ≡ pos 0)
    go (inl l) = same
    go (inr l) = ((λ e. refl), (λ e. refl))

first_rows_clean : (m : Matrix) (count : ℕ) → HasNoFaultBefore m count → HasNoCycleFault (first_rows (entry m) count)
first_rows_clean m count clean t c d path fault =
    let low = first_rows_low (entry m) count t c fault.place.first in
    clean t c d path low (fault_on (first_rows (entry m) count) (entry m) count (first_rows_same (entry m) count) t c d path low fault)

-- first rows without fault agree up to signs with the first rows of a matrix without fault
first_rows_agree : (m n : Matrix) (count : ℕ) → IsMatrix m → IsMatrix n → HaveOneSupport m n → HasNoFaultBefore m count → HasNoFaultBefore n count → AgreeBefore (entry m) (entry n) count
first_rows_agree m n count is_m is_n one clean_m clean_n = record {
  row_sign = agreement.row_sign;
  column_sign = agreement.column_sign;
  row_signs = agreement.row_signs;
  column_signs = agreement.column_signs;
  entries = λ row column low.
      sym (first_rows_same (entry n) count row column low) ∙ agreement.entries row column
      ∙ ap (λ (z : ℤ). agreement.row_sign row *ℤ (agreement.column_sign column *ℤ z)) (first_rows_same (entry m) count row column low);
}
  where
    agreement : AgreeUpToSigns (first_rows (entry m) count) (first_rows (entry n) count)
    agreement = signs_agree (first_rows (entry m) count) (first_rows (entry n) count)
        (λ row column. first_rows_small (entry m) count row column (is_m.small row column))
        (λ row column. first_rows_small (entry n) count row column (is_n.small row column))
        (λ row column. first_rows_zeros (entry m) (entry n) count row column (one.zeros_same row column))
        (first_rows_clean m count clean_m) (first_rows_clean n count clean_n) (height m) m.width
        (λ row column nonzero.
        let there = first_rows_nonzero (entry m) count row column nonzero in
        (row_in m row column there, column_in m row column is_m.rectangular there))

-- if they do not agree, one of them has a fault
pub faulty_where_apart : (m n : Matrix) (count : ℕ) → IsMatrix m → IsMatrix n → HaveOneSupport m n → ¬ (AgreeBefore (entry m) (entry n) count) → HasNoViolator m → ¬ (HasNoFaultBefore n count)
faulty_where_apart m n count is_m is_n one apart free clean =
    apart (first_rows_agree m n count is_m is_n one (λ t c d path low. no_violator_no_fault m is_m.rectangular is_m.small free t c d path) clean)

-- the transpose of a matrix that a network reproduces has no violator
pub none_in_transposed : (net : Network) (m other : Matrix) → IsMatrix m → Reproduces net m → other ≡ transposed m → HasNoViolator other
none_in_transposed net m other is reproduced e = subst HasNoViolator (sym e) (λ rows columns row_set column_set violator.
    (network_matrices m is (net, reproduced)).1 columns rows (row_set_from_transposed m columns column_set) (column_set_from_transposed m rows row_set) (violator_from_transposed m columns rows is violator))
