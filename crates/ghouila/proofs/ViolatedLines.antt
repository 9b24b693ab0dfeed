-- Violators on some rows and columns, in which lines may be repeated.
use Rattle.std.proofs.Common.{◌≡◌, ◌<◌, ◌∙◌, ℕ, ℤ, List, [], ◌∷◌, map, length, get_or, subst, sym, ap₂, refl}
use Rattle.std.specs.List.{AllByRecursion, Contains}
use Rattle.std.proofs.lemmas.List.{get_or_default, length-map}
use Rattle.std.proofs.lemmas.List.Elements.{Contains-get_or}
use Rattle.cmr_base.specs.Sums.{sum_over, IsEven, IsTwoModFour}
use Rattle.cmr_base.specs.Matrix.{Matrix, height, entry}
use Rattle.cmr_base.specs.LineSets.{submatrix}
use Rattle.cmr_base.specs.Violator.{IsViolator, HasNoViolator}
use Rattle.cmr_base.proofs.Lists.{all_of, all_weaker, all-map, all_unmapped}
use Rattle.cmr_base.proofs.SumLaws.{sum_over-map, sum_over_same}
use Rattle.cmr_base.proofs.Parts.{entry-submatrix}
use Rattle.cmr_base.proofs.IncreasingLists.{odd_times, increases-odd_times, increasing_row_set, increasing_column_set, row_set_increases, column_set_increases, increasing_below}
use Rattle.cmr_base.proofs.ViolatorLemmas.{violator-odd_times, violator_same}

-- rows of P and columns of Q that are a violator
pub record ViolatedIn (M : ℕ → ℕ → ℤ) (P Q : ℕ → Type 0) : Type 0 where
  pub R : List ℕ
  pub C : List ℕ
  pub rows : AllByRecursion P R
  pub columns : AllByRecursion Q C
  pub violator : IsViolator M R C

-- no rows of P and columns of Q are a violator
abbrev pub FreeIn : (ℕ → ℕ → ℤ) → (ℕ → Type 0) → (ℕ → Type 0) → Type 0
FreeIn M P Q = ¬ (ViolatedIn M P Q)

pub widened : (M : ℕ → ℕ → ℤ) (P Q P' Q' : ℕ → Type 0) → ((r : ℕ) → P' r → P r) → ((c : ℕ) → Q' c → Q c) → ViolatedIn M P' Q' → ViolatedIn M P Q
widened M P Q P' Q' f g v = record { R = v.R; C = v.C; rows = all_weaker P' P f v.R v.rows; columns = all_weaker Q' Q g v.C v.columns; violator = v.violator }

pub narrower : (M : ℕ → ℕ → ℤ) (P Q P' Q' : ℕ → Type 0) → ((r : ℕ) → P' r → P r) → ((c : ℕ) → Q' c → Q c) → FreeIn M P Q → FreeIn M P' Q'
narrower M P Q P' Q' f g free v = free (widened M P Q P' Q' f g v)

-- ---- of a matrix, and of a submatrix

module _ (m : Matrix) where
  pub free_from_none : HasNoViolator m → FreeIn (entry m) (λ r. r < height m) (λ c. c < m.width)
  free_from_none none v = none (odd_times v.R) (odd_times v.C)
      (increasing_row_set m (odd_times v.R) (increases-odd_times (height m) v.R v.rows)) (increasing_column_set m (odd_times v.C) (increases-odd_times m.width v.C v.columns))
      (violator-odd_times (entry m) v.R v.C v.violator)

  pub none_from_free : FreeIn (entry m) (λ r. r < height m) (λ c. c < m.width) → HasNoViolator m
  none_from_free free rows columns is_rows is_columns violator = free (record {
    R = rows;
    C = columns;
    rows = increasing_below 0 (height m) rows (row_set_increases m rows is_rows);
    columns = increasing_below 0 m.width columns (column_set_increases m columns is_columns);
    violator = violator;
  })

-- ---- rows and columns by their positions in lists

module _ (M : ℕ → ℕ → ℤ) (f g : ℕ → ℕ) (I J : List ℕ) where
  whole : sum_over (map f I) (λ r. sum_over (map g J) (λ c. M r c)) ≡ sum_over I (λ i. sum_over J (λ j. M (f i) (g j)))
  whole = sum_over-map f I (λ r. sum_over (map g J) (λ c. M r c)) ∙ sum_over_same I (λ i. sum_over (map g J) (M (f i))) (λ i. sum_over J (λ j. M (f i) (g j))) (all_of (λ i. sum_over (map g J) (M (f i)) ≡ sum_over J (λ j. M (f i) (g j))) (λ i. sum_over-map g J (M (f i))) I)

  to_lines : IsViolator (λ i j. M (f i) (g j)) I J → IsViolator M (map f I) (map g J)
  to_lines v = record {
    even_rows = all-map (λ r. IsEven (sum_over (map g J) (λ c. M r c))) f I (all_weaker (λ i. IsEven (sum_over J (λ j. M (f i) (g j)))) (λ i. IsEven (sum_over (map g J) (λ c. M (f i) c))) (λ i h. subst IsEven (sym (sum_over-map g J (λ c. M (f i) c))) h) I v.even_rows);
    even_columns = all-map (λ c. IsEven (sum_over (map f I) (λ r. M r c))) g J (all_weaker (λ j. IsEven (sum_over I (λ i. M (f i) (g j)))) (λ j. IsEven (sum_over (map f I) (λ r. M r (g j)))) (λ j h. subst IsEven (sym (sum_over-map f I (λ r. M r (g j)))) h) J v.even_columns);
    two_mod_four = subst IsTwoModFour (sym whole) v.two_mod_four;
  }

  from_lines : IsViolator M (map f I) (map g J) → IsViolator (λ i j. M (f i) (g j)) I J
  from_lines v = record {
    even_rows = all_weaker (λ i. IsEven (sum_over (map g J) (λ c. M (f i) c))) (λ i. IsEven (sum_over J (λ j. M (f i) (g j)))) (λ i h. subst IsEven (sum_over-map g J (λ c. M (f i) c)) h) I (all_unmapped (λ r. IsEven (sum_over (map g J) (λ c. M r c))) f I v.even_rows);
    even_columns = all_weaker (λ j. IsEven (sum_over (map f I) (λ r. M r (g j)))) (λ j. IsEven (sum_over I (λ i. M (f i) (g j)))) (λ j h. subst IsEven (sum_over-map f I (λ r. M r (g j))) h) J (all_unmapped (λ c. IsEven (sum_over (map f I) (λ r. M r c))) g J v.even_columns);
    two_mod_four = subst IsTwoModFour whole v.two_mod_four;
  }

places : (rows R : List ℕ) → AllByRecursion (Contains rows) R → (I : List ℕ) × (map (λ i. get_or rows i 0) I ≡ R) × AllByRecursion (λ i. i < length rows) I
places rows [] h = ([], refl, tt)
places rows (r ∷ R) h = let more = places rows R h.1 in
    (h.0.0 ∷ more.0, ap₂ (λ (x : ℕ) (xs : List ℕ). x ∷ xs) (get_or_default rows h.0.0 0 r h.0.1 ∙ h.0.2) more.1, (h.0.1, more.2))

pairwise : (M N : ℕ → ℕ → ℤ) (P Q : ℕ → Type 0) (I J : List ℕ) → ((i j : ℕ) → P i → Q j → M i j ≡ N i j) → AllByRecursion P I → AllByRecursion Q J
    → AllByRecursion (λ i. AllByRecursion (λ j. M i j ≡ N i j) J) I
pairwise M N P Q I J same in_rows in_columns = all_weaker P (λ i. AllByRecursion (λ j. M i j ≡ N i j) J) (λ i p. all_weaker Q (λ j. M i j ≡ N i j) (λ j q. same i j p q) J in_columns) I in_rows

-- a submatrix has no violator if and only if its lines contain none
module _ (m : Matrix) (rows columns : List ℕ) where
  sub_height : height (submatrix m rows columns) ≡ length rows
  sub_height = length-map rows (λ row. map (entry m row) columns)

  pub free_from_submatrix : HasNoViolator (submatrix m rows columns) → FreeIn (entry m) (Contains rows) (Contains columns)
  free_from_submatrix none v =
      let I = places rows v.R v.rows in
      let J = places columns v.C v.columns in
      free_from_none (submatrix m rows columns) none (record {
        R = I.0;
        C = J.0;
        rows = subst (λ (n : ℕ). AllByRecursion (λ r. r < n) I.0) (sym sub_height) I.2;
        columns = J.2;
        violator = violator_same (λ i j. entry m (get_or rows i 0) (get_or columns j 0)) (entry (submatrix m rows columns)) I.0 J.0
            (pairwise (λ i j. entry m (get_or rows i 0) (get_or columns j 0)) (entry (submatrix m rows columns)) (λ i. i < length rows) (λ j. j < length columns) I.0 J.0 (λ i j p q. sym (entry-submatrix m rows columns i j p q)) I.2 J.2)
            (from_lines (entry m) (λ i. get_or rows i 0) (λ j. get_or columns j 0) I.0 J.0
            (subst (λ (xs : List ℕ). IsViolator (entry m) xs (map (λ j. get_or columns j 0) J.0)) (sym I.1) (subst (λ (xs : List ℕ). IsViolator (entry m) v.R xs) (sym J.1) v.violator)));
      })

  pub submatrix_from_free : FreeIn (entry m) (Contains rows) (Contains columns) → HasNoViolator (submatrix m rows columns)
  submatrix_from_free free = none_from_free (submatrix m rows columns) (λ v.
      let inside = subst (λ (n : ℕ). AllByRecursion (λ r. r < n) v.R) sub_height v.rows in
      free (record {
        R = map (λ i. get_or rows i 0) v.R;
        C = map (λ j. get_or columns j 0) v.C;
        rows = all-map (Contains rows) (λ i. get_or rows i 0) v.R (all_weaker (λ i. i < length rows) (λ i. Contains rows (get_or rows i 0)) (λ i l. Contains-get_or rows i 0 l) v.R inside);
        columns = all-map (Contains columns) (λ j. get_or columns j 0) v.C (all_weaker (λ j. j < length columns) (λ j. Contains columns (get_or columns j 0)) (λ j l. Contains-get_or columns j 0 l) v.C v.columns);
        violator = to_lines (entry m) (λ i. get_or rows i 0) (λ j. get_or columns j 0) v.R v.C
            (violator_same (entry (submatrix m rows columns)) (λ i j. entry m (get_or rows i 0) (get_or columns j 0)) v.R v.C
            (pairwise (entry (submatrix m rows columns)) (λ i j. entry m (get_or rows i 0) (get_or columns j 0)) (λ i. i < length rows) (λ j. j < length columns) v.R v.C (λ i j p q. entry-submatrix m rows columns i j p q) inside v.columns)
            v.violator);
      }))
