-- Cycle places: a row and two of its columns, with the least of the shortest paths between them through earlier rows.
use Rattle.std.specs.Prelude.{◌≡◌, ◌≢◌, ◌<◌, ◌⊎◌, ◌↔◌, ℕ, ℤ, pos, ◌+ℤ◌, List, [], ◌∷◌, length}
use Rattle.cmr_base.specs.Matrix.{Matrix, entry}
use Rattle.cmr_base.specs.Members.{IsIn}
use Rattle.cmr_base.specs.LineSets.{IsRowSet, IsColumnSet}
use Rattle.cmr_base.specs.Sums.{sum_over, IsTwoModFour}

-- A path between two columns, as the list of the lines strictly between them: rows and columns alternate, and each line crosses the
-- next in a nonzero. Its rows are before row t, and row t is 0 in its inner columns.
abbrev pub IsPath : (ℕ → ℕ → ℤ) → ℕ → ℕ → ℕ → List ℕ → Type 0
IsPath M t c d [] = ⊥
IsPath M t c d (r ∷ []) = (r < t) × (M r c ≢ pos 0) × (M r d ≢ pos 0)
IsPath M t c d (r ∷ j ∷ lines) = (r < t) × (M r c ≢ pos 0) × (M r j ≢ pos 0) × (M t j ≡ pos 0) × IsPath M t j d lines

-- for lists of one length: equal to the second list, or before it in lexicographic order
abbrev pub IsNotAfter : List ℕ → List ℕ → Type 0
IsNotAfter [] ys = Unit {0}
IsNotAfter (x ∷ xs) [] = ⊥
IsNotAfter (x ∷ xs) (y ∷ ys) = (x < y) ⊎ ((x ≡ y) × IsNotAfter xs ys)

-- row t has nonzeros in two columns, and the path is the first of the shortest paths between them
pub record IsCyclePlace (M : ℕ → ℕ → ℤ) (t c d : ℕ) (path : List ℕ) : Type 0 where
  pub order : c < d
  pub first : M t c ≢ pos 0
  pub last : M t d ≢ pos 0
  pub is_path : IsPath M t c d path
  pub least : (other : List ℕ) → IsPath M t c d other → (length path < length other) ⊎ ((length path ≡ length other) × IsNotAfter path other)

-- the rows of a path
abbrev pub path_rows : List ℕ → List ℕ
path_rows [] = []
path_rows (r ∷ []) = r ∷ []
path_rows (r ∷ j ∷ lines) = r ∷ path_rows lines

-- the inner columns of a path
abbrev pub path_columns : List ℕ → List ℕ
path_columns [] = []
path_columns (r ∷ []) = []
path_columns (r ∷ j ∷ lines) = j ∷ path_columns lines

-- the sum of the entries at which a path passes from c through its lines to d
abbrev pub path_sum : (ℕ → ℕ → ℤ) → ℕ → ℕ → List ℕ → ℤ
path_sum M c d [] = pos 0
path_sum M c d (r ∷ []) = M r c +ℤ M r d
path_sum M c d (r ∷ j ∷ lines) = (M r c +ℤ M r j) +ℤ path_sum M j d lines

-- the lines of a cycle place's cycle: the lines of the path, row t and the two columns
abbrev pub cycle_rows : ℕ → List ℕ → List ℕ
cycle_rows t path = t ∷ path_rows path

abbrev pub cycle_columns : ℕ → ℕ → List ℕ → List ℕ
cycle_columns c d path = c ∷ d ∷ path_columns path

-- a cycle place whose cycle has the sum 2 modulo 4
pub record IsFaultAt (M : ℕ → ℕ → ℤ) (t c d : ℕ) (path : List ℕ) : Type 0 where
  pub place : IsCyclePlace M t c d path
  pub two_mod_four : IsTwoModFour (sum_over (cycle_rows t path) (λ row. sum_over (cycle_columns c d path) (M row)))

-- no cycle place has such a cycle
abbrev pub HasNoCycleFault : (ℕ → ℕ → ℤ) → Type 0
HasNoCycleFault M = (t c d : ℕ) (path : List ℕ) → ¬ (IsFaultAt M t c d path)

-- the order of cycle places: by row, then by first column, then by last column
abbrev pub IsEarlierPlace : (t c d t' c' d' : ℕ) → Type 0
IsEarlierPlace t c d t' c' d' = (t < t') ⊎ ((t ≡ t') × ((c < c') ⊎ ((c ≡ c') × (d < d'))))

-- the cycle of the first cycle place whose sum is 2 modulo 4
pub record IsCycleFault (m : Matrix) (rows columns : List ℕ) : Type 0 where
  pub row : ℕ
  pub first_column : ℕ
  pub last_column : ℕ
  pub path : List ℕ
  pub fault : IsFaultAt (entry m) row first_column last_column path
  pub first : (t c d : ℕ) (other : List ℕ) → IsFaultAt (entry m) t c d other → ¬ (IsEarlierPlace t c d row first_column last_column)
  pub row_set : IsRowSet m rows
  pub column_set : IsColumnSet m columns
  pub rows_are : (line : ℕ) → IsIn line rows ↔ IsIn line (cycle_rows row path)
  pub columns_are : (line : ℕ) → IsIn line columns ↔ IsIn line (cycle_columns first_column last_column path)
