-- Separations from their seeds: the closure of a few lines is the least set that can be side one.
use Rattle.std.specs.Prelude.{◌≡◌, ◌≢◌, ◌<◌, ◌≤◌, ◌+◌, ◌⊎◌, ℕ, zero, suc, ℤ, pos, Bool, true, false, not, cond, List, [], ◌∷◌}
use Rattle.std.specs.List.{AllByRecursion}
use Rattle.cmr_base.specs.declared.line.Line.{Line}
use Rattle.cmr_base.specs.declared.line.Line.TheVariants.{Row, Column}
use Rattle.cmr_base.specs.declared.separation.Connector.{Connector}
use Rattle.cmr_base.specs.declared.separation.Form.{Form}
use Rattle.cmr_base.specs.declared.separation.Form.TheVariants.{Delta, YForm, Mixed, Concentrated}
use Rattle.cmr_base.specs.LineSets.{first_lines}
use Rattle.cmr_base.specs.Separations.{Lines, opposite, count_lines_in, HasBlocks, zeros, product_at, upper_block, lower_block, AreConnectors, connector_lines, first_is_flat, second_is_flat}

-- a line of a matrix with m rows and n columns
abbrev pub IsLine : ℕ → ℕ → Line → Type 0
IsLine m n (Row row) = row < m
IsLine m n (Column column) = column < n

-- The set is closed: the entries between the set and the other lines are the entries `upper` and `lower`.
abbrev pub IsClosed : ℕ → ℕ → (ℕ → ℕ → ℤ) → (upper lower : ℕ → ℕ → ℤ) → Lines → Type 0
IsClosed m n M upper lower lines = HasBlocks M (first_lines m) (first_lines n) lines upper lower

abbrev pub HasAll : Lines → List Line → Type 0
HasAll lines start = AllByRecursion (λ line. lines line ≡ true) start

-- the least closed set that contains the lines of the start
pub record IsGrown (m n : ℕ) (M : ℕ → ℕ → ℤ) (upper lower : ℕ → ℕ → ℤ) (start : List Line) (lines : Lines) : Type 0 where
  pub closed : IsClosed m n M upper lower lines
  pub has : HasAll lines start
  pub least : (other : Lines) → IsClosed m n M upper lower other → HasAll other start → (line : Line) → IsLine m n line → lines line ≡ true → other line ≡ true

-- The seed has the lines `first`, which are to be in side one, the lines `second`, which are to be in side two, and one more line.
-- The side is the closure of `first` and the one more line. The seed is good if the side has none of the lines `second`, and at
-- least `least` lines are outside.
pub record IsGood (m n least : ℕ) (M : ℕ → ℕ → ℤ) (upper lower : ℕ → ℕ → ℤ) (first second : List Line) (seed : Line) (side : Lines) : Type 0 where
  pub line : IsLine m n seed
  pub not_first : AllByRecursion (λ line. seed ≢ line) first
  pub not_second : AllByRecursion (λ line. seed ≢ line) second
  pub grown : IsGrown m n M upper lower (seed ∷ first) side
  pub two : AllByRecursion (λ line. side line ≡ false) second
  pub enough : least ≤ count_lines_in (opposite side) (first_lines m) (first_lines n)

-- the index of a line in line order: the rows, then the columns
abbrev pub line_number : ℕ → Line → ℕ
line_number m (Row row) = row
line_number m (Column column) = m + column

-- for lists of one length: less at the first index at which they differ
abbrev pub IsBefore : List ℕ → List ℕ → Type 0
IsBefore [] ys = ⊥
IsBefore (x ∷ xs) [] = ⊥
IsBefore (x ∷ xs) (y ∷ ys) = (x < y) ⊎ ((x ≡ y) × IsBefore xs ys)

-- ---- two-seeds

-- the position of a nonzero
pub record IsNonzeroAt (m n : ℕ) (M : ℕ → ℕ → ℤ) (i j : ℕ) : Type 0 where
  pub row : i < m
  pub column : j < n
  pub nonzero : M i j ≢ pos 0

abbrev pub IsGoodTwo : ℕ → ℕ → (ℕ → ℕ → ℤ) → ℕ → ℕ → Line → Lines → Type 0
IsGoodTwo m n M i j seed side = IsNonzeroAt m n M i j × IsGood m n 2 M zeros (product_at M i j) (Column j ∷ []) (Row i ∷ []) seed side

-- the order of two-seeds: by row, then by column, then by line
abbrev pub two_key : ℕ → ℕ → ℕ → Line → List ℕ
two_key m i j seed = i ∷ j ∷ line_number m seed ∷ []

-- the side of the first good two-seed
pub record IsFirstTwo (m n : ℕ) (M : ℕ → ℕ → ℤ) (side : Lines) (i j : ℕ) : Type 0 where
  pub seed : Line
  pub good : IsGoodTwo m n M i j seed side
  pub first : (i' j' : ℕ) (seed' : Line) (side' : Lines) → IsGoodTwo m n M i' j' seed' side' → ¬ (IsBefore (two_key m i' j' seed') (two_key m i j seed))

-- ---- three-seeds

abbrev pub form_number : Form → ℕ
form_number Delta = 0
form_number YForm = 1
form_number Mixed = 2
form_number Concentrated = 3

-- two connectors with the values of their form, whose lines are lines of the matrix
pub record IsConnectorPair (m n : ℕ) (M : ℕ → ℕ → ℤ) (form : Form) (first second : Connector) : Type 0 where
  pub values : AreConnectors M form first second
  pub first_lines : AllByRecursion (IsLine m n) (connector_lines (first_is_flat form) first)
  pub second_lines : AllByRecursion (IsLine m n) (connector_lines (second_is_flat form) second)

abbrev pub IsGoodThree : ℕ → ℕ → (ℕ → ℕ → ℤ) → Form → Connector → Connector → Line → Lines → Type 0
IsGoodThree m n M form first second seed side =
    IsConnectorPair m n M form first second
    × IsGood m n 4 M (upper_block M form first second) (lower_block M form first second) (connector_lines (first_is_flat form) first) (connector_lines (second_is_flat form) second) seed side

-- the order of three-seeds: by form, then by the corners, then by the other lines, then by line
abbrev pub three_key : ℕ → Form → Connector → Connector → Line → List ℕ
three_key m form first second seed = form_number form ∷ first.row ∷ first.column ∷ second.row ∷ second.column ∷ first.other ∷ second.other ∷ line_number m seed ∷ []

-- the side of the first good three-seed
pub record IsFirstThree (m n : ℕ) (M : ℕ → ℕ → ℤ) (side : Lines) (form : Form) (first second : Connector) : Type 0 where
  pub seed : Line
  pub good : IsGoodThree m n M form first second seed side
  pub earliest : (form' : Form) (first' second' : Connector) (seed' : Line) (side' : Lines) → IsGoodThree m n M form' first' second' seed' side'
      → ¬ (IsBefore (three_key m form' first' second' seed') (three_key m form first second seed))

-- ---- the number of lines of a set

-- the number of the first k numbers that pass a test
abbrev pub count : (ℕ → Bool) → ℕ → ℕ
count test zero = 0
count test (suc k) = cond (test k) (suc (count test k)) (count test k)

-- the number of lines in the set, and outside it
abbrev pub count_inside : ℕ → ℕ → Lines → ℕ
count_inside m n lines = count (λ row. lines (Row row)) m + count (λ column. lines (Column column)) n

abbrev pub count_outside : ℕ → ℕ → Lines → ℕ
count_outside m n lines = count_inside m n (λ line. not (lines line))
