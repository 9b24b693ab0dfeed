-- Sums of two matrices along connecting lines (Seymour; Truemper, Matroid Decomposition): `[A ab; dc B]` from a first matrix with
-- the block A and a second matrix with the block B. The first matrix ends in the connecting lines, the second begins with them.
use Rattle.std.specs.Prelude.{◌≡◌, ◌<◌, ◌≤◌, ◌+◌, ◌-◌, ◌-ℤ◌, ◌*ℤ◌, ℕ, ℤ, pos, Bool, true, false, cond, nat_lt, map}
use Rattle.cmr_base.specs.declared.separation.Form.{Form}
use Rattle.cmr_base.specs.declared.separation.Form.TheVariants.{Delta, YForm, Mixed, Concentrated}
use Rattle.cmr_base.specs.Matrix.{Matrix, height, entry}
use Rattle.cmr_base.specs.LineSets.{first_lines}
use Rattle.cmr_base.specs.Signing.{IsSign}
use Rattle.cmr_base.specs.Separations.{zeros, spread}

-- m rows and n columns with these entries
abbrev pub filled : ℕ → ℕ → (ℕ → ℕ → ℤ) → Matrix
filled m n entries = record { rows = map (λ row. map (entries row) (first_lines n)) (first_lines m); width = n }

-- Four blocks: after m rows the lower blocks begin at their row `up`, and after n columns the right blocks begin at their column
-- `left`.
abbrev pub four_blocks : (m n up left : ℕ) (first right below second : ℕ → ℕ → ℤ) → ℕ → ℕ → ℤ
four_blocks m n up left first right below second r c =
    cond (nat_lt r m)
    (cond (nat_lt c n) (first r c) (right r (left + (c - n))))
    (cond (nat_lt c n) (below (up + (r - m)) c) (second (up + (r - m)) (left + (c - n))))

abbrev pub one_sum : Matrix → Matrix → Matrix
one_sum first second =
    filled (height first + height second) (first.width + second.width) (four_blocks (height first) first.width 0 0 (entry first) zeros zeros (entry second))

-- `[A a]` with the last column a, and `[b; B]` with the first row b
pub record HaveTwoSum (first second : Matrix) : Type 0 where
  pub column : 1 ≤ first.width
  pub row : 1 ≤ height second

abbrev pub two_sum : Matrix → Matrix → Matrix
two_sum first second =
    filled (height first + (height second - 1)) ((first.width - 1) + second.width)
    (four_blocks (height first) (first.width - 1) 1 0 (entry first) (λ r c. entry first r (first.width - 1) *ℤ entry second 0 c) zeros (entry second))

-- connecting lines are flat (one row and two columns) or tall (two rows and one column)
abbrev pub connecting_rows : Bool → ℕ
connecting_rows flat = cond flat 1 2

abbrev pub connecting_columns : Bool → ℕ
connecting_columns flat = cond flat 2 1

-- after m rows and n columns the matrix ends in `a a; c 0 e`, or `a; c 0; c e`
abbrev pub EndsIn : Bool → ℤ → (m n : ℕ) → (ℕ → ℕ → ℤ) → Type 0
EndsIn true e m n first = (first m n ≡ pos 0) × (first m (n + 1) ≡ e) × ((r : ℕ) → r < m → first r (n + 1) ≡ first r n)
EndsIn false e m n first = (first m n ≡ pos 0) × (first (m + 1) n ≡ e) × ((c : ℕ) → c < n → first (m + 1) c ≡ first m c)

-- the matrix begins with `e 0 b; d d`, or `e b; 0 b; d`, before u more rows and v more columns
abbrev pub BeginsWithConnector : Bool → ℤ → (u v : ℕ) → (ℕ → ℕ → ℤ) → Type 0
BeginsWithConnector true e u v second = (second 0 0 ≡ e) × (second 0 1 ≡ pos 0) × ((r : ℕ) → 1 ≤ r → r < 1 + u → second r 1 ≡ second r 0)
BeginsWithConnector false e u v second = (second 0 0 ≡ e) × (second 1 0 ≡ pos 0) × ((c : ℕ) → 1 ≤ c → c < 1 + v → second 1 c ≡ second 0 c)

-- The first matrix ends in connecting lines of the second connector's kind, the second matrix begins with connecting lines of the
-- first connector's kind, and the corner e, which is 1 or -1, is the same in both.
pub record HaveCornerSum (first_flat second_flat : Bool) (first second : Matrix) : Type 0 where
  pub first_rows : connecting_rows second_flat ≤ height first
  pub first_columns : connecting_columns second_flat ≤ first.width
  pub second_rows : connecting_rows first_flat ≤ height second
  pub second_columns : connecting_columns first_flat ≤ second.width
  pub corner : ℤ
  pub sign : IsSign corner
  pub one : EndsIn second_flat corner (height first - connecting_rows second_flat) (first.width - connecting_columns second_flat) (entry first)
  pub two : BeginsWithConnector first_flat corner (height second - connecting_rows first_flat) (second.width - connecting_columns first_flat) (entry second)

-- the sum of matrices with m rows and n columns before the connecting lines of the first, if the connecting lines of the second
-- have this kind
abbrev pub sum_along : Bool → (m n : ℕ) (first second : ℕ → ℕ → ℤ) → ℕ → ℕ → ℤ
sum_along flat m n first second =
    four_blocks m n (connecting_rows flat) (connecting_columns flat) first (λ r c. first r n *ℤ second 0 c) (λ r c. second r 0 *ℤ first m c) second

abbrev pub corner_sum : (first_flat second_flat : Bool) → Matrix → Matrix → Matrix
corner_sum first_flat second_flat first second =
    filled ((height first - connecting_rows second_flat) + (height second - connecting_rows first_flat))
    ((first.width - connecting_columns second_flat) + (second.width - connecting_columns first_flat))
    (sum_along first_flat (height first - connecting_rows second_flat) (first.width - connecting_columns second_flat) (entry first) (entry second))

-- after m rows and n columns the entries are `g h 0; x y s; z w t`, and g, h, s, t and x w - y z are 1 or -1
pub record IsCore (m n : ℕ) (entries : ℕ → ℕ → ℤ) : Type 0 where
  pub g : IsSign (entries m n)
  pub h : IsSign (entries m (n + 1))
  pub zero : entries m (n + 2) ≡ pos 0
  pub s : IsSign (entries (m + 1) (n + 2))
  pub t : IsSign (entries (m + 2) (n + 2))
  pub determinant : IsSign (entries (m + 1) n *ℤ entries (m + 2) (n + 1) -ℤ entries (m + 1) (n + 1) *ℤ entries (m + 2) n)

-- The first matrix ends in such a core, and its last column is 0 above the core. The second matrix begins with the same core, and
-- its first row is 0 after the core's columns.
pub record HaveConcentratedSum (first second : Matrix) : Type 0 where
  pub first_rows : 3 ≤ height first
  pub first_columns : 3 ≤ first.width
  pub second_rows : 3 ≤ height second
  pub second_columns : 3 ≤ second.width
  pub core : IsCore (height first - 3) (first.width - 3) (entry first)
  pub same : (r c : ℕ) → r < 3 → c < 3 → entry second r c ≡ entry first ((height first - 3) + r) ((first.width - 3) + c)
  pub above : (r : ℕ) → r < height first - 3 → entry first r (first.width - 1) ≡ pos 0
  pub right : (c : ℕ) → 3 ≤ c → c < second.width → entry second 0 c ≡ pos 0

-- the block that the last two rows of the first matrix and the first two columns of the second matrix make
abbrev pub core_block : (m : ℕ) (first second : ℕ → ℕ → ℤ) → ℕ → ℕ → ℤ
core_block m first second r c =
    spread (second 1 0 *ℤ second 2 1 -ℤ second 1 1 *ℤ second 2 0) (second 1 0) (second 1 1) (second 2 0) (second 2 1)
    (second r 0) (second r 1) (first (m + 1) c) (first (m + 2) c)

-- `[A 0; K B]`: the first matrix without its last two rows and its last column, the second matrix without its first row and its
-- first two columns
abbrev pub concentrated_sum : Matrix → Matrix → Matrix
concentrated_sum first second =
    filled ((height first - 2) + (height second - 1)) ((first.width - 1) + (second.width - 2))
    (four_blocks (height first - 2) (first.width - 1) 1 2 (entry first) zeros (core_block (height first - 3) (entry first) (entry second)) (entry second))

-- the sum of each form
abbrev pub HaveThreeSum : Form → Matrix → Matrix → Type 0
HaveThreeSum Delta first second = HaveCornerSum true true first second
HaveThreeSum YForm first second = HaveCornerSum false false first second
HaveThreeSum Mixed first second = HaveCornerSum true false first second
HaveThreeSum Concentrated first second = HaveConcentratedSum first second

abbrev pub three_sum : Form → Matrix → Matrix → Matrix
three_sum Delta first second = corner_sum true true first second
three_sum YForm first second = corner_sum false false first second
three_sum Mixed first second = corner_sum true false first second
three_sum Concentrated first second = concentrated_sum first second
