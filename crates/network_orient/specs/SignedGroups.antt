-- Groups of columns. The signs that turn one matrix into another are known up to one factor for each group.
use Rattle.std.specs.Prelude.{◌≡◌, ◌≢◌, ◌<◌, ◌+◌, ◌*ℤ◌, ℕ, ℤ, pos, List, length, slice_index_or}
use Rattle.cmr_base.specs.Matrix.{Matrix, entry}
use Rattle.cmr_base.specs.Signing.{IsSign}

abbrev pub group_of : List ℕ → ℕ → ℕ
group_of groups column = slice_index_or groups column 0

abbrev pub sign_of : List ℤ → ℕ → ℤ
sign_of signs column = slice_index_or signs column (pos 1)

-- the first `count` rows of the second matrix are the rows of the first with some rows and columns multiplied by -1
pub record AgreeBefore (M N : ℕ → ℕ → ℤ) (count : ℕ) : Type 0 where
  pub row_sign : ℕ → ℤ
  pub column_sign : ℕ → ℤ
  pub row_signs : (row : ℕ) → IsSign (row_sign row)
  pub column_signs : (column : ℕ) → IsSign (column_sign column)
  pub entries : (row column : ℕ) → row < count → N row column ≡ row_sign row *ℤ (column_sign column *ℤ M row column)

-- for all signs that turn the first `count` rows into the rows of the second matrix, the signs of two columns of one group have
-- the product that they have here
pub record AreSignedGroups (m n : Matrix) (count : ℕ) (groups : List ℕ) (signs : List ℤ) : Type 0 where
  pub group_each : length groups ≡ m.width
  pub sign_each : length signs ≡ m.width
  pub each_sign : (column : ℕ) → IsSign (sign_of signs column)
  pub forced : (agreement : AgreeBefore (entry m) (entry n) count) (c d : ℕ) → c < m.width → d < m.width → group_of groups c ≡ group_of groups d
      → sign_of signs c *ℤ sign_of signs d ≡ agreement.column_sign c *ℤ agreement.column_sign d

-- columns of one group stay in one group
abbrev pub IsCoarser : ℕ → List ℕ → List ℕ → Type 0
IsCoarser width old new = (c d : ℕ) → c < width → d < width → group_of old c ≡ group_of old d → group_of new c ≡ group_of new d

-- the columns of the nonzeros of a row are in one group
abbrev pub IsRowJoined : Matrix → List ℕ → ℕ → Type 0
IsRowJoined m groups row = (c d : ℕ) → c < m.width → d < m.width → entry m row c ≢ pos 0 → entry m row d ≢ pos 0 → group_of groups c ≡ group_of groups d

-- two columns of one group keep the product of their signs
abbrev pub KeepsProducts : ℕ → (groups : List ℕ) → (old_signs signs : List ℤ) → Type 0
KeepsProducts width groups old_signs signs = (c d : ℕ) → c < width → d < width → group_of groups c ≡ group_of groups d → sign_of signs c *ℤ sign_of signs d ≡ sign_of old_signs c *ℤ sign_of old_signs d

-- for all signs that turn the rows up to this row, the signs of two columns of its nonzeros have the product that they have
-- here
abbrev pub IsRowForced : Matrix → Matrix → List ℤ → ℕ → Type 0
IsRowForced m n signs row = (agreement : AgreeBefore (entry m) (entry n) (row + 1)) (c d : ℕ) → c < m.width → d < m.width → entry m row c ≢ pos 0 → entry m row d ≢ pos 0
    → sign_of signs c *ℤ sign_of signs d ≡ agreement.column_sign c *ℤ agreement.column_sign d

-- the columns of one group move to another, and their signs are multiplied by a factor
pub record IsMerged (old_groups : List ℕ) (old_signs : List ℤ) (groups : List ℕ) (signs : List ℤ) (replaced stays : ℕ) (factor : ℤ) : Type 0 where
  pub group_each : length groups ≡ length old_groups
  pub sign_each : length signs ≡ length old_signs
  pub moved : (column : ℕ) → column < length old_groups → group_of old_groups column ≡ replaced
      → (group_of groups column ≡ stays) × (sign_of signs column ≡ sign_of old_signs column *ℤ factor)
  pub others : (column : ℕ) → column < length old_groups → group_of old_groups column ≢ replaced
      → (group_of groups column ≡ group_of old_groups column) × (sign_of signs column ≡ sign_of old_signs column)

-- the sign of a row with which the sign of a column turns the first matrix's entry in this column into the second's
abbrev pub row_sign_by : Matrix → Matrix → List ℤ → ℕ → ℕ → ℤ
row_sign_by m n signs row column = sign_of signs column *ℤ (entry m row column *ℤ entry n row column)

-- the row of the first matrix, multiplied by a sign and its columns by their signs, is the row of the second
abbrev pub IsRowMultiplied : Matrix → Matrix → List ℤ → ℕ → ℤ → Type 0
IsRowMultiplied m n signs row sign = (column : ℕ) → column < m.width → entry n row column ≡ sign *ℤ (sign_of signs column *ℤ entry m row column)
