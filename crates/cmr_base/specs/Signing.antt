-- Signings of a set of rows, and total unimodularity in terms of them (Ghouila-Houri).
use Rattle.std.specs.Prelude.{◌≡◌, ◌<◌, ◌≤◌, ◌⊎◌, ◌+◌, ◌*◌, ℕ, ℤ, pos, negsuc, ◌+ℤ◌, ◌*ℤ◌, List, [], ◌∷◌, length}
use Rattle.std.specs.List.{AllByRecursion}
use Rattle.cmr_base.specs.Matrix.{Matrix, entry, IsEntry}
use Rattle.cmr_base.specs.LineSets.{IsRowSet}

-- +1 or -1
abbrev pub IsSign : ℤ → Type 0
IsSign z = (z ≡ pos 1) ⊎ (z ≡ negsuc 0)

-- the sum of the rows in a column, each row times its sign
abbrev pub signed_sum : Matrix → List ℕ → List ℤ → ℕ → ℤ
signed_sum m [] signs column = pos 0
signed_sum m (row ∷ rows) [] column = pos 0
signed_sum m (row ∷ rows) (sign ∷ signs) column = (sign *ℤ entry m row column) +ℤ signed_sum m rows signs column

-- a signing of the rows: in every column the sum is -1, 0 or 1
pub record IsSigning (m : Matrix) (rows : List ℕ) (signs : List ℤ) : Type 0 where
  pub one_each : length signs ≡ length rows
  pub each : AllByRecursion IsSign signs
  pub sums : (column : ℕ) → column < m.width → IsEntry (signed_sum m rows signs column)

-- totally unimodular: every set of rows has a signing
abbrev pub IsTotallyUnimodular : Matrix → Type 0
IsTotallyUnimodular m = (rows : List ℕ) → IsRowSet m rows → (signs : List ℤ) × IsSigning m rows signs

-- the number of a list of signs: a -1 at index k adds 2^k
abbrev pub sign_bit : ℤ → ℕ
sign_bit (pos n) = 0
sign_bit (negsuc n) = 1

abbrev pub sign_number : List ℤ → ℕ
sign_number [] = 0
sign_number (sign ∷ signs) = sign_bit sign + 2 * sign_number signs

-- the first signing in the order of the signs' numbers
pub record IsFirstSigning (m : Matrix) (rows : List ℕ) (signs : List ℤ) : Type 0 where
  pub signing : IsSigning m rows signs
  pub first : (others : List ℤ) → IsSigning m rows others → sign_number signs ≤ sign_number others

-- the rows have no signing
abbrev pub HasNoSigning : Matrix → List ℕ → Type 0
HasNoSigning m rows = (signs : List ℤ) → IsSigning m rows signs → ⊥
