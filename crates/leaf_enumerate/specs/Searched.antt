-- The answers of a search for the least submatrix of a kind.
use Rattle.std.specs.Prelude.{◌≡◌, ◌<◌, ◌≤◌, ◌^◌, ℕ, List, min}
use Rattle.cmr_base.specs.Matrix.{Matrix, height, transposed}
use Rattle.cmr_base.specs.Violator.{HasNoViolator, IsLeastViolator}
use Rattle.first_hit.specs.First.{NoneBetween}
use Rattle.leaf_enumerate.specs.declared.search.LeastSubmatrix.{LeastSubmatrix}
use Rattle.leaf_enumerate.specs.declared.search.LeastSubmatrix.TheVariants.{Clean, Found, TooMany}

-- the number of lines of the shorter side
abbrev pub shorter_side : Matrix → ℕ
shorter_side m = min (height m) m.width

-- too many lines if and only if the shorter side is above the budget; otherwise no violator, or the least one
abbrev pub HasSearched : Matrix → ℕ → LeastSubmatrix → Type 0
HasSearched m budget Clean = (shorter_side m ≤ budget) × HasNoViolator m
HasSearched m budget (Found lines) = (shorter_side m ≤ budget) × IsLeastViolator m lines.rows lines.columns
HasSearched m budget (TooMany shorter) = (budget < shorter) × (shorter ≡ shorter_side m)

-- ---- any kind of submatrix

-- the least submatrix by the sets of the shorter side: of the matrix, or of the transposed matrix
pub record IsLeastOf (is_least : Matrix → List ℕ → List ℕ → Type 0) (m : Matrix) (rows columns : List ℕ) : Type 0 where
  pub few_rows : height m ≤ m.width → is_least m rows columns
  pub few_columns : m.width < height m → is_least (transposed m) columns rows

-- no set of the shorter side satisfies the predicate
pub record HoldsNowhere (holds : Matrix → ℕ → Type 0) (m : Matrix) : Type 0 where
  pub few_rows : height m ≤ m.width → NoneBetween (holds m) 0 (2 ^ height m)
  pub few_columns : m.width < height m → NoneBetween (holds (transposed m)) 0 (2 ^ height (transposed m))

-- too many lines if and only if the shorter side is above the budget; otherwise no set satisfies the predicate, or this is the least
-- submatrix
abbrev pub HasSearchedFor : (Matrix → ℕ → Type 0) → (Matrix → List ℕ → List ℕ → Type 0) → Matrix → ℕ → LeastSubmatrix → Type 0
HasSearchedFor holds is_least m budget Clean = (shorter_side m ≤ budget) × HoldsNowhere holds m
HasSearchedFor holds is_least m budget (Found lines) = (shorter_side m ≤ budget) × IsLeastOf is_least m lines.rows lines.columns
HasSearchedFor holds is_least m budget (TooMany shorter) = (budget < shorter) × (shorter ≡ shorter_side m)
