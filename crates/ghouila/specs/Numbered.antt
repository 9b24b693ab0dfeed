-- Lists of signs by their numbers, and choices of a sign for each row.
use Rattle.std.specs.Prelude.{◌≡◌, ◌≤◌, ◌%◌, ◌/◌, ◌==◌, if◌then◌else◌, ℕ, zero, suc, ℤ, pos, negsuc, List, [], ◌∷◌, length}
use Rattle.std.specs.List.{AllByRecursion}
use Rattle.cmr_base.specs.declared.limits.TheConstants.{MAX_LINES}
use Rattle.cmr_base.specs.Matrix.{Matrix, height}
use Rattle.cmr_base.specs.LineSets.{AllBelow}
use Rattle.cmr_base.specs.Signing.{IsSign}

-- the sign that the lowest bit represents
abbrev pub low_sign : ℕ → ℤ
low_sign number = if number % 2 == 1 then negsuc 0 else pos 1

-- the `count` signs with this number
abbrev pub signs_numbered : ℕ → ℕ → List ℤ
signs_numbered zero number = []
signs_numbered (suc count) number = low_sign number ∷ signs_numbered count (number / 2)

-- a sign for each row of a list
pub record IsChoice (m : Matrix) (rows : List ℕ) (signs : List ℤ) : Type 0 where
  pub in_range : AllBelow (height m) rows
  pub few : length rows ≤ MAX_LINES
  pub one_each : length signs ≡ length rows
  pub each : AllByRecursion IsSign signs
