-- Column sets by elimination.
use Rattle.std.proofs.Common.{◌≡◌, ◌<◌, ◌^◌, ◌∙◌, ℕ, List, Option, Some, None, ap, arith}
use Rattle.std.specs.Prelude.{IfSome, IfNone}
use Rattle.cmr_base.specs.LineSets.{set_numbered}
use Rattle.cmr_base.specs.Matrix.{Matrix, IsMatrix}
use Rattle.cmr_base.specs.Violator.{HasNoColumnSet, IsLeastColumnSet}
use Rattle.parity.specs.declared.narrow.Equation.{Equation}
use Rattle.parity.specs.Equations.{IsBasis, IsLowest, common, reduced_by, solved}
use Rattle.parity.specs.PlaneSums.{AreSums, equations_of, without_columns}
use Rattle.parity.proofs.Bits.{common-xor}
use Rattle.parity.proofs.Elimination.{even_where_cleared, least_solution}
use Rattle.parity.proofs.Systems.{column_set_from_solution, no_column_set, without_columns_apart, without_columns_lt}

-- a remaining column gives the least column set
pub least_from_free : (m : Matrix) (rows : List ℕ) (ones twos free : ℕ) (es : List Equation) → IsMatrix m → AreSums m rows ones twos → twos < 2 ^ m.width
    → IsBasis m.width ones (equations_of m ones rows) es
    → IsLowest (reduced_by es (without_columns ones twos)) free → IsLeastColumnSet m rows (set_numbered m.width 0 (solved es (2 ^ free)))
least_from_free m rows ones twos free es is are small basis low =
    column_set_from_solution m rows ones twos (solved es (2 ^ free)) is are
    (least_solution m.width ones (equations_of m ones rows) es (without_columns ones twos) free basis (without_columns_apart ones twos) (without_columns_lt ones twos m.width small) low)

-- if no column remains, no column set exists
pub none_from_cleared : (m : Matrix) (rows : List ℕ) (ones twos : ℕ) (es : List Equation) → IsMatrix m → AreSums m rows ones twos → IsBasis m.width ones (equations_of m ones rows) es
    → reduced_by es (without_columns ones twos) ≡ 0 → HasNoColumnSet m rows
none_from_cleared m rows ones twos es is are basis none =
    no_column_set m rows ones twos is are (λ set hold. even_where_cleared m.width ones (equations_of m ones rows) es (without_columns ones twos) set basis none hold)

-- the remaining column decides whether a column set exists
pub free_by_search : (m : Matrix) (rows : List ℕ) (ones twos : ℕ) (es : List Equation) (free : Option ℕ) → IsMatrix m → AreSums m rows ones twos
    → twos < 2 ^ m.width → IsBasis m.width ones (equations_of m ones rows) es
    → IfSome free (IsLowest (reduced_by es (without_columns ones twos))) → IfNone free (reduced_by es (without_columns ones twos) ≡ 0)
    → IfSome free (λ column. IsLeastColumnSet m rows (set_numbered m.width 0 (solved es (2 ^ column)))) × IfNone free (HasNoColumnSet m rows)
free_by_search m rows ones twos es (Some free) is are small basis some none = (least_from_free m rows ones twos free es is are small basis some, tt)
free_by_search m rows ones twos es None is are small basis some none = (tt, none_from_cleared m rows ones twos es is are basis none)

-- no column set exists if no column has a sum of 2 modulo 4
pub none_without_halves : (m : Matrix) (rows : List ℕ) (ones twos : ℕ) → IsMatrix m → AreSums m rows ones twos → without_columns ones twos ≡ 0 → HasNoColumnSet m rows
none_without_halves m rows ones twos is are none =
    no_column_set m rows ones twos is are (λ set hold. ap (λ (n : ℕ). common n set) none ∙ common-zero set)
  where
    common-zero : (b : ℕ) → common 0 b ≡ 0
    common-zero b = omega (arith, common-xor 0 0 b)
