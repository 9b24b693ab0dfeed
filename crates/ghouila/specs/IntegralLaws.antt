-- Integral solutions of linear programs, stated in integers. The point y/d has the rational coordinates y column / d.
use Rattle.std.specs.Prelude.{◌≡◌, ◌≢◌, ◌<◌, ◌≤ℤ◌, ◌<ℤ◌, ◌↔◌, ℕ, ℤ, pos, ◌+ℤ◌, ◌*ℤ◌, List, length}
use Rattle.std.specs.List.{AllByRecursion}
use Rattle.cmr_base.specs.Matrix.{Matrix, height, entry}
use Rattle.cmr_base.specs.LineSets.{IsRowSet, IsColumnSet, first_lines}
use Rattle.cmr_base.specs.Signing.{IsTotallyUnimodular}
use Rattle.cmr_base.specs.Sums.{sum_over}
use Rattle.cmr_base.specs.Determinants.{determinant}

-- a multiple of d: the fraction z/d is an integer
abbrev pub IsMultiple : ℤ → ℤ → Type 0
IsMultiple d z = (k : ℤ) × (z ≡ d *ℤ k)

-- A y in this row: the sum of the row's entries in these columns, each times the number of its column
abbrev pub row_value : Matrix → List ℕ → (ℕ → ℤ) → ℕ → ℤ
row_value m columns y row = sum_over columns (λ column. entry m row column *ℤ y column)

-- The point y/d is 0 outside these columns and satisfies the equations with right-hand sides b in these rows. It is the only such point:
-- the square submatrix has a nonzero determinant.
pub record IsBasicSolution (m : Matrix) (rows columns : List ℕ) (b y : ℕ → ℤ) (d : ℤ) : Type 0 where
  pub row_set : IsRowSet m rows
  pub column_set : IsColumnSet m columns
  pub square : length rows ≡ length columns
  pub regular : determinant (entry m) rows columns ≢ pos 0
  pub solves : AllByRecursion (λ row. row_value m columns y row ≡ d *ℤ b row) rows

abbrev pub BasicSolutionsAreIntegral : Type 0
BasicSolutionsAreIntegral = (m : Matrix) → IsTotallyUnimodular m → (rows columns : List ℕ) (b y : ℕ → ℤ) (d : ℤ) → IsBasicSolution m rows columns b y d
    → AllByRecursion (λ column. IsMultiple d (y column)) columns

-- the point y/d is in the polyhedron A x ≤ b, x ≥ 0
pub record IsFeasible (m : Matrix) (b y : ℕ → ℤ) (d : ℤ) : Type 0 where
  pub positive : pos 0 <ℤ d
  pub rows : (row : ℕ) → row < height m → row_value m (first_lines m.width) y row ≤ℤ (d *ℤ b row)
  pub columns : (column : ℕ) → column < m.width → pos 0 ≤ℤ y column

-- the point y/d is the midpoint of u/e and v/e
abbrev pub IsMidpoint : ℕ → (ℕ → ℤ) → ℤ → (ℕ → ℤ) → (ℕ → ℤ) → ℤ → Type 0
IsMidpoint width y d u v e = (column : ℕ) → column < width → pos 2 *ℤ (e *ℤ y column) ≡ d *ℤ (u column +ℤ v column)

-- the point y/d is a vertex of the polyhedron: a point of it that is not the midpoint of two different points of it
pub record IsVertex (m : Matrix) (b y : ℕ → ℤ) (d : ℤ) : Type 0 where
  pub feasible : IsFeasible m b y d
  pub extreme : (u v : ℕ → ℤ) (e : ℤ) → IsFeasible m b u e → IsFeasible m b v e → IsMidpoint m.width y d u v e → (column : ℕ) → column < m.width → u column ≡ v column

-- for every integral right-hand side b all vertices of the polyhedron are integral
abbrev pub HasIntegralVertices : Matrix → Type 0
HasIntegralVertices m = (b y : ℕ → ℤ) (d : ℤ) → IsVertex m b y d → (column : ℕ) → column < m.width → IsMultiple d (y column)

-- a matrix is totally unimodular if and only if it has integral vertices
abbrev pub HoffmanKruskalEquivalence : Type 0
HoffmanKruskalEquivalence = (m : Matrix) → IsTotallyUnimodular m ↔ HasIntegralVertices m
