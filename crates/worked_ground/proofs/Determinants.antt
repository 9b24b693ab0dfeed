-- Determinants of small matrices, and a vertex of a small polyhedron.
use Rattle.std.proofs.Common.{◌≡◌, ◌<◌, ◌≤ℤ◌, ℕ, zero, suc, ℤ, pos, negsuc, ◌*ℤ◌, [], ◌∷◌, refl, arith}
use Rattle.std.proofs.lemmas.Int.{ints}
use Rattle.cmr_base.specs.Matrix.{Matrix, entry}
use Rattle.cmr_base.specs.Determinants.{determinant}
use Rattle.ghouila.specs.IntegralLaws.{IsFeasible, IsMidpoint, IsMultiple, IsVertex, HasIntegralVertices, row_value}

-- 1 1 / 1 -1
abbrev hadamard : Matrix
hadamard = record { rows = (pos 1 ∷ pos 1 ∷ []) ∷ (pos 1 ∷ negsuc 0 ∷ []) ∷ []; width = 2 }

-- 1 1 0 / 0 1 1 / 1 0 1
abbrev triangle : Matrix
triangle = record { rows = (pos 1 ∷ pos 1 ∷ pos 0 ∷ []) ∷ (pos 0 ∷ pos 1 ∷ pos 1 ∷ []) ∷ (pos 1 ∷ pos 0 ∷ pos 1 ∷ []) ∷ []; width = 3 }

-- 1 1 0 / 0 1 1 / 1 0 -1
abbrev path : Matrix
path = record { rows = (pos 1 ∷ pos 1 ∷ pos 0 ∷ []) ∷ (pos 0 ∷ pos 1 ∷ pos 1 ∷ []) ∷ (pos 1 ∷ pos 0 ∷ negsuc 0 ∷ []) ∷ []; width = 3 }

-- the vertices and edges of the complete graph on four vertices
abbrev edges : Matrix
edges = record {
  rows =
      (pos 1 ∷ pos 1 ∷ pos 1 ∷ pos 0 ∷ pos 0 ∷ pos 0 ∷ [])
      ∷ (pos 1 ∷ pos 0 ∷ pos 0 ∷ pos 1 ∷ pos 1 ∷ pos 0 ∷ [])
      ∷ (pos 0 ∷ pos 1 ∷ pos 0 ∷ pos 1 ∷ pos 0 ∷ pos 1 ∷ [])
      ∷ (pos 0 ∷ pos 0 ∷ pos 1 ∷ pos 0 ∷ pos 1 ∷ pos 1 ∷ [])
      ∷ [];
  width = 6;
}

of_no_lines : determinant (entry hadamard) [] [] ≡ pos 1
of_no_lines = refl

of_hadamard : determinant (entry hadamard) (0 ∷ 1 ∷ []) (0 ∷ 1 ∷ []) ≡ negsuc 1
of_hadamard = refl

-- the order of the lines gives the sign
of_hadamard_columns : determinant (entry hadamard) (0 ∷ 1 ∷ []) (1 ∷ 0 ∷ []) ≡ pos 2
of_hadamard_columns = refl

of_triangle : determinant (entry triangle) (0 ∷ 1 ∷ 2 ∷ []) (0 ∷ 1 ∷ 2 ∷ []) ≡ pos 2
of_triangle = refl

of_path : determinant (entry path) (0 ∷ 1 ∷ 2 ∷ []) (0 ∷ 1 ∷ 2 ∷ []) ≡ pos 0
of_path = refl

of_path_minor : determinant (entry path) (1 ∷ 2 ∷ []) (0 ∷ 2 ∷ []) ≡ negsuc 0
of_path_minor = refl

-- a triangle and an edge that leaves it
of_odd_cycle : determinant (entry edges) (0 ∷ 1 ∷ 2 ∷ 3 ∷ []) (0 ∷ 1 ∷ 2 ∷ 3 ∷ []) ≡ pos 2
of_odd_cycle = refl

-- a cycle of four edges
of_even_cycle : determinant (entry edges) (0 ∷ 1 ∷ 2 ∷ 3 ∷ []) (0 ∷ 1 ∷ 4 ∷ 5 ∷ []) ≡ pos 0
of_even_cycle = refl

-- The point (1/2, 1/2) is a vertex of x + y ≤ 1, x - y ≤ 0, x ≥ 0, y ≥ 0.
abbrev bounds : ℕ → ℤ
bounds zero = pos 1
bounds (suc row) = pos 0

abbrev half : ℕ → ℤ
half column = pos 1

half_is_feasible : IsFeasible hadamard bounds half (pos 2)
half_is_feasible = record { positive = omega (arith, ints); rows = rows; columns = λ column within. omega (arith, ints) }
  where
    rows : (row : ℕ) → row < 2 → row_value hadamard (0 ∷ 1 ∷ []) half row ≤ℤ (pos 2 *ℤ bounds row)
    rows zero within = omega (arith, ints)
    rows (suc zero) within = omega (arith, ints)
    rows (suc (suc row)) within = absurd (omega arith)

half_is_vertex : IsVertex hadamard bounds half (pos 2)
half_is_vertex = record { feasible = half_is_feasible; extreme = extreme }
  where
    extreme : (u v : ℕ → ℤ) (e : ℤ) → IsFeasible hadamard bounds u e → IsFeasible hadamard bounds v e → IsMidpoint 2 half (pos 2) u v e → (column : ℕ) → column < 2 → u column ≡ v column
    extreme u v e in_u in_v between zero within =
        let a = in_u.rows 0 (omega arith) in
        let b = in_u.rows 1 (omega arith) in
        let c = in_v.rows 0 (omega arith) in
        let d = in_v.rows 1 (omega arith) in
        let first = between 0 (omega arith) in
        let second = between 1 (omega arith) in
        omega (arith, ints)
    extreme u v e in_u in_v between (suc zero) within =
        let a = in_u.rows 0 (omega arith) in
        let b = in_u.rows 1 (omega arith) in
        let c = in_v.rows 0 (omega arith) in
        let d = in_v.rows 1 (omega arith) in
        let first = between 0 (omega arith) in
        let second = between 1 (omega arith) in
        omega (arith, ints)
    extreme u v e in_u in_v between (suc (suc column)) within = absurd (omega arith)

half_is_not_whole : ¬ (IsMultiple (pos 2) (pos 1))
half_is_not_whole (k, e) = omega (arith, ints)

no_integral_vertices : ¬ (HasIntegralVertices hadamard)
no_integral_vertices all = half_is_not_whole (all bounds half (pos 2) half_is_vertex 0 (omega arith))
