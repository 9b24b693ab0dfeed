-- Lines that no set of lines apart from the others separates.
use Rattle.std.proofs.Common.{◌≡◌, ◌≢◌, ◌⊎◌, inl, inr, ℕ, ℤ, true}
use Rattle.cmr_base.specs.declared.line.Line.{Line}
use Rattle.cmr_base.specs.declared.line.Line.TheVariants.{Row, Column}
use Rattle.cmr_base.specs.Matrix.{entry}
use Rattle.cmr_base.proofs.Booleans.{not_both, two_cases}
use Rattle.cmr_base.proofs.LineCounts.{line_same, same, same_line}
use Rattle.ghouila.proofs.MarkedMembers.{iff_then}
use Rattle.sparse_matrix.specs.SparseRows.{SparseRows, matrix_of_runs}
use Rattle.sparse_matrix.proofs.MarkedLines.{contains_marked}
use Rattle.sparse_core.specs.declared.removal.TwoCore.{TwoCore}
use Rattle.part_numbers.specs.PartSearches.{AreAdjacent, AreInseparable, is_in_core}

pub line_cases : (line other : Line) → (line ≡ other) ⊎ (line ≢ other)
line_cases line other = elim (two_cases (same line other)) [
  | inl e ↦ inl (line_same line other e)
  | inr f ↦ inr (λ e. not_both (same line other) (same_line line other e) f)
]

pub adjacent_back : (M : ℕ → ℕ → ℤ) (line other : Line) → AreAdjacent M line other → AreAdjacent M other line
adjacent_back M (Row row) (Row other) n = absurd n
adjacent_back M (Row row) (Column column) n = n
adjacent_back M (Column column) (Row row) n = n
adjacent_back M (Column column) (Column other) n = absurd n

module _ (m : SparseRows) (core : TwoCore) where
  pub inseparable_self : (line : Line) → AreInseparable m core line line
  inseparable_self line R C apart = (λ h. h, λ h. h)

  pub inseparable_back : (line other : Line) → AreInseparable m core line other → AreInseparable m core other line
  inseparable_back line other are R C apart = let both = are R C apart in (both.1, both.0)

  pub inseparable_then : (line middle other : Line) → AreInseparable m core line middle → AreInseparable m core middle other → AreInseparable m core line other
  inseparable_then line middle other first second R C apart = iff_then (first R C apart) (second R C apart)

  pub adjacent_inseparable : (line other : Line) → is_in_core core line ≡ true → is_in_core core other ≡ true → AreAdjacent (entry (matrix_of_runs m)) line other → AreInseparable m core line other
  adjacent_inseparable (Row row) (Row other) h g n R C apart = absurd n
  adjacent_inseparable (Row row) (Column column) h g n R C apart = apart row column (contains_marked core.rows.items row h) (contains_marked core.columns.items column g) n
  adjacent_inseparable (Column column) (Row row) h g n R C apart =
      let both = apart row column (contains_marked core.rows.items row g) (contains_marked core.columns.items column h) n in
      (both.1, both.0)
  adjacent_inseparable (Column column) (Column other) h g n R C apart = absurd n
