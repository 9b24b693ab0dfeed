-- What a verdict says of a matrix: it is totally unimodular, or it has a violator.
use Rattle.cmr_base.specs.declared.line_set.LineSet.{LineSet}
use Rattle.cmr_base.specs.Matrix.{Matrix}
use Rattle.cmr_base.specs.Determinants.{HasUnimodularMinors}
use Rattle.cmr_base.specs.Signing.{IsTotallyUnimodular}
use Rattle.determinant_two.specs.DeterminantTwo.{HasDeterminantTwo}
use Rattle.ghouila.specs.IntegralLaws.{HasIntegralVertices}
use Rattle.tree_laws.specs.Laws.{IsRefuted}

-- Each set of rows has a signing, each square submatrix the determinant -1, 0 or 1, and for every integral b the vertices of
-- A x ≤ b, x ≥ 0 are integral.
pub record IsUnimodular (m : Matrix) : Type 0 where
  pub signings : IsTotallyUnimodular m
  pub minors : HasUnimodularMinors m
  pub vertices : HasIntegralVertices m

-- These lines are a violator, whose rows have no signing. Some of them form a square submatrix with determinant 2 or -2.
pub record IsNotUnimodular (m : Matrix) (fault : LineSet) : Type 0 where
  pub refuted : IsRefuted m fault
  pub minor : HasDeterminantTwo m fault.rows fault.columns
