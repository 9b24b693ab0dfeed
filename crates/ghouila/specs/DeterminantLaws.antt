-- Signings and determinants.
use Rattle.std.specs.Prelude.{◌↔◌}
use Rattle.cmr_base.specs.Matrix.{Matrix}
use Rattle.cmr_base.specs.Signing.{IsTotallyUnimodular}
use Rattle.cmr_base.specs.Determinants.{HasUnimodularMinors}

-- each set of rows has a signing if and only if each square submatrix has the determinant -1, 0 or 1
abbrev pub GhouilaHouriEquivalence : Type 0
GhouilaHouriEquivalence = (m : Matrix) → IsTotallyUnimodular m ↔ HasUnimodularMinors m
