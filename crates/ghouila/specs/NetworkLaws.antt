-- Network matrices and signings.
use Rattle.cmr_base.specs.Matrix.{Matrix, IsTernary}
use Rattle.cmr_base.specs.Signing.{IsTotallyUnimodular}
use Rattle.cmr_base.specs.Violator.{HasNoViolator}
use Rattle.cmr_base.specs.Trees.{IsNetworkMatrix, IsConetworkMatrix}

-- each set of rows of a network matrix has a signing, and so no submatrix is a violator
abbrev pub NetworkMatricesAreUnimodular : Type 0
NetworkMatricesAreUnimodular = (m : Matrix) → IsTernary m → IsNetworkMatrix m → IsTotallyUnimodular m × HasNoViolator m

-- the same law if the transposed matrix is a network matrix
abbrev pub ConetworkMatricesAreUnimodular : Type 0
ConetworkMatricesAreUnimodular = (m : Matrix) → IsTernary m → IsConetworkMatrix m → IsTotallyUnimodular m × HasNoViolator m
