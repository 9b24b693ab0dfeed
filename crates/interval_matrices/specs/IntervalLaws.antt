-- Interval matrices are totally unimodular.
use Rattle.cmr_base.specs.Matrix.{Matrix, IsTernary}
use Rattle.cmr_base.specs.Signing.{IsTotallyUnimodular}
use Rattle.cmr_base.specs.Violator.{HasNoViolator}
use Rattle.interval_matrices.specs.Intervals.{IsIntervalMatrix}

abbrev pub IntervalMatricesAreUnimodular : Type 0
IntervalMatricesAreUnimodular = (m : Matrix) → IsTernary m → IsIntervalMatrix m → IsTotallyUnimodular m × HasNoViolator m
