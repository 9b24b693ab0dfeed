use Rattle.std.proofs.Common.{◌<◌, ℕ}
use Rattle.r10_leaf.specs.Tables.{HasColumn}
use Rattle.r10_leaf.proofs.test.fits.Given as goal

abbrev pub invariant-loop-place : goal.invariant-loop-place
invariant-loop-place l = (j : ℕ) → j < l.place → HasColumn l.matrix l.table l.rows j
