use Rattle.std.proofs.Common.{ℕ, ◌<◌}
use Rattle.camion_sign.specs.RowSigns.{AgreeInSigns}
use Rattle.camion_sign.proofs.row_signs.agrees_with_earlier.Given as goal

abbrev pub invariant-loop-other : goal.invariant-loop-other
invariant-loop-other l = (r : ℕ) → r < l.other → AgreeInSigns l.matrix r l.row
