use Rattle.std.proofs.Common.{◌≡◌, take}
use Rattle.parity.specs.Equations.{IsBasis}
use Rattle.parity.specs.PlaneSums.{equations_of}
use Rattle.parity.proofs.wide.eliminate.Given as goal

abbrev pub invariant-loop-row : goal.invariant-loop-row
invariant-loop-row l = record {
  so_far : IsBasis l.matrix.width l.sums.ones (equations_of l.matrix l.sums.ones (take l.row-index l.rows)) l.basis.equations;
  words : l.basis.words ≡ l.fn.basis.words;
}
