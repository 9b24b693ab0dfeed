use Rattle.std.proofs.Common.{◌≡◌, drop}
use Rattle.parity.specs.Equations.{number_of, reduced_by}
use Rattle.parity.proofs.basis.Basis.reduce.Given as goal

-- the remaining equations give the same result
abbrev pub invariant-loop-place : goal.invariant-loop-place
invariant-loop-place l = reduced_by (drop l.place l.self.equations) (number_of l.columns) ≡ reduced_by l.self.equations (number_of l.initial.columns)
