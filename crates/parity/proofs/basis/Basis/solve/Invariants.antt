use Rattle.std.proofs.Common.{◌≡◌, ◌-◌, drop}
use Rattle.parity.specs.Equations.{number_of, solved}
use Rattle.parity.proofs.basis.Basis.solve.Given as goal

-- the last equations are solved
abbrev pub invariant-loop-turn : goal.invariant-loop-turn
invariant-loop-turn l = number_of l.columns ≡ solved (drop (l.count - l.turn) l.self.equations) (number_of l.initial.columns)
