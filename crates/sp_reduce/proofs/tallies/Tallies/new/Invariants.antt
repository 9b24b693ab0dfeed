use Rattle.sp_reduce.specs.Tallies.{AreTallies}
use Rattle.sp_reduce.proofs.tallies.Tallies.new.Given as goal

abbrev pub invariant-rows : goal.invariant-rows
invariant-rows l = AreTallies l.matrix l.kind l.visited l.marks l.row 0 l.tallies
