use Rattle.three_sep.specs.HeldSides.{HoldsFirst}
use Rattle.std.proofs.Common.{[], ◌∷◌, ◌++◌}
use Rattle.three_sep.specs.Searches.{HasNoneBelow, corner_prefix}
use Rattle.three_sep.proofs.search.Search.first_of_connector.Given as goal

abbrev pub invariant-loop-o : goal.invariant-loop-o
invariant-loop-o l = HoldsFirst l.fn.self.matrix.now l.form l.corners l.q l.self × HasNoneBelow l.fn.self.matrix.now (corner_prefix l.form l.corners ++ l.q ∷ []) l.o
