use Rattle.std.proofs.Common.{◌≡◌}
use Rattle.three_sep.specs.Searches.{HasNoneBelow, corner_prefix}
use Rattle.three_sep.proofs.search.Search.first_of_corners.Given as goal

abbrev pub invariant-loop-q : goal.invariant-loop-q
invariant-loop-q l = (l.self.matrix.now ≡ l.fn.self.matrix.now) × HasNoneBelow l.fn.self.matrix.now (corner_prefix l.form l.corners) l.q
