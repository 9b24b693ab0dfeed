use Rattle.std.specs.Prelude.{◌≡◌, length}
use Rattle.parity.specs.declared.sums.Sums.TheInside.{Inside}
use Rattle.parity.specs.Equations.{number_of}
use Rattle.parity.specs.PlaneSums.{SumPlanes}

abbrev pub planes_of : Inside → SumPlanes
planes_of a = record { words = length a.ones.items; ones = number_of a.ones.items; twos = number_of a.twos.items }

abbrev pub AreAsLong : Inside → Type 0
AreAsLong a = length a.twos.items ≡ length a.ones.items
