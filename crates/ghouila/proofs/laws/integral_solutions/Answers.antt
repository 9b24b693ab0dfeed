use Rattle.ghouila.proofs.Vertices.{basic_solutions}
use Rattle.ghouila.proofs.laws.integral_solutions.Goals as goal

pub returns : goal.returns
returns c = basic_solutions
