use Rattle.camion_sign.proofs.FullSquares.{full_squares}
use Rattle.camion_sign.proofs.laws.full_two.Goals as goal

pub returns : goal.returns
returns c = λ m is. full_squares m is.small
