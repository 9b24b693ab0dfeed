use Rattle.determinant_two.proofs.LeastViolatorsAreMinimal.{least_violators_are_minimal}
use Rattle.determinant_two.proofs.MinimalViolators.{violators_contain_minimal_violators, minimal_violators_are_square, minimal_violators_have_determinant_two}
use Rattle.determinant_two.proofs.laws.minimal_violators.Goals as goal

pub returns-clause-exist : goal.returns-clause-exist
returns-clause-exist c = violators_contain_minimal_violators

pub returns-clause-least : goal.returns-clause-least
returns-clause-least c = least_violators_are_minimal

pub returns-clause-square : goal.returns-clause-square
returns-clause-square c = minimal_violators_are_square

pub returns-clause-two : goal.returns-clause-two
returns-clause-two c = minimal_violators_have_determinant_two
