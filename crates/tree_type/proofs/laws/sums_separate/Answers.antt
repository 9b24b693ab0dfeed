use Rattle.tree_type.proofs.SideLemmas.{two_sums_separate, three_sums_separate, two_sums_have_children, three_sums_have_children}
use Rattle.tree_type.proofs.laws.sums_separate.Goals as goal

pub returns-clause-two : goal.returns-clause-two
returns-clause-two c = two_sums_separate

pub returns-clause-three : goal.returns-clause-three
returns-clause-three c = three_sums_separate

pub returns-clause-two_children : goal.returns-clause-two_children
returns-clause-two_children c = two_sums_have_children

pub returns-clause-three_children : goal.returns-clause-three_children
returns-clause-three_children c = three_sums_have_children
