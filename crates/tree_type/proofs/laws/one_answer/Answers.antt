use Rattle.tree_type.specs.DecompositionTrees.{tree_of}
use Rattle.tree_type.specs.Places.{places}
use Rattle.tree_type.proofs.OneRefusal.{one_refusal, sound_unbroken}
use Rattle.tree_type.proofs.SoundOrBroken.{sound_or_broken}
use Rattle.tree_type.proofs.laws.one_answer.Goals as goal

pub returns-clause-unbroken : goal.returns-clause-unbroken
returns-clause-unbroken c = λ m tree refusal sound broken. sound_unbroken m (places tree.rows tree.columns (tree_of tree.root)) refusal.path refusal.rule sound broken

pub returns-clause-one : goal.returns-clause-one
returns-clause-one c = λ m tree one other a b. one_refusal m (places tree.rows tree.columns (tree_of tree.root)) one.path other.path one.rule other.rule a b

pub returns-clause-either : goal.returns-clause-either
returns-clause-either c = λ m tree unbroken. sound_or_broken m (places tree.rows tree.columns (tree_of tree.root)) (λ path broken. unbroken (record { path = path; rule = broken }))
