use Rattle.std.proofs.Common.{◌∙◌, ◌||◌, ap}
use Rattle.cmr_base.specs.ColumnSets.{has_column}
use Rattle.bridge_split.proofs.ZeroSets.{common_zeros}
use Rattle.bridge_split.proofs.part_walk.PartWalk.meet.Goals as goal

pub returns-clause-reached : goal.returns-clause-reached
returns-clause-reached c = λ column.
    let self = c.args.self.now in
    let at = c.requires.room in
    c.add_common_words.ensures.columns column
    ∙ ap (λ t. has_column self.reached.words column || t) (common_zeros c.args.matrix.now c.args._row c.args.other self.zeros c.columns_of.result.now at.room.matrix at.zeros c.columns_of.ensures.columns column)
