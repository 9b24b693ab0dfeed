use Rattle.std.proofs.Common.{sym, subst}
use Rattle.tree_type.specs.DecompositionTrees.{OneSum, trees_of}
use Rattle.tree_type.specs.Places.{lines_of_each}
use Rattle.cert_check.specs.Answers.{IsFirstBrokenRule}
use Rattle.cert_check.proofs.ApartRules.{apart_says}
use Rattle.cert_check.proofs.apart_rule.apart_rule.Goals as goal

pub returns : goal.returns
returns c =
    subst (IsFirstBrokenRule c.args.matrix.now c.args.lines.now OneSum (lines_of_each (trees_of c.args.children.now))) (sym c.unless.ensures)
    (apart_says c.args.matrix.now c.args.lines.now c.args.children.now c.as_slice.result.now c.are_apart.result c.as_slice.ensures.items c.are_apart.ensures)
