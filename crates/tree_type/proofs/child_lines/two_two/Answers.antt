use Rattle.std.proofs.Common.{◌∙◌, ◌∷◌, []}
use Rattle.std.proofs.lemmas.Result.{IfOk-weaker}
use Rattle.tree_type.specs.Sides.{outside, outside_with}
use Rattle.tree_type.proofs.Among.{outside_alone}
use Rattle.tree_type.proofs.ChildLines.{lines_are}
use Rattle.tree_type.proofs.child_lines.two_two.Goals as goal

pub returns : goal.returns
returns c =
    let lines = c.args.lines.now in
    let two = c.args.two.now in
    lines_are c.other_with.result (outside two.side.rows lines.rows) (outside_with two.side.columns (two.column ∷ []) lines.columns)
    (IfOk-weaker c.other_with.result _ _ (λ other e. e ∙ outside_alone two.side.rows lines.rows) c.other_with.ensures.rows) c.other_with.ensures.columns
