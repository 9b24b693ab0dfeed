use Rattle.std.proofs.Common.{◌∙◌, ◌∷◌, []}
use Rattle.std.proofs.lemmas.Result.{IfOk-weaker}
use Rattle.tree_type.specs.Sides.{inside, inside_with}
use Rattle.tree_type.proofs.Among.{inside_alone}
use Rattle.tree_type.proofs.ChildLines.{lines_are}
use Rattle.tree_type.proofs.child_lines.two_one.Goals as goal

pub returns : goal.returns
returns c =
    let lines = c.args.lines.now in
    let two = c.args.two.now in
    lines_are c.one_with.result (inside_with two.side.rows (two.row ∷ []) lines.rows) (inside two.side.columns lines.columns) c.one_with.ensures.rows
    (IfOk-weaker c.one_with.result _ _ (λ one e. e ∙ inside_alone two.side.columns lines.columns) c.one_with.ensures.columns)
