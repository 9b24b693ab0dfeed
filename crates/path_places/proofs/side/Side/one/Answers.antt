use Rattle.std.proofs.lemmas.Result.{IfOk-weaker}
use Rattle.path_places.specs.SideMasks.{side_of}
use Rattle.path_places.proofs.SideLemmas.{listed_lines, other_lines}
use Rattle.path_places.proofs.side.Side.one.Goals as goal

pub returns-clause-side : goal.returns-clause-side
returns-clause-side c =
    let m = c.args.matrix.now in
    let side = side_of c.args.lines.now in
    let size = rw (c.rows.ensures.rows, c.columns.ensures.columns) at c.in_ok-one.ensures.size in
    let one = listed_lines m c.args.lines.now c.in_ok-one.one c.requires.rows c.requires.columns c.in_ok-one.ensures.lines in
    let two = other_lines m side c.in_ok-one.one c.in_ok-two.two one size c.size-rows.ensures.whole.words.inside c.size-columns.ensures.whole.words.inside c.in_ok-two.ensures.size c.in_ok-two.ensures.lines in
    IfOk-weaker c.between.result _ _ (λ found h. h side one two) c.between.ensures.side
