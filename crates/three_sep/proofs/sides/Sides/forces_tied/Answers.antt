use Rattle.std.proofs.Common.{◌<◌, true, false, subst, sym, arith}
use Rattle.cmr_base.specs.Matrix.{Matrix, height}
use Rattle.cmr_base.proofs.Parts.{height-transposed}
use Rattle.three_sep.specs.TiedLines.{ForcesAlong}
use Rattle.three_sep.proofs.TiedLemmas.{forces_both}
use Rattle.three_sep.proofs.sides.Sides.forces_tied.Goals as goal

pub forces_along-requires-2-clause-own : goal.forces_along-requires-2-clause-own
forces_along-requires-2-clause-own c =
    subst (λ (n : Matrix). c.args.own.column < height n) (sym c.by_columns-columns.ensures.matrix) (let heights = height-transposed c.args.self.now.matrix.now in omega (arith, heights, c.requires.own_column))

pub forces_along-requires-2-clause-across : goal.forces_along-requires-2-clause-across
forces_along-requires-2-clause-across c =
    subst (λ (n : Matrix). c.args.across.column < height n) (sym c.by_columns-columns.ensures.matrix) (let heights = height-transposed c.args.self.now.matrix.now in omega (arith, heights, c.requires.across_column))

pub returns-clause-forced : goal.returns-clause-forced
returns-clause-forced c = λ yes start g.
    let matrix = c.args.self.now.matrix.now in
    let forced = rw c.in_ok-forces_along.ensures.kept.matrix at c.in_ok-forced.ensures.forced in
    forces_both matrix c.args.rule start c.args.own c.args.across c.by_rows.ensures.shape
    (subst (λ (n : Matrix). ForcesAlong matrix c.args.rule start n c.args.own.row c.args.across.row true n.width) c.by_rows.ensures.matrix
    (c.in_ok-forces_along.ensures.forced c.if-not-branch.false start g))
    (subst (λ (n : Matrix). ForcesAlong matrix c.args.rule start n c.args.own.column c.args.across.column false n.width) c.by_columns-columns.ensures.matrix
    (forced yes start (c.in_ok-forces_along.ensures.growing start g)))
