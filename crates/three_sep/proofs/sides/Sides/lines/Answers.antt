use Rattle.cmr_base.specs.Matrix.{height}
use Rattle.line_growth.proofs.SetSteps.{listed_columns, listed_rows}
use Rattle.line_growth.specs.GrowingSets.{set_of}
use Rattle.three_sep.proofs.SideLemmas.{lines_of_filters}
use Rattle.three_sep.proofs.sides.Sides.lines.Goals as goal

pub returns : goal.returns
returns c =
    let self = c.args.self.now in
    let m = self.matrix.now in
    lines_of_filters (height m) m.width (set_of self.grown) _ _ (listed_rows m self.grown self.grown_fits _ c.in_ok-lines.ensures.rows) (listed_columns m self.grown self.grown_fits _ c.in_ok-lines.ensures.columns)
