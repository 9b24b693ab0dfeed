use Rattle.cmr_base.specs.Trees.{support}
use Rattle.cmr_base.proofs.GraphicMatrices.{nonzero_in_range}
use Rattle.cmr_base.specs.ColumnSets.{has_column}
use Rattle.graph_realise.specs.declared.arc_sides.ArcSides.{ArcSides}
use Rattle.graph_realise.proofs.Stars.{ray_drawn, ray_others}
use Rattle.graph_realise.proofs.star.draw_ray.Goals as goal

pub returns-clause-drawn : goal.returns-clause-drawn
returns-clause-drawn c =
    let m = c.args.matrix.now in
    let after : ArcSides = record { arcs = c.clear.new.self; first = c.fill_outside.new.self; last = c.fill_common.new.self } in
    ray_drawn (support m) m.width (nonzero_in_range m c.rows-rows.ensures.shape.rectangular) (has_column c.columns_of-columns.result.now) (has_column c.args.seen.now.words) c.args.row
    c.columns_of-columns.ensures.columns c.args.sides.now _ c.requires.tables.first_width c.requires.tables.last_width c.clear.ensures c.fill_outside.ensures c.fill_common.ensures

pub returns-clause-others : goal.returns-clause-others
returns-clause-others c =
    let m = c.args.matrix.now in
    ray_others (support m) m.width (nonzero_in_range m c.rows-rows.ensures.shape.rectangular) (has_column c.columns_of-columns.result.now) (has_column c.args.seen.now.words) c.args.row
    c.columns_of-columns.ensures.columns c.args.sides.now _ c.requires.tables.first_width c.requires.tables.last_width c.clear.ensures c.fill_outside.ensures c.fill_common.ensures
