use Rattle.std.proofs.Common.{arith}
use Rattle.cmr_base.specs.Matrix.{height}
use Rattle.cmr_base.proofs.Parts.{length-increasing}
use Rattle.decomp_tree.proofs.obstructions.size_of.Goals as goal

pub size-requires-clause-rows : goal.size-requires-clause-rows
size-requires-clause-rows c =
    let r = length-increasing c.args.lines.now.rows (height c.args._matrix.now) c.requires.lines.rows.increasing c.requires.lines.rows.in_range in
    let h = c.requires.shape.height_in in
    omega (arith, r, h)

pub size-requires-clause-columns : goal.size-requires-clause-columns
size-requires-clause-columns c =
    let r = length-increasing c.args.lines.now.columns c.args._matrix.now.width c.requires.lines.columns.increasing c.requires.lines.columns.in_range in
    let w = c.requires.shape.width_in in
    omega (arith, r, w)

pub returns : goal.returns
returns c =
    let r = length-increasing c.args.lines.now.rows (height c.args._matrix.now) c.requires.lines.rows.increasing c.requires.lines.rows.in_range in
    let s = length-increasing c.args.lines.now.columns c.args._matrix.now.width c.requires.lines.columns.increasing c.requires.lines.columns.in_range in
    let h = c.requires.shape.height_in in
    let w = c.requires.shape.width_in in
    let e = c.size.ensures in
    omega (arith, r, s, h, w, e)
