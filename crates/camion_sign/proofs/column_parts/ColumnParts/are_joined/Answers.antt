use Rattle.std.proofs.Common.{◌∙◌, sym, arith}
use Rattle.std.proofs.lemmas.Grind.{get_or_default_zero}
use Rattle.cmr_base.proofs.RowLists.{ne_of}
use Rattle.camion_sign.proofs.ColumnParts.{one_part}
use Rattle.camion_sign.proofs.column_parts.ColumnParts.are_joined.Goals as goal

pub returns : goal.returns
returns c differ path is =
    let labels = c.args.self.now.labels.items in
    let parts = c.requires.parts in
    let one = c.index.ensures ∙ get_or_default_zero labels c.args.one c.index.result.now (omega (arith, c.requires.one, parts.one_each)) in
    let other = c.index-2.ensures ∙ get_or_default_zero labels c.args.other c.index-2.result.now (omega (arith, c.requires.other, parts.one_each)) in
    ne_of c.index.result.now c.index-2.result.now differ (one ∙ one_part c.args.matrix.now c.args.row labels parts.joined c.args.one c.args.other path is ∙ sym other)
