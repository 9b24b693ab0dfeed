use Rattle.std.proofs.Common.{◌≡◌, ◌∙◌, rules, to_z, of_z, w8}
use Rattle.std.proofs.lemmas.Int.{to_z-of_z}
use Rattle.graph_text.specs.SupportMatrix.{one_at}
use Rattle.cmr_base.proofs.FilledCells.{entry_pushed}
use Rattle.graph_text.proofs.matrix.push_support.Goals as goal

pub loop-column-preserved : goal.loop-column-preserved
loop-column-preserved c =
    let m = c.args.matrix.now in
    let value : c.from.result ≡ one_at m c.args.row c.loop-column.column = search rules in
    let byte : to_z w8 (of_z w8 c.from.result) ≡ c.from.result = to_z-of_z w8 c.from.result (search rules) in
    c.in_ok-push.ensures.items ∙ entry_pushed (one_at m c.args.row) c.loop-column.column c.args.cells.now.items c.loop-column.cells.items (to_z w8 (of_z w8 c.from.result)) (byte ∙ value) c.loop-column.invariant
