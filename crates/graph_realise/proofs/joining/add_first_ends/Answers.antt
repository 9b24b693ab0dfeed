use Rattle.std.proofs.Common.{◌&&◌, ◌||◌, ◌∙◌, true, false, refl, sym, ap}
use Rattle.cmr_base.specs.Trees.{support}
use Rattle.cmr_base.proofs.Booleans.{and_same, or_false}
use Rattle.graph_realise.specs.SideTables.{side_in, end_in}
use Rattle.graph_realise.specs.BitTables.{cell}
use Rattle.graph_realise.proofs.JoinLemmas.{changed_by, filled_as, filled_same}
use Rattle.graph_realise.proofs.joining.add_first_ends.Goals as goal

pub returns : goal.returns
returns c =
    let m = c.args.matrix.now in
    let M = support m in
    let row = c.args.joint.now.row in
    let old = c.args.sides.now in
    changed_by old old.arcs c.add_common.new.self old.last row (λ other. side_in old row other) (λ end column. end_in old end row column || (end && M row column))
    (filled_same (λ other. side_in old row other) old.arcs row (λ column l. refl))
    (filled_as (λ column. cell old.first row column || M row column && M row column) (λ column. cell old.first row column || (true && M row column)) old.first c.add_common.new.self row
    (λ column. ap (λ t. cell old.first row column || t) (and_same (M row column))) c.add_common.ensures)
    (filled_same (λ column. cell old.last row column || (false && M row column)) old.last row (λ column l. sym (or_false (cell old.last row column))))
    (c.requires.tables.last_width ∙ sym c.requires.tables.first_width)
