use Rattle.std.proofs.Common.{◌||◌}
use Rattle.graph_realise.specs.SideTables.{side_in, end_in}
use Rattle.graph_realise.specs.BitTables.{cell}
use Rattle.graph_realise.proofs.JoinLemmas.{changed_by}
use Rattle.graph_realise.proofs.joining.add_part.Goals as goal

pub returns : goal.returns
returns c =
    let joint = c.args.joint.now in
    let old = c.args.sides.now in
    changed_by old c.add.new.self c.add-2.new.self c.add-3.new.self c.args.arc (λ other. side_in old c.args.arc other || cell joint.row_marks c.args.part other)
    (λ end column. end_in old end c.args.arc column || cell joint.column_marks c.args.part column) c.add.ensures c.add-2.ensures c.add-3.ensures c.requires.ends_wide
