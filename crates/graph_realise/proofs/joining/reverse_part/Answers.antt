use Rattle.std.proofs.Common.{◌&&◌, not}
use Rattle.graph_realise.specs.SideTables.{side_in, end_in}
use Rattle.graph_realise.specs.BitTables.{cell}
use Rattle.graph_realise.proofs.JoinLemmas.{changed_by}
use Rattle.graph_realise.proofs.joining.reverse_part.Goals as goal

pub returns : goal.returns
returns c =
    let joint = c.args.joint.now in
    let old = c.args.sides.now in
    changed_by old c.reverse.new.self c.reverse-2.new.self c.reverse-3.new.self c.args.arc (λ other. cell joint.row_marks c.args.own other && not (side_in old c.args.arc other))
    (λ end column. cell joint.column_marks c.args.own column && not (end_in old end c.args.arc column)) c.reverse.ensures c.reverse-2.ensures c.reverse-3.ensures c.requires.ends_wide
