use Rattle.std.proofs.Common.{◌<◌, length, arith}
use Rattle.std.proofs.lemmas.Option.{get_or_from_slice_get}
use Rattle.graph_text.proofs.WrittenEdges.{edge_pushed}
use Rattle.graph_text.proofs.write.push_edges.Goals as goal

pub loop-line-preserved : goal.loop-line-preserved
loop-line-preserved c =
    let edges = c.args.edges.now in
    let line = c.loop-line.line in
    let inside : line < length edges = omega (arith, c.loop-line-test.true, c.requires) in
    edge_pushed c.args.letter line edges c.get.result.now c.args.text.now.items c.loop-line.text.items c.push_edge.new.text.items inside (get_or_from_slice_get edges line c.get.result.now (record { tail = 0; head = 0 }) c.get.ensures) c.loop-line.invariant c.in_ok-push_edge.ensures
