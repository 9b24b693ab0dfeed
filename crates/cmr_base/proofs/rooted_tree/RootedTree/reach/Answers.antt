use Rattle.std.proofs.Common.{arith, sym, length, subst}
use Rattle.std.proofs.lemmas.Result.{on_ok_weaker}
use Rattle.cmr_base.specs.RootedTrees.{HasNode}
use Rattle.cmr_base.proofs.RootedTreeSteps.{end_in_range, fewer_links, hung, joins_ends, last_node, on_ok_both}
use Rattle.cmr_base.proofs.rooted_tree.RootedTree.reach.Goals as goal

pub hang-requires-clause-few : goal.hang-requires-clause-few
hang-requires-clause-few c =
    let low = end_in_range c.args.arcs.now (length c.args.arcs.now) c.args.end c.args.arc c.requires.range c.requires.arc in
    let l = fewer_links c.args.arcs.now c.args.self.now.links.items c.args.self.now.places.items c.requires.rooted c.of-node.result (omega (arith, low, c.of-node.ensures))
    (λ e. let t = c.if-has.ensures.1 e in cc) in
    omega (arith, l, c.requires.few)

pub returns-clause-rooted : goal.returns-clause-rooted
returns-clause-rooted c =
    let arcs = c.args.arcs.now in
    let low = end_in_range c.args.arcs.now (length c.args.arcs.now) c.args.end c.args.arc c.requires.range c.requires.arc in
    on_ok_both c.hang.result (λ e f. hung c.args.arcs.now c.args.self.now.links.items c.args.self.now.places.items
    (record { node = c.of-node.result; above = c.args.above; arc = c.args.arc }) c.hang.new.self.links.items c.hang.new.self.places.items c.requires.rooted
    (omega (arith, low, c.of-node.ensures)) (λ e. let t = c.if-has.ensures.1 e in cc) c.requires.place c.requires.arc
    (joins_ends c.args.arcs.now c.args.end c.args.arc _ _ (sym c.of-node.ensures) c.requires.above) e f)
    c.hang.ensures.links c.hang.ensures.places

pub returns-clause-there : goal.returns-clause-there
returns-clause-there c = on_ok_weaker c.hang.result
    (λ e. subst (HasNode c.hang.new.self.links.items) c.of-node.ensures
    (last_node c.args.self.now.links.items (record { node = c.of-node.result; above = c.args.above; arc = c.args.arc }) c.hang.new.self.links.items e))
    c.hang.ensures.links
