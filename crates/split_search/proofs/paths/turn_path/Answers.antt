use Rattle.std.proofs.Common.{◌∙◌, sym}
use Rattle.split_search.proofs.Turns.{column_inside, path_begins, turned_more}
use Rattle.split_search.proofs.paths.turn_path.Goals as goal

pub path-init : goal.path-init
path-init c = path_begins c.args._columns.now c.args.nodes.now c.args.marks.now.items c.args.from c.requires.from

pub turn-requires : goal.turn-requires
turn-requires c = column_inside c.args._columns.now c.args.nodes.now c.args.marks.now.items c.path.marks.items c.args.from c.path.row c.in-Some.edge
    c.requires.shape c.requires.spans c.requires.size c.path.invariant (sym c.above.ensures ∙ c.in-Some.is)

pub path-preserved : goal.path-preserved
path-preserved c = rw c.turn.ensures (turned_more c.args._columns.now c.args.nodes.now c.args.marks.now.items c.path.marks.items c.args.from c.path.row c.in-Some.edge
    c.requires.shape c.requires.spans c.requires.size c.path.invariant (sym c.above.ensures ∙ c.in-Some.is))
