use Rattle.std.proofs.Common.{subst}
use Rattle.decomp_tree.specs.Obstructions.{HasNoGraphicSupport}
use Rattle.decomp_tree.proofs.NoNetworks.{some_are_lines}
use Rattle.decomp_tree.proofs.obstructions.obstruction_in.Goals as goal

pub part-requires-clause-rows : goal.part-requires-clause-rows
part-requires-clause-rows c =
    (some_are_lines c.args.matrix.now c.args.lines.now (record { rows = c.in_ok-middle_of.field-0; columns = c.in_ok-middle_of-2.field-0 })
    c.requires.lines c.in_ok-middle_of.ensures c.in_ok-middle_of-2.ensures).rows.in_range

pub part-requires-clause-columns : goal.part-requires-clause-columns
part-requires-clause-columns c =
    (some_are_lines c.args.matrix.now c.args.lines.now (record { rows = c.in_ok-middle_of.field-0; columns = c.in_ok-middle_of-2.field-0 })
    c.requires.lines c.in_ok-middle_of.ensures c.in_ok-middle_of-2.ensures).columns.in_range

pub returns-then-branch-clause-known : goal.returns-then-branch-clause-known
returns-then-branch-clause-known c =
    let are = some_are_lines c.args.matrix.now c.args.lines.now (record { rows = c.in_ok-middle_of.field-0; columns = c.in_ok-middle_of-2.field-0 })
    c.requires.lines c.in_ok-middle_of.ensures c.in_ok-middle_of-2.ensures in
    record { are_lines = are; none = subst HasNoGraphicSupport c.in_ok-submatrix.ensures (c.in_ok-has_no_graphic_support.ensures c.if-branch.true) }
