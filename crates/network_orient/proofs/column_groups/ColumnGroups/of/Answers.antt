use Rattle.std.proofs.Common.{◌+◌, ◌∙◌, replicate, pos, ap, arith}
use Rattle.cmr_base.specs.LineSets.{first_lines}
use Rattle.cmr_base.specs.Matrix.{height}
use Rattle.network_orient.proofs.ForcedSigns.{groups_later, no_row_joined, one_row_joined}
use Rattle.network_orient.proofs.column_groups.ColumnGroups.of.Goals as goal

pub loop-row-init : goal.loop-row-init
loop-row-init c =
    no_row_joined c.args.from.now c.args.to.now c.in_ok-groups.groups.groups.items c.in_ok-groups.groups.signs.items
    (c.in_ok-groups.ensures.groups ∙ ap first_lines c.columns.ensures.columns)
    (c.in_ok-groups.ensures.signs ∙ ap (λ width. replicate width (pos 1)) c.columns.ensures.columns)

pub join_row-requires-clause-groups : goal.join_row-requires-clause-groups
join_row-requires-clause-groups c =
    groups_later c.args.from.now c.args.to.now c.loop-row.row (c.loop-row.row + 1) c.loop-row.groups.groups.items c.loop-row.groups.signs.items (omega arith) c.loop-row.invariant.all

pub loop-row-preserved : goal.loop-row-preserved
loop-row-preserved c =
    one_row_joined c.args.from.now c.args.to.now c.loop-row.row c.loop-row.groups.groups.items c.join_row.new.self.groups.items c.loop-row.groups.signs.items c.join_row.new.self.signs.items
    c.loop-row.invariant c.join_row.ensures.groups c.join_row.ensures.coarser c.join_row.ensures.kept c.join_row.ensures.joined

pub returns-clause-groups : goal.returns-clause-groups
returns-clause-groups c =
    groups_later c.args.from.now c.args.to.now c.loop-row.row (height c.args.from.now) c.loop-row.groups.groups.items c.loop-row.groups.signs.items
    (omega (arith, c.loop-row.auto.row-end, c.rows-row-end.ensures.rows)) c.loop-row.invariant.all

pub returns-clause-forced : goal.returns-clause-forced
returns-clause-forced c = λ row l. c.loop-row.invariant.forced row (omega (arith, l, c.loop-row-test.false, c.loop-row.auto.row-end, c.rows-row-end.ensures.rows))
