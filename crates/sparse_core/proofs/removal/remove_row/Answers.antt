use Rattle.std.proofs.Common.{refl}
use Rattle.sparse_core.proofs.Tests.{gone_row, mark_read, row_has_two, row_removed, untouched}
use Rattle.sparse_core.proofs.removal.remove_row.Goals as goal

pub returns-then-not-index : goal.returns-then-not-index
returns-then-not-index c = untouched c.args.rows.now c.args.core.now _ c.requires.stands (gone_row c.args.rows.now c.args.core.now c.args.row
    (mark_read c.args.core.now.rows.items c.args.row _ _ _ c.index.ensures c.requires.row c.requires.stands.rows c.if-not-index.true))

pub returns-in_default : goal.returns-in_default
returns-in_default c = row_has_two c.args.rows.now c.row.ensures.shape c.args.core.now c.args.core.now c.requires.stands c.args.row c.requires.row _ _ c.row.ensures.run c.deref.ensures.value
    c.in_default.ensures

pub returns : goal.returns
returns c = row_removed c.args.rows.now c.row.ensures.shape c.args.core.now _ c.requires.stands c.args.row c.requires.row _ _ c.row.ensures.run c.deref.ensures.value c.in-Some.reason _
    (mark_read c.args.core.now.rows.items c.args.row _ _ _ c.index.ensures c.requires.row c.requires.stands.rows c.if-not-index.false) c.in-Some.ensures c.in_ok-push.ensures.items refl refl
