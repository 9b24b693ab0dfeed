use Rattle.std.proofs.Common.{◌∙◌, refl, sym}
use Rattle.sparse_core.proofs.Tests.{gone_column, column_has_two, column_removed, mark_read, untouched}
use Rattle.sparse_core.proofs.removal.remove_column.Goals as goal

pub returns-then-not-index : goal.returns-then-not-index
returns-then-not-index c = untouched c.args._rows.now c.args.core.now _ c.requires.stands (gone_column c.args._rows.now c.args.core.now c.args.column
    (mark_read c.args.core.now.columns.items c.args.column _ _ _ c.index.ensures c.requires.column (c.requires.stands.columns ∙ sym c.requires.crossed.rows) c.if-not-index.true))

pub returns-in_default : goal.returns-in_default
returns-in_default c = column_has_two c.args._rows.now c.args.columns.now c.rows-height.ensures.shape c.requires.crossed c.args.core.now c.args.core.now c.requires.stands c.args.column c.requires.column
    _ _ c.row.ensures.run c.deref.ensures.value c.in_default.ensures

pub returns : goal.returns
returns c = column_removed c.args._rows.now c.args.columns.now c.rows-height.ensures.shape c.requires.crossed c.args.core.now _ c.requires.stands c.args.column c.requires.column
    _ _ c.row.ensures.run c.deref.ensures.value c.in-Some.reason _
    (mark_read c.args.core.now.columns.items c.args.column _ _ _ c.index.ensures c.requires.column (c.requires.stands.columns ∙ sym c.requires.crossed.rows) c.if-not-index.false) c.in-Some.ensures c.in_ok-push.ensures.items refl refl
