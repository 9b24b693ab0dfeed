use Rattle.std.proofs.Common.{◌<◌, ◌+◌, ◌∙◌, length, sym, subst, arith}
use Rattle.std.proofs.lemmas.Grind.{get_or_default_zero}
use Rattle.cmr_base.specs.Matrix.{Matrix}
use Rattle.camion_sign.specs.declared.column_parts.ColumnParts.{ColumnParts}
use Rattle.camion_sign.proofs.ColumnParts.{AreJoining, first_label, new_label, no_more_joined, row_joined, same_label}
use Rattle.camion_sign.proofs.column_parts.ColumnParts.join_row.Goals as goal
use Rattle.camion_sign.proofs.column_parts.ColumnParts.join_row.Goals.{then-label-kept, else-label-kept}

pub loop-column-init : goal.loop-column-init
loop-column-init c =
    let m = c.args.matrix.now in
    let parts = c.args.self.now in
    let first = c.in-Some.first in
    let found = c.in-Some.ensures.first in
    let inside : first < m.width = subst (λ (a : Matrix). first < a.width) c.by_rows-rows.ensures.matrix found.1 in
    let kept_is = sym (c.index-kept.ensures ∙ get_or_default_zero parts.labels.items first c.index-kept.result.now (omega (arith, inside, c.requires.parts.one_each))) in
    record {
      joining = first_label m c.by_rows-rows.result.now c.args.row first c.index-kept.result.now parts c.requires.parts c.by_rows-rows.ensures.matrix found.3 kept_is;
      inside = omega (arith, inside);
    }

pub loop-column-preserved : goal.loop-column-preserved
loop-column-preserved c =
    let m = c.args.matrix.now in
    let row = c.args.row in
    let rows = c.by_rows-rows.result.now in
    let is = c.requires.parts.matrix in
    let same = c.by_rows-rows.ensures.matrix in
    let column = c.in-Some-next_nonzero.column in
    let found = c.in-Some-next_nonzero.ensures.first in
    let from = c.loop-column.from in
    let kept = c.index-kept.result.now in
    let labels = c.loop-column.self.labels.items in
    let before = c.loop-column.invariant in
    let inside : column < m.width = subst (λ (a : Matrix). column < a.width) same found.1 in
    let in_labels : column < length labels = omega (arith, inside, before.joining.long) in
    let label = c.index-label.result.now in
    let label_is = sym (c.index-label.ensures ∙ get_or_default_zero labels column label in_labels) in
    record {
      joining = elim c.if-label-kept.branch [
        | then-label-kept w ↦ subst (λ (self : ColumnParts). AreJoining m row (column + 1) kept self.labels.items) (sym w.self-is) (new_label m rows row from column kept labels is c.requires.row same found.3 before.joining label w.join_labels.new.labels.items in_labels label_is w.join_labels.ensures)
        | else-label-kept w ↦ subst (λ (self : ColumnParts). AreJoining m row (column + 1) kept self.labels.items) (sym w.self-is) (same_label m rows row from column kept labels is c.requires.row same found.3 before.joining (label_is ∙ w.if-label-kept.false))
      ];
      inside = omega (arith, inside);
    }

pub returns-in_default : goal.returns-in_default
returns-in_default c = no_more_joined c.args.matrix.now c.by_rows-rows.result.now c.args.row c.args.self.now c.by_rows-rows.ensures.matrix c.in_default.ensures.first c.requires.parts

pub returns : goal.returns
returns c = row_joined c.args.matrix.now c.by_rows-rows.result.now c.args.row c.loop-column.from c.index-kept.result.now c.loop-column.self c.requires.parts.matrix c.by_rows-rows.ensures.matrix c.in_default-next_nonzero.ensures.first c.loop-column.invariant.joining
