use Rattle.std.proofs.Common.{◌<◌, ◌∙◌, subst, arith}
use Rattle.cmr_base.specs.ColumnSets.{has_column}
use Rattle.cmr_base.specs.Matrix.{Matrix}
use Rattle.camion_sign.proofs.NearFaults.{IsIfTouched, all_waiting}
use Rattle.camion_sign.proofs.Steps.{column_after}
use Rattle.camion_sign.proofs.near_columns.add_touched.Goals as goal
use Rattle.camion_sign.proofs.near_columns.add_touched.Goals.{then-is_touched, else-is_touched}

pub is_touched-requires : goal.is_touched-requires
is_touched-requires c = subst (λ (a : Matrix). c.in-Some.column < a.width) c.by_rows.ensures.matrix c.in-Some.ensures.first.1

pub insert-requires : goal.insert-requires
insert-requires c =
    let inside : c.in-Some.column < c.args.matrix.now.width = subst (λ (a : Matrix). c.in-Some.column < a.width) c.by_rows.ensures.matrix c.in-Some.ensures.first.1 in
    omega (arith, inside, c.loop-column.invariant.size, c.requires.size)

pub loop-column-preserved : goal.loop-column-preserved
loop-column-preserved c =
    let m = c.args.matrix.now in
    let t = c.args.row in
    let rows = c.by_rows.result.now in
    let column = c.in-Some.column in
    let found = c.in-Some.ensures.first in
    let before = c.loop-column.invariant in
    let inside : column < m.width = subst (λ (a : Matrix). column < a.width) c.by_rows.ensures.matrix found.1 in
    elim c.if-is_touched.branch [
      | then-is_touched w ↦ record {
        size = rw w.columns-is (w.insert.ensures.size ∙ before.size);
        added = rw w.columns-is (column_after m rows t c.loop-column.from column (IsIfTouched m t (has_column w.insert.new.self.words)) c.by_rows.ensures.matrix found.3
            (λ d low one r early touches. w.insert.ensures.kept d (before.added d low one r early touches))
            (λ r early touches. w.insert.ensures.here));
        inside = omega (arith, inside);
      }
      | else-is_touched w ↦ record {
        size = rw w.columns-is before.size;
        added = rw w.columns-is (column_after m rows t c.loop-column.from column (IsIfTouched m t (has_column c.loop-column.columns.words)) c.by_rows.ensures.matrix found.3 before.added
            (λ r early touches. absurd (c.is_touched.ensures w.if-is_touched.false r early touches)));
        inside = omega (arith, inside);
      }
    ]

pub returns-clause-waits : goal.returns-clause-waits
returns-clause-waits c = all_waiting c.args.matrix.now c.by_rows.result.now c.args.row c.loop-column.from (has_column c.loop-column.columns.words) c.by_rows.ensures.matrix c.in_default.ensures.first c.loop-column.invariant.added
