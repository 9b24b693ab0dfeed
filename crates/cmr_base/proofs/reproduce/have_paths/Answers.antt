use Rattle.std.proofs.Common.{arith, refl, ap, sym, subst, ◌∙◌, ◌≡◌, ◌<◌, ℕ, length, replicate, pos}
use Rattle.std.proofs.lemmas.List.{length-replicate}
use Rattle.cmr_base.specs.Matrix.{height}
use Rattle.cmr_base.specs.Comparisons.{IsColumnPath}
use Rattle.cmr_base.proofs.Places.{each_more}
use Rattle.cmr_base.proofs.ReproducedColumns.{ColumnAgrees, column_by_directions, written_back}
use Rattle.cmr_base.proofs.reproduce.have_paths.Goals as goal

pub returns-then-not-column_agrees : goal.returns-then-not-column_agrees
returns-then-not-column_agrees c =
    let both = column_by_directions c.args.comparison c.args.arcs.now c.args.walks.now c.args.matrix.now c.loop-column.column _ c.requires.tree c.write_path.ensures.path in
    let inside : c.loop-column.column < c.args.matrix.now.width = omega (arith, c.loop-column-test.true, c.columns-column-end.ensures.columns) in
    let count : c.loop-column.directions.len ≡ height c.args.matrix.now =
    omega (arith, c.loop-column.directions.ok, ap length c.loop-column.invariant.0, length-replicate (height c.args.matrix.now) (pos 0)) in
    let back = written_back c.loop-column.directions.len c.write_path.new.directions _ (omega (arith, count, c.write_path.ensures.length, c.requires.tree.count)) in (
      (λ t. cc),
      (λ all.
          let agrees = both.0 (all c.loop-column.column inside) in
          let f = c.if-not-column_agrees.ensures.1 (subst (ColumnAgrees c.args.comparison c.args.matrix.now c.loop-column.column) (sym (c.deref.ensures.value ∙ back)) agrees) in cc),
    )

pub loop-column-preserved : goal.loop-column-preserved
loop-column-preserved c =
    let both = column_by_directions c.args.comparison c.args.arcs.now c.args.walks.now c.args.matrix.now c.loop-column.column _ c.requires.tree c.write_path.ensures.path in
    let count : c.loop-column.directions.len ≡ height c.args.matrix.now =
    omega (arith, c.loop-column.directions.ok, ap length c.loop-column.invariant.0, length-replicate (height c.args.matrix.now) (pos 0)) in
    let back = written_back c.loop-column.directions.len c.write_path.new.directions _ (omega (arith, count, c.write_path.ensures.length, c.requires.tree.count)) in
    let agrees = subst (ColumnAgrees c.args.comparison c.args.matrix.now c.loop-column.column) (c.deref.ensures.value ∙ back) (c.if-not-column_agrees.ensures.0 refl) in (
      c.fill.ensures.items (λ y e. e) ∙ ap (λ (n : ℕ). replicate n (pos 0)) count,
      each_more (IsColumnPath c.args.comparison c.args.arcs.now c.args.walks.now c.args.matrix.now) c.loop-column.column c.loop-column.invariant.1 (both.1 agrees),
    )
