use Rattle.std.proofs.Common.{◌≡◌, ◌∙◌, ℕ, ℤ, List, pos, length, get_or, replicate, arith, ap, sym, subst, rules}
use Rattle.std.proofs.lemmas.List.{length-replicate}
use Rattle.cmr_base.specs.Matrix.{IsEntry}
use Rattle.cmr_base.specs.WrittenColumns.{IsColumnWritten}
use Rattle.cmr_base.proofs.ReproducedColumns.{written_back}
use Rattle.cmr_base.proofs.ColumnSteps.{no_paths_written, one_path_written, path_is_small}
use Rattle.cmr_base.proofs.network_matrix.matrix_of_paths.Goals as goal

pub loop-column-init : goal.loop-column-init
loop-column-init c =
    let zeros : c.in_ok-directions.directions.items ≡ replicate (length c.args.arcs.now) (pos 0) = search rules in
    (zeros, no_paths_written c.args.arcs.now c.args.walks.now c.in_ok-matrix.matrix c.columns-column-end.ensures.shape c.in_ok-matrix.ensures)

pub write_column-requires-clause-small : goal.write_column-requires-clause-small
write_column-requires-clause-small c =
    let count : c.loop-column.directions.len ≡ length c.args.arcs.now =
    omega (arith, c.loop-column.directions.ok, ap length c.loop-column.invariant.0, length-replicate (length c.args.arcs.now) (pos 0)) in
    let back = written_back c.loop-column.directions.len c.write_path.new.directions _ (omega (arith, count, c.write_path.ensures.length)) in
    λ row. subst (λ (entries : List ℤ). IsEntry (get_or entries row (pos 0))) (sym (c.deref.ensures.value ∙ back))
    (path_is_small c.args.arcs.now c.write_path.new.directions _ _ c.write_path.ensures.length c.write_path.ensures.path row)

pub loop-column-preserved : goal.loop-column-preserved
loop-column-preserved c =
    let arcs = c.args.arcs.now in
    let walks = c.args.walks.now in
    let count : c.loop-column.directions.len ≡ length arcs = omega (arith, c.loop-column.directions.ok, ap length c.loop-column.invariant.0, length-replicate (length arcs) (pos 0)) in
    let back = written_back c.loop-column.directions.len c.write_path.new.directions _ (omega (arith, count, c.write_path.ensures.length)) in (
      c.fill.ensures.items (λ y e. e) ∙ ap (λ (n : ℕ). replicate n (pos 0)) count,
      one_path_written arcs walks c.loop-column.matrix c.write_column.new.matrix c.loop-column.column c.write_path.new.directions c.loop-column.invariant.1 c.write_path.ensures.length c.write_path.ensures.path
          (subst (λ (entries : List ℤ). IsColumnWritten c.loop-column.matrix c.write_column.new.matrix c.loop-column.column entries (length entries)) (c.deref.ensures.value ∙ back) c.write_column.ensures),
    )
