use Rattle.std.proofs.Common.{arith, refl, subst, Option, MatchOption}
use Rattle.std.proofs.lemmas.Result.{IfOk-weaker}
use Rattle.cmr_base.specs.declared.rooted_tree.RootedTree.{RootedTree}
use Rattle.cmr_base.specs.Trees.{IsTree}
use Rattle.cmr_base.specs.RootedTrees.{AreEndsInRange, IsSpanning}
use Rattle.cmr_base.proofs.ReproducedColumns.{reproduced_by_slices}
use Rattle.cmr_base.proofs.reproduce.is_reproduced.Goals as goal

pub returns-in-Some : goal.returns-in-Some
returns-in-Some c =
    let found = subst (λ (o : Option RootedTree). MatchOption o (¬ (IsTree c.as_slice-arcs.result.now c.rows-2.result)) (λ tree. IsTree c.as_slice-arcs.result.now c.rows-2.result × IsSpanning c.as_slice-arcs.result.now tree.links.items tree.places.items))
    c.in-Some.is c.in_ok-tree.ensures in
    let both = reproduced_by_slices c.args.comparison c.args.net.now c.args.matrix.now c.as_slice-arcs.result.now c.as_slice-walks.result.now c.as_slice-arcs.ensures c.as_slice-walks.ensures
    (subst (IsTree c.as_slice-arcs.result.now) c.rows-2.ensures.rows found.0) (omega (arith, c.if-walks-columns.false, c.columns.ensures.columns))
    (subst (AreEndsInRange c.as_slice-walks.result.now) c.rows.ensures.rows (c.if-not-are_in_range.ensures.0 refl)) in
    IfOk-weaker c.have_paths.result _ _ (λ yes h. ((λ t. both.1 (h.0 t)), (λ R. h.1 (both.0 R)))) c.have_paths.ensures
