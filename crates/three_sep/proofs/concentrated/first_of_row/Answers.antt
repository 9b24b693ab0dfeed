use Rattle.std.proofs.Common.{[], ◌∷◌, ◌≢◌, ℕ, pos, sym, arith, subst}
use Rattle.cmr_base.specs.Matrix.{Matrix, entry}
use Rattle.three_sep.specs.declared.row_search.RowSearch.{RowSearch}
use Rattle.three_sep.specs.RowSearches.{IsRowSearchOf}
use Rattle.three_sep.proofs.RowSearchLemmas.{found_in_row, from_row, same_row}
use Rattle.three_sep.proofs.SearchLemmas.{found_some, none_more, level_ends, none_below_more, good_inside, no_good_corner}
use Rattle.three_sep.proofs.concentrated.first_of_row.Goals as goal
use Rattle.three_sep.proofs.concentrated.first_of_row.Goals.{then-is_nonzero+in_ok-three+in_default, else-is_nonzero}

pub first_of_corner-requires-clause-nonzero : goal.first_of_corner-requires-clause-nonzero
first_of_corner-requires-clause-nonzero c = from_row _ _ c.loop-p.search c.loop-p.invariant.1 (λ (n : Matrix) (x : ℕ). entry n x c.loop-p.p ≢ pos 0) (c.is_nonzero.ensures.yes c.if-is_nonzero.true)

pub returns-in-Some : goal.returns-in-Some
returns-in-Some c =
    found_some c.args.matrix.now (3 ∷ c.args.i ∷ []) c.loop-p.p c.in_ok-three.field-0 c.in-Some.three (omega arith) c.loop-p.invariant.0 c.in-Some.is
    (found_in_row c.args.matrix.now c.args.i c.loop-p.search c.loop-p.invariant.1 (c.loop-p.p ∷ []) c.in_ok-three.field-0 c.in_ok-three.ensures.found)

pub loop-p-preserved : goal.loop-p-preserved
loop-p-preserved c =
    let m = c.args.matrix.now in
    let i = c.args.i in
    elim c.if-is_nonzero.branch [
      | then-is_nonzero+in_ok-three+in_default w ↦ (
        none_more m (3 ∷ i ∷ []) c.loop-p.p w.in_ok-three.field-0 c.loop-p.invariant.0 w.in_default.is (found_in_row m i c.loop-p.search c.loop-p.invariant.1 (c.loop-p.p ∷ []) w.in_ok-three.field-0 w.in_ok-three.ensures.found),
        subst (λ (v : RowSearch). IsRowSearchOf m i v) (sym w.search-is) (same_row m i c.loop-p.search c.loop-p.invariant.1 _ w.in_ok-three.ensures.row),
      )
      | else-is_nonzero w ↦ (
        none_below_more m (3 ∷ i ∷ []) c.loop-p.p c.loop-p.invariant.0 (no_good_corner m 3 i c.loop-p.p (c.is_nonzero.ensures.no w.if-is_nonzero.false)),
        subst (λ (v : RowSearch). IsRowSearchOf m i v) (sym w.search-is) c.loop-p.invariant.1,
      )
    ]

pub returns : goal.returns
returns c = level_ends c.args.matrix.now (3 ∷ c.args.i ∷ []) c.loop-p.p (omega arith) c.loop-p.invariant.0
    (λ s S b g h. let k = (good_inside c.args.matrix.now s S g).column_one in let e = h.1.1.0 in let l = c.loop-p-test.false in let r = c.columns-p-end.ensures.columns in omega arith)
