use Rattle.std.proofs.Common.{[], ◌∷◌, ◌≢◌, ℕ, pos, refl, arith}
use Rattle.cmr_base.specs.Matrix.{Matrix, entry}
use Rattle.three_sep.proofs.SearchLemmas.{found_some, none_more, level_ends, good_inside}
use Rattle.three_sep.proofs.ConcentratedLemmas.{no_candidates}
use Rattle.three_sep.proofs.RowSearchLemmas.{found_in_row, from_row, same_row}
use Rattle.three_sep.proofs.row_search.RowSearch.first_of_corner.Goals as goal

pub returns-then-is_empty-clause-found : goal.returns-then-is_empty-clause-found
returns-then-is_empty-clause-found c = let self = c.args.self.now in no_candidates self.matrix.now self.row c.args.p self.candidates self.are_candidates (c.if-is_empty.ensures.0 refl)

pub first_of_second_row-requires-clause-nonzero : goal.first_of_second_row-requires-clause-nonzero
first_of_second_row-requires-clause-nonzero c = from_row _ _ c.loop-k.self c.loop-k.invariant.1 (λ (n : Matrix) (x : ℕ). entry n x c.args.p ≢ pos 0) c.requires.nonzero

pub returns-in-Some-clause-found : goal.returns-in-Some-clause-found
returns-in-Some-clause-found c =
    let self = c.args.self.now in
    found_some self.matrix.now (3 ∷ self.row ∷ c.args.p ∷ []) c.loop-k.k c.in_ok-three.field-0 c.in-Some.three (omega arith) c.loop-k.invariant.0 c.in-Some.is (found_in_row self.matrix.now self.row c.loop-k.self c.loop-k.invariant.1 (c.args.p ∷ c.loop-k.k ∷ []) c.in_ok-three.field-0 c.in_ok-three.ensures.found)

pub loop-k-preserved : goal.loop-k-preserved
loop-k-preserved c =
    let self = c.args.self.now in (
      none_more self.matrix.now (3 ∷ self.row ∷ c.args.p ∷ []) c.loop-k.k c.in_ok-three.field-0 c.loop-k.invariant.0 c.in_default.is (found_in_row self.matrix.now self.row c.loop-k.self c.loop-k.invariant.1 (c.args.p ∷ c.loop-k.k ∷ []) c.in_ok-three.field-0 c.in_ok-three.ensures.found),
      same_row self.matrix.now self.row c.loop-k.self c.loop-k.invariant.1 _ c.in_ok-three.ensures.row,
    )

pub returns-clause-found : goal.returns-clause-found
returns-clause-found c =
    let self = c.args.self.now in
    level_ends self.matrix.now (3 ∷ self.row ∷ c.args.p ∷ []) c.loop-k.k (omega arith) c.loop-k.invariant.0
    (λ s S b g h. let k = (good_inside self.matrix.now s S g).row_two in let e = h.1.1.1.0 in let l = c.loop-k-test.false in let r = c.rows-k-end.ensures.rows in omega arith)
