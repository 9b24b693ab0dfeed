use Rattle.std.proofs.Common.{[], ◌∷◌, ◌++◌, ap, arith, ◌∙◌, Bool}
use Rattle.cmr_base.specs.Separations.{second_is_flat}
use Rattle.three_sep.specs.Searches.{corner_prefix, line_count}
use Rattle.three_sep.proofs.SearchLemmas.{below_line, found_some, none_more, level_ends, second_below}
use Rattle.three_sep.proofs.KeptSideLemmas.{held_at_own}
use Rattle.three_sep.proofs.search.Search.first_of_connector.Goals as goal

pub first_of_other-requires-clause-line : goal.first_of_other-requires-clause-line
first_of_other-requires-clause-line c =
    rw c.loop-o.invariant.0.matrix (below_line c.args.self.now.matrix.now (second_is_flat c.args.form) c.loop-o.o (let l = c.loop-o-test.true in let e = c.count_of-o-end.ensures.count ∙ ap (λ (z : Bool). line_count c.args.self.now.matrix.now z) c.second_is_flat.ensures in omega arith))

pub returns-in-Some-clause-found : goal.returns-in-Some-clause-found
returns-in-Some-clause-found c = found_some c.args.self.now.matrix.now (corner_prefix c.args.form c.args.corners.now ++ c.args.q ∷ []) c.loop-o.o c.in_ok-three.field-0 c.in-Some.three (omega arith) c.loop-o.invariant.1 c.in-Some.is (rw c.loop-o.invariant.0.matrix at c.in_ok-three.ensures.found)

pub loop-o-preserved : goal.loop-o-preserved
loop-o-preserved c = (
  rw c.loop-o.invariant.0.matrix at c.in_ok-three.ensures.held,
  none_more c.args.self.now.matrix.now (corner_prefix c.args.form c.args.corners.now ++ c.args.q ∷ []) c.loop-o.o c.in_ok-three.field-0 c.loop-o.invariant.1 c.in_default.is (rw c.loop-o.invariant.0.matrix at c.in_ok-three.ensures.found),
)

pub returns-clause-found : goal.returns-clause-found
returns-clause-found c = level_ends c.args.self.now.matrix.now (corner_prefix c.args.form c.args.corners.now ++ c.args.q ∷ []) c.loop-o.o (omega arith) c.loop-o.invariant.1
    (λ s S b g h. let k = second_below c.args.self.now.matrix.now c.args.form c.args.corners.now c.args.q s S b g h in
    let l = c.loop-o-test.false in let e = c.count_of-o-end.ensures.count ∙ ap (λ (z : Bool). line_count c.args.self.now.matrix.now z) c.second_is_flat.ensures in omega arith)

pub first_of_other-requires-clause-corners : goal.first_of_other-requires-clause-corners
first_of_other-requires-clause-corners c = rw c.loop-o.invariant.0.matrix c.requires.corners

pub first_of_other-requires-clause-held : goal.first_of_other-requires-clause-held
first_of_other-requires-clause-held c = held_at_own c.args.self.now.matrix.now c.args.form c.args.corners.now c.args.q c.loop-o.self c.loop-o.invariant.0
