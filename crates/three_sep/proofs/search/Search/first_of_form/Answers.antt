use Rattle.std.proofs.Common.{◌∙◌, [], ◌∷◌, arith}
use Rattle.cmr_base.specs.Seeds.{form_number}
use Rattle.three_sep.proofs.SearchLemmas.{found_some, none_more, level_ends, good_inside}
use Rattle.three_sep.proofs.search.Search.first_of_form.Goals as goal

pub returns-in-Some-clause-found : goal.returns-in-Some-clause-found
returns-in-Some-clause-found c = found_some c.args.self.now.matrix.now (form_number c.args.form ∷ []) c.loop-i.i c.in_ok-three.field-0 c.in-Some.three (omega arith) c.loop-i.invariant.1 c.in-Some.is (rw c.loop-i.invariant.0 at c.in_ok-three.ensures.found)

pub loop-i-preserved : goal.loop-i-preserved
loop-i-preserved c = (c.in_ok-three.ensures.matrix ∙ c.loop-i.invariant.0, none_more c.args.self.now.matrix.now (form_number c.args.form ∷ []) c.loop-i.i c.in_ok-three.field-0 c.loop-i.invariant.1 c.in_default.is (rw c.loop-i.invariant.0 at c.in_ok-three.ensures.found))

pub returns-clause-found : goal.returns-clause-found
returns-clause-found c = level_ends c.args.self.now.matrix.now (form_number c.args.form ∷ []) c.loop-i.i (omega arith) c.loop-i.invariant.1
    (λ s S b g h. let k = (good_inside c.args.self.now.matrix.now s S g).row_one in let e = h.1.0 in let l = c.loop-i-test.false in let r = c.rows-i-end.ensures.rows in omega arith)

pub first_of_row-requires-clause-row : goal.first_of_row-requires-clause-row
first_of_row-requires-clause-row c = let l = c.loop-i-test.true in let r = c.rows-i-end.ensures.rows in rw c.loop-i.invariant.0 (omega arith)
