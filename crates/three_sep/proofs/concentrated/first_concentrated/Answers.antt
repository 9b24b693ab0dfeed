use Rattle.std.proofs.Common.{[], ◌∷◌, arith}
use Rattle.three_sep.proofs.SearchLemmas.{found_some, none_more, level_ends, good_inside}
use Rattle.three_sep.proofs.concentrated.first_concentrated.Goals as goal

pub returns-in-Some : goal.returns-in-Some
returns-in-Some c = found_some c.args.matrix.now (3 ∷ []) c.loop-i.i c.in_ok-three.field-0 c.in-Some.three (omega arith) c.loop-i.invariant c.in-Some.is c.in_ok-three.ensures

pub loop-i-preserved : goal.loop-i-preserved
loop-i-preserved c = none_more c.args.matrix.now (3 ∷ []) c.loop-i.i c.in_ok-three.field-0 c.loop-i.invariant c.in_default.is c.in_ok-three.ensures

pub returns : goal.returns
returns c = level_ends c.args.matrix.now (3 ∷ []) c.loop-i.i (omega arith) c.loop-i.invariant
    (λ s S b g h. let k = (good_inside c.args.matrix.now s S g).row_one in let e = h.1.0 in let l = c.loop-i-test.false in let r = c.rows-i-end.ensures.rows in omega arith)
