use Rattle.std.proofs.Common.{◌∙◌, [], arith}
use Rattle.three_sep.proofs.CutSeedLemmas.{cut_level_ends, cut_none, cut_some, first_cut_on, no_cut}
use Rattle.three_sep.proofs.first_cuts.first_cut.Goals as goal

pub returns-in-Some : goal.returns-in-Some
returns-in-Some c =
    let m = c.args.matrix.now in
    first_cut_on m c.in-Some.lines (cut_some m [] c.loop-i.i c.in_ok-lines.field-0 c.in-Some.lines (omega arith) c.loop-i.invariant.1 c.in-Some.is (rw c.loop-i.invariant.0 at c.in_ok-lines.ensures.found))

pub loop-i-preserved : goal.loop-i-preserved
loop-i-preserved c = (c.in_ok-lines.ensures.matrix ∙ c.loop-i.invariant.0, cut_none c.args.matrix.now [] c.loop-i.i c.in_ok-lines.field-0 c.loop-i.invariant.1 c.in_default.is (rw c.loop-i.invariant.0 at c.in_ok-lines.ensures.found))

pub returns : goal.returns
returns c =
    let m = c.args.matrix.now in
    no_cut m (cut_level_ends m [] c.loop-i.i (omega arith) c.loop-i.invariant.1
    (λ s S b g h. let k = g.inside.row_one in let e = h.0 in let l = c.loop-i-test.false in let r = c.rows-i-end.ensures.rows in omega arith))

pub first_of_row-requires : goal.first_of_row-requires
first_of_row-requires c = let l = c.loop-i-test.true in let r = c.rows-i-end.ensures.rows in rw c.loop-i.invariant.0 (omega arith)
