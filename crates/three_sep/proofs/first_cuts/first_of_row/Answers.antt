use Rattle.std.proofs.Common.{◌∙◌, [], ◌∷◌, arith}
use Rattle.three_sep.proofs.CutSeedLemmas.{cut_level_ends, cut_none, cut_some, no_seed_in_one_group}
use Rattle.three_sep.proofs.first_cuts.first_of_row.Goals as goal

pub returns-then-are_all_one-clause-found : goal.returns-then-are_all_one-clause-found
returns-then-are_all_one-clause-found c =
    no_seed_in_one_group c.args.search.now.matrix.now c.args.search.now.groups c.args.search.now.together c.args.i c.args.search.now.names (c.are_all_one.ensures c.if-are_all_one.true)

pub returns-in-Some-clause-found : goal.returns-in-Some-clause-found
returns-in-Some-clause-found c = cut_some c.args.search.now.matrix.now (c.args.i ∷ []) c.loop-p.p c.in_ok-lines.field-0 c.in-Some.lines (omega arith) c.loop-p.invariant.1 c.in-Some.is (rw c.loop-p.invariant.0 at c.in_ok-lines.ensures.found)

pub loop-p-preserved : goal.loop-p-preserved
loop-p-preserved c = (c.in_ok-lines.ensures.matrix ∙ c.loop-p.invariant.0, cut_none c.args.search.now.matrix.now (c.args.i ∷ []) c.loop-p.p c.in_ok-lines.field-0 c.loop-p.invariant.1 c.in_default.is (rw c.loop-p.invariant.0 at c.in_ok-lines.ensures.found))

pub returns-clause-found : goal.returns-clause-found
returns-clause-found c = cut_level_ends c.args.search.now.matrix.now (c.args.i ∷ []) c.loop-p.p (omega arith) c.loop-p.invariant.1
    (λ s S b g h. let k = g.inside.column_one in let e = h.1.0 in let l = c.loop-p-test.false in let r = c.columns-p-end.ensures.columns in omega arith)

pub first_of_corner-requires-clause-row : goal.first_of_corner-requires-clause-row
first_of_corner-requires-clause-row c = rw c.loop-p.invariant.0 c.requires

pub first_of_corner-requires-clause-column : goal.first_of_corner-requires-clause-column
first_of_corner-requires-clause-column c = let l = c.loop-p-test.true in let r = c.columns-p-end.ensures.columns in rw c.loop-p.invariant.0 (omega arith)
