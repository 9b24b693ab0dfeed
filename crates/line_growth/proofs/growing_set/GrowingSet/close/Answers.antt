use Rattle.std.proofs.Common.{◌∙◌, sym, arith}
use Rattle.cmr_base.proofs.Booleans.{not_both}
use Rattle.line_growth.proofs.SetSteps.{closed_leaving, few_left, few_shown, lines_for, outside_of, same_sizes, some_inside, still_sized}
use Rattle.line_growth.proofs.growing_set.GrowingSet.close.Goals as goal

pub lines-preserved : goal.lines-preserved
lines-preserved c = (same_sizes c.args.self.now c.lines.self c.take_pulls.new.self c.lines.invariant.0 c.take_pulls.ensures.size, λ start g. c.in_ok-take_pulls.ensures.growing start (c.lines.invariant.1 start g))

pub has_none-requires : goal.has_none-requires
has_none-requires c = lines_for c.args.matrix.now c.lines.self c.args.out.now (still_sized c.args.matrix.now c.args.self.now c.lines.self c.requires.size c.lines.invariant.0) c.requires.out

pub returns-clause-closed : goal.returns-clause-closed
returns-clause-closed c = λ start g.
    let sized = still_sized c.args.matrix.now c.args.self.now c.lines.self c.requires.size c.lines.invariant.0 in
    few_left c.args.matrix.now c.args.rule start c.args.out.now c.args.least c.lines.self (c.lines.invariant.1 start g) (let o = outside_of c.args.matrix.now c.lines.self sized in omega (arith, o, c.left.ensures, c.lines-test.false))

pub returns-clause-shown : goal.returns-clause-shown
returns-clause-shown c = λ no leaves.
    let sized = still_sized c.args.matrix.now c.args.self.now c.lines.self c.requires.size c.lines.invariant.0 in
    few_shown c.args.matrix.now c.args.out.now c.args.least c.lines.self leaves (let o = outside_of c.args.matrix.now c.lines.self sized in omega (arith, o, c.left.ensures, c.lines-test.false))

pub returns-then-not-has_none-clause-shown : goal.returns-then-not-has_none-clause-shown
returns-then-not-has_none-clause-shown c = λ no leaves. not_both c.has_none.result (c.has_none.ensures.1 leaves.none) c.if-not-has_none.true

pub returns-then-not-has_none-clause-closed : goal.returns-then-not-has_none-clause-closed
returns-then-not-has_none-clause-closed c = λ start g. some_inside c.args.matrix.now c.args.rule start c.args.out.now c.args.least c.lines.self (c.lines.invariant.1 start g) c.requires.out
    (λ none. not_both c.has_none.result (c.has_none.ensures.1 none) c.if-not-has_none.true)

pub returns-then-waiting-eq0-2-clause-closed : goal.returns-then-waiting-eq0-2-clause-closed
returns-then-waiting-eq0-2-clause-closed c = λ start g.
    let sized = still_sized c.args.matrix.now c.args.self.now c.lines.self c.requires.size c.lines.invariant.0 in
    closed_leaving c.args.matrix.now c.args.rule start c.args.out.now c.args.least c.lines.self (c.lines.invariant.1 start g)
    (sym c.waiting.ensures ∙ c.if-waiting-eq0.true) (sym c.waiting-then-waiting-eq0.ensures ∙ c.if-waiting-eq0-2.true)
    (c.has_none.ensures.0 c.if-not-has_none.false) (let o = outside_of c.args.matrix.now c.lines.self sized in omega (arith, o, c.left.ensures, c.lines-test.true))
