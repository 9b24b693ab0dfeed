use Rattle.std.proofs.Common.{arith, refl}
use Rattle.camion_sign.proofs.FreshColumns.{fresh_found, fresh_skips}
use Rattle.camion_sign.proofs.walk.first_outside.Goals as goal

pub returns-then-word-ne0 : goal.returns-then-word-ne0
returns-then-word-ne0 c =
    fresh_found c.args.lines.now c.args.others.now c.args.others.now c.args.from c.loop-line.line c.outside.result refl c.outside.type_inv c.outside.ensures
    c.loop-line.invariant.low c.loop-line.invariant.none (let some = c.if-word-ne0.true in omega (arith, some))

pub loop-line-preserved : goal.loop-line-preserved
loop-line-preserved c =
    let so = c.loop-line.invariant in
    let inside = c.loop-line-test.true in
    record {
      low = let l = so.low in omega arith;
      none = fresh_skips c.args.lines.now c.args.others.now c.args.others.now c.args.from c.loop-line.line c.outside.result refl c.outside.type_inv c.outside.ensures
          so.none (let none = c.if-word-ne0.false in omega (arith, none));
      high = omega (arith, inside, c.requires.lines);
    }
