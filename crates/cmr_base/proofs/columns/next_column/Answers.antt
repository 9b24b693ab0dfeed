use Rattle.std.proofs.Common.{◌/◌, arith}
use Rattle.cmr_base.proofs.ColumnWords.{next_found, next_skips}
use Rattle.cmr_base.proofs.columns.next_column.Goals as goal

pub returns-then-word-ne0 : goal.returns-then-word-ne0
returns-then-word-ne0 c =
    next_found c.args.set.now c.args.from c.loop-column.column (c.type_inv.set (c.loop-column.column / 64)).fits c.loop-column.invariant.low c.loop-column.invariant.none
    (let some = c.if-word-ne0.true in omega (arith, some))

pub loop-column-preserved : goal.loop-column-preserved
loop-column-preserved c =
    let column = c.loop-column.column in
    let so = c.loop-column.invariant in
    let few = c.requires.size in
    let inside = c.loop-column-test.true in
    record {
      low = let l = so.low in omega arith;
      none = next_skips c.args.set.now c.args.from column (c.type_inv.set (column / 64)).fits so.none (let none = c.if-word-ne0.false in omega (arith, none));
      high = omega (arith, inside, few);
    }
