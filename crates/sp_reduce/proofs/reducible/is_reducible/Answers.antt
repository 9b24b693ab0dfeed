use Rattle.std.proofs.Common.{◌<◌, ◌≤◌, ◌∙◌, sym, arith}
use Rattle.cmr_base.specs.Matrix.{entry}
use Rattle.cmr_base.specs.Reductions.{nonzeros_at}
use Rattle.sp_reduce.specs.LineKinds.{line_named, cross_named, table}
use Rattle.std.proofs.Common.{le-leb}
use Rattle.sp_reduce.proofs.Views.{reason_of_thin, reason_of_twin}
use Rattle.sp_reduce.proofs.reducible.is_reducible.Goals as goal

pub returns-then-count_nonzeros-le1 : goal.returns-then-count_nonzeros-le1
returns-then-count_nonzeros-le1 c =
    let M = table (entry c.args.matrix.now) c.args.kind in
    let few : c.count_nonzeros.result ≤ 1 = let few = c.if-count_nonzeros-le1.true in omega (arith, few) in
    let thin : nonzeros_at c.args.across.now (M c.args.line) ≤ 1 = let same = c.count_nonzeros.ensures in omega (arith, same, few) in
    le-leb c.count_nonzeros.result 1 few ∙ sym (reason_of_thin M (line_named c.args.kind) (cross_named c.args.kind) c.args.own.now c.args.across.now c.args.line c.args.binary thin)

pub returns-else-count_nonzeros-le1 : goal.returns-else-count_nonzeros-le1
returns-else-count_nonzeros-le1 c =
    let M = table (entry c.args.matrix.now) c.args.kind in
    let many : 1 < nonzeros_at c.args.across.now (M c.args.line) = let same = c.count_nonzeros.ensures in let more = c.if-count_nonzeros-le1.false in omega (arith, same, more) in
    c.has_twin.ensures ∙ sym (reason_of_twin M (line_named c.args.kind) (cross_named c.args.kind) c.args.own.now c.args.across.now c.args.line c.args.binary many)
