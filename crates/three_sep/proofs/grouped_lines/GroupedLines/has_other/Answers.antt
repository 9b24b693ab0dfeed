use Rattle.std.proofs.Common.{arith}
use Rattle.cmr_base.proofs.Places.{each_more}
use Rattle.three_sep.specs.GroupedLines.{IsNoOther}
use Rattle.three_sep.proofs.grouped_lines.GroupedLines.has_other.Goals as goal

pub loop-column-preserved : goal.loop-column-preserved
loop-column-preserved c = each_more (λ k. IsNoOther c.args.self.now c.args.own c.args.across k) c.loop-column.column c.loop-column.invariant (c.is_other.ensures c.if-is_other.false)

pub returns : goal.returns
returns c = λ e k l. c.loop-column.invariant k (let t = c.loop-column-test.false in let r = c.columns-column-end.ensures.columns in omega arith)
