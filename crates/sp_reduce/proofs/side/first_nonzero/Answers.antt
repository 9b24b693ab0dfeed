use Rattle.std.proofs.Common.{◌∙◌, sym, ℕ}
use Rattle.cmr_base.specs.Matrix.{entry, is_nonzero}
use Rattle.sp_reduce.specs.LineKinds.{table}
use Rattle.sp_reduce.proofs.Searches.{find_here, find_more}
use Rattle.sp_reduce.proofs.side.first_nonzero.Goals as goal

pub returns-then-is_nonzero : goal.returns-then-is_nonzero
returns-then-is_nonzero c =
    let test = λ (other : ℕ). is_nonzero (table (entry c.args.matrix.now) c.args.kind c.args.line other) in
    sym (find_here test c.args.across.now c.others.other-index c.others-test.true c.others.invariant (sym c.is_nonzero.ensures ∙ c.if-is_nonzero.true))

pub others-preserved : goal.others-preserved
others-preserved c =
    let test = λ (other : ℕ). is_nonzero (table (entry c.args.matrix.now) c.args.kind c.args.line other) in
    find_more test c.args.across.now c.others.other-index c.others-test.true c.others.invariant (sym c.is_nonzero.ensures ∙ c.if-is_nonzero.false)
