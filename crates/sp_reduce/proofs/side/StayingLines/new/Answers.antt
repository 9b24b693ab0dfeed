use Rattle.std.proofs.Common.{◌∙◌, ℕ, List, length, get_or, ap, sym, arith}
use Rattle.cmr_base.specs.Matrix.{entry}
use Rattle.cmr_base.specs.Reductions.{nonzeros_at}
use Rattle.sp_reduce.specs.LineKinds.{table}
use Rattle.sp_reduce.specs.StayingSides.{weight_at, minus_weight_at}
use Rattle.sp_reduce.proofs.side.StayingLines.new.Goals as goal

pub returns-clause-counted : goal.returns-clause-counted
returns-clause-counted c =
    let M = table (entry c.args.matrix.now) c.args.kind in
    let across = c.args.across.now in
    let items = c.in_ok-from_slice.ensures.items in
    let long = ap (λ (xs : List ℕ). length xs) items in
    let are = c.in_ok-tallies.ensures in
    record {
      counts = λ at h. are.counts at (omega (arith, h, long)) ∙ ap (λ (xs : List ℕ). nonzeros_at across (M (get_or xs at 0))) (sym items);
      sums = λ at h. are.sums at (omega (arith, h, long)) ∙ ap (λ (xs : List ℕ). weight_at across (M (get_or xs at 0))) (sym items);
      minus_sums = λ at h. are.minus_sums at (omega (arith, h, long)) ∙ ap (λ (xs : List ℕ). minus_weight_at across (M (get_or xs at 0))) (sym items);
    }
