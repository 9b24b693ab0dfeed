use Rattle.std.proofs.Common.{rules, ◌<◌, to_z, of_z, w8, length}
use Rattle.cmr_base.specs.Signing.{IsSign}
use Rattle.cmr_base.proofs.Lists.{all_at}
use Rattle.sparse_matrix.proofs.Runs.{byte_sign}
use Rattle.sparse_matrix.proofs.MarkedLines.{no_nonzero}
use Rattle.interval_matrices.specs.IntervalRuns.{nonzero_at}
use Rattle.interval_matrices.proofs.IntervalLines.{near_or_not}
use Rattle.interval_matrices.proofs.intervals.is_interval.Goals as goal

pub returns : goal.returns
returns c =
    let run = c.args.run.now in
    let value = (nonzero_at run 0).value in
    let some : 0 < length run = search rules in
    let value_is = byte_sign value (all_at (λ x. IsSign x.value) run 0 no_nonzero c.requires.signs some) in
    let both = near_or_not run c.requires.signs c.requires.distinct c.first_line.result (to_z w8 (of_z w8 value)) c.first_line.ensures value_is in
    (λ yes. both.0 (c.are_counted.ensures.0 yes), λ interval. c.are_counted.ensures.1 (both.1 interval))
