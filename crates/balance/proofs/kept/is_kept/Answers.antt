use Rattle.cmr_base.proofs.IncreasingLists.{row_set_short}
use Rattle.std.proofs.Common.{arith}
use Rattle.balance.proofs.KeptSteps.{below_width, least_alike, not_least, not_true, from_not}
use Rattle.balance.proofs.kept.is_kept.Goals as goal

pub has_alike-requires-clause-few : goal.has_alike-requires-clause-few
has_alike-requires-clause-few c = omega (arith, row_set_short c.args.matrix.now c.args.rows.now c.requires.rows.increasing c.requires.rows.in_range, c.requires.matrix.height_in)

pub has_alike-requires-clause-columns : goal.has_alike-requires-clause-columns
has_alike-requires-clause-columns c = below_width c.args.matrix.now c.args.rows.now c.args.column c.args.before.now c.requires.before

pub returns-then-is_candidate : goal.returns-then-is_candidate
returns-then-is_candidate c =
    let m = c.args.matrix.now in
    let rows = c.args.rows.now in (
      (λ yes. least_alike m c.requires.matrix rows c.args.column c.requires.column c.args.before.now c.requires.before (c.is_candidate.ensures.0 c.if-is_candidate.true) (λ alike. not_true c.has_alike.result yes (c.has_alike.ensures.1 alike))),
      (λ least. from_not c.has_alike.result (λ yes. not_least m c.requires.matrix rows c.args.column c.requires.column c.args.before.now c.requires.before least (c.has_alike.ensures.0 yes))),
    )
