use Rattle.std.proofs.Common.{Bool, List, subst}
use Rattle.two_nonzeros.specs.Cancelling.{sign_at}
use Rattle.two_nonzeros.proofs.Cancellations.{sign_is}
use Rattle.split_search.specs.Paths.{MarkRowsOf}
use Rattle.split_search.proofs.Violations.{violating}
use Rattle.split_search.proofs.split.cycle.Goals as goal

pub returns : goal.returns
returns c = rw (c.in_ok-marked_lines.ensures, c.in_ok-marked_lines-2.ensures, c.deref-2.ensures.value, c.deref-3.ensures.value)
    (violating c.args.rows.now c.args.columns.now c.args.nodes.now c.args.column c.args.first c.args.second (sign_at c.args._minus.now) c.in_ok-in_rows.in_rows.items c.in_ok-marks.marks.items
    c.rows-rows.ensures.shape c.rows-columns.ensures.shape c.requires.crossed c.in_ok-marks.ensures c.requires.signs (sign_is c.args._minus.now)
    c.requires.ends c.requires.apart c.requires.uncancelled (subst (λ (marks : List Bool). MarkRowsOf c.args.columns.now marks c.in_ok-in_rows.in_rows.items) c.deref.ensures.value c.in_ok-in_rows.ensures.crossing) c.in_ok-in_rows.ensures.size)
