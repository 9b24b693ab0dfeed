use Rattle.std.proofs.Common.{subst, sym}
use Rattle.cmr_base.specs.Indices.{IsAbove}
use Rattle.pivots.proofs.ChosenLines.{below_itself}
use Rattle.pivots.proofs.back.lines_up_to.Goals as goal

pub push-requires : goal.push-requires
push-requires c = subst (IsAbove c.args.line) (sym c.in_ok-made.ensures) (below_itself c.args.line c.args.lines.now)
