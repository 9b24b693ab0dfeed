use Rattle.std.proofs.Common.{◌≡◌, ◌<◌, ℕ, false, get_or}
use Rattle.cmr_base.specs.declared.line.Line.TheVariants.{Row}
use Rattle.line_growth.specs.GrowingSets.{set_of}
use Rattle.line_growth.proofs.growing_set.GrowingSet.has_none.Given as goal

abbrev pub invariant-loop-line : goal.invariant-loop-line
invariant-loop-line l = (p : ℕ) → p < l.line-index → set_of l.self (get_or l.lines p (Row 0)) ≡ false
