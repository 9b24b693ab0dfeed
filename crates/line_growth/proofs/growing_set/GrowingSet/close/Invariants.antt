use Rattle.line_growth.specs.GrowingSets.{HasSameSizes, KeepsGrowing, work}
use Rattle.line_growth.specs.Rules.{lower_of, upper_of}
use Rattle.line_growth.proofs.growing_set.GrowingSet.close.Given as goal

abbrev pub invariant-lines : goal.invariant-lines
invariant-lines l = HasSameSizes l.initial.self l.self × KeepsGrowing l.matrix (upper_of l.matrix l.rule) (lower_of l.matrix l.rule) l.initial.self l.self

abbrev pub decreases-lines : goal.decreases-lines
decreases-lines l = work l.self
