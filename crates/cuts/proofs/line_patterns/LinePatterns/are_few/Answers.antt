use Rattle.cmr_base.specs.LineMasks.{as_set}
use Rattle.cuts.proofs.CoverLemmas.{covers_few, covers_few_beside, patterns_few}
use Rattle.cuts.proofs.line_patterns.LinePatterns.are_few.Goals as goal

pub returns-clause-near : goal.returns-clause-near
returns-clause-near c = λ e m is has K P. let patterns = c.args.self.now in covers_few m (as_set patterns.side.now.lines) K P is (patterns_few m patterns is has (c.are_too_few.ensures e))

pub returns-clause-far : goal.returns-clause-far
returns-clause-far c = λ e m is has H P. let patterns = c.args.self.now in covers_few_beside m H (as_set patterns.side.now.lines) P is (patterns_few m patterns is has (c.are_too_few.ensures e))
