use Rattle.std.proofs.Common.{◌≤◌, ◌-◌, List}
use Rattle.cmr_base.specs.declared.line.Line.{Line}
use Rattle.line_growth.specs.GrowingSets.{IsGrowing, KeepsGrowing}
use Rattle.line_growth.specs.Rules.{lower_of, upper_of}
use Rattle.three_sep.specs.KeptSides.{KeepsSide}
use Rattle.three_sep.specs.TiedLines.{ForcesAlong}
use Rattle.three_sep.proofs.sides.Sides.forces_along.Given as goal

abbrev pub invariant-tied : goal.invariant-tied
invariant-tied l = record {
  from_in : l.from ≤ 1000;
  kept : KeepsSide l.fn.self l.self;
  growing : KeepsGrowing l.fn.self.matrix.now (upper_of l.fn.self.matrix.now l.rule) (lower_of l.fn.self.matrix.now l.rule) l.fn.self.grown l.self.grown;
  forced : (start : List Line) → IsGrowing l.fn.self.matrix.now (upper_of l.fn.self.matrix.now l.rule) (lower_of l.fn.self.matrix.now l.rule) start l.fn.self.grown
      → ForcesAlong l.fn.self.matrix.now l.rule start l.lines l.own l.across l.flat l.from;
}

abbrev pub decreases-tied : goal.decreases-tied
decreases-tied l = 1000 - l.from
