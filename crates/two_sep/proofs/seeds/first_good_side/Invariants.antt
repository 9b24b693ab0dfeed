use Rattle.std.proofs.Common.{◌≡◌, ◌<◌, true}
use Rattle.cmr_base.specs.declared.line.Line.{Line}
use Rattle.cmr_base.specs.Matrix.{entry, height}
use Rattle.cmr_base.specs.Separations.{Lines}
use Rattle.cmr_base.specs.Seeds.{IsGoodTwo, IsLine, line_number}
use Rattle.line_growth.specs.GrowingSets.{IsSizedFor, set_of}
use Rattle.two_sep.proofs.seeds.first_good_side.Given as goal

-- the seeds so far are not good, and no line that pulls the last of them in is good
abbrev pub invariant-loop-place : goal.invariant-loop-place
invariant-loop-place l = record {
  side_size : IsSizedFor l.matrix l.side;
  bad_size : IsSizedFor l.matrix l.bad;
  before : (seed : Line) → IsLine (height l.matrix) l.matrix.width seed → line_number (height l.matrix) seed < l.place → (side : Lines)
      → ¬ (IsGoodTwo (height l.matrix) l.matrix.width (entry l.matrix) l.row l.column seed side);
  pulled : (seed : Line) → IsLine (height l.matrix) l.matrix.width seed → set_of l.bad seed ≡ true → (side : Lines)
      → ¬ (IsGoodTwo (height l.matrix) l.matrix.width (entry l.matrix) l.row l.column seed side);
}
