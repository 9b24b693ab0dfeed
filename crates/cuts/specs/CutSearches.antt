-- Searches for the lines that cuts separate from given lines of side one.
use Rattle.std.specs.Prelude.{◌≡◌, Bool, true}
use Rattle.cmr_base.specs.declared.line_mask.LineMask.{LineMask}
use Rattle.cmr_base.specs.LineMasks.{as_set}
use Rattle.cmr_base.specs.Matrix.{Matrix}
use Rattle.cuts.specs.declared.sides.Side.{Side}
use Rattle.cuts.specs.Covers.{AreWithin, Covers}
use Rattle.cuts.specs.CutSides.{HasNumbers}

-- some lines of each side, with their numbers
pub record HaveNumbers (m : Matrix) (one two : Side) : Type 0 where
  pub near : HasNumbers m one
  pub far : HasNumbers m two

-- more lines are marked; unless the search gave up, they contain all lines of side two of each cut with the given lines on its
-- sides
pub record HasMarked (m : Matrix) (one two : Side) (before after : LineMask) (covered : Bool) : Type 0 where
  pub more : AreWithin m (as_set before) (as_set after)
  pub covers : covered ≡ true → Covers m (as_set one.lines) (as_set two.lines) (as_set after)
