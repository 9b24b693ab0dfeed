-- Sides before and after a test.
use Rattle.std.specs.Prelude.{◌≡◌}
use Rattle.three_sep.specs.declared.sides.Sides.{Sides}

-- the matrix and the side do not change
pub record KeepsSide (before after : Sides) : Type 0 where
  pub matrix : after.matrix.now ≡ before.matrix.now
  pub side : after.side ≡ before.side
