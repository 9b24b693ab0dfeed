use Rattle.std.specs.Prelude.{ℤ, Bool}
use Rattle.cmr_base.specs.Matrix.{is_nonzero}
use Rattle.cmr_base.specs.Planes.{is_minus}
use Rattle.cmr_base.specs.declared.planes.Plane.{Plane}
use Rattle.cmr_base.specs.declared.planes.Plane.TheVariants.{Support, Minus}

-- the entries that have a bit in the plane
abbrev pub test_of : Plane → ℤ → Bool
test_of Support = is_nonzero
test_of Minus = is_minus
