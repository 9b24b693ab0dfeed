-- The four entries at which two rows cross two columns.
use Rattle.std.specs.Prelude.{◌≡◌, ◌≤ℤ◌, ℕ, ℤ, pos, neg_ℤ}
use Rattle.cmr_base.specs.declared.cores.Core.{Core}
use Rattle.cmr_base.specs.Matrix.{IsEntry}

-- from -bound to bound
pub record IsBounded (bound : ℕ) (z : ℤ) : Type 0 where
  pub low : neg_ℤ (pos bound) ≤ℤ z
  pub high : z ≤ℤ pos bound

pub record HasEntries (core : Core) : Type 0 where
  pub x : IsEntry core.x
  pub y : IsEntry core.y
  pub z : IsEntry core.z
  pub w : IsEntry core.w

pub record IsCoreAt (M : ℕ → ℕ → ℤ) (upper lower left right : ℕ) (core : Core) : Type 0 where
  pub x : core.x ≡ M upper left
  pub y : core.y ≡ M upper right
  pub z : core.z ≡ M lower left
  pub w : core.w ≡ M lower right
