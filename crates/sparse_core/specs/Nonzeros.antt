-- The nonzeros of a line at the crossing lines that remain.
use Rattle.std.specs.Prelude.{◌≡◌, ◌≢◌, ℕ, ℤ, pos, Bool, true, List, Contains}
use Rattle.cmr_base.specs.declared.line.Line.{Line}
use Rattle.cmr_base.specs.declared.line.Reason.{Reason}
use Rattle.cmr_base.specs.declared.line.Reason.TheVariants.{Zero, Unit as One, Copy, Negative}
use Rattle.ghouila.specs.Found.{marked}
use Rattle.sparse_matrix.specs.LineMarks.{is_marked}
use Rattle.sparse_core.specs.declared.nonzeros.Left.{Left}
use Rattle.sparse_core.specs.declared.nonzeros.Left.TheVariants as left

-- a line with two nonzeros at these crossing lines
pub record HasTwo (f : ℕ → ℤ) (crossing : List ℕ) : Type 0 where
  pub first : ℕ
  pub second : ℕ
  pub apart : first ≢ second
  pub first_in : Contains crossing first
  pub second_in : Contains crossing second
  pub first_nonzero : f first ≢ pos 0
  pub second_nonzero : f second ≢ pos 0

-- the crossing line remains, with a nonzero
pub record RemainsAt (f : ℕ → ℤ) (marks : List Bool) (crossing : ℕ) : Type 0 where
  pub remains : is_marked marks crossing ≡ true
  pub nonzero : f crossing ≢ pos 0

-- the only nonzero that remains is in this crossing line
pub record IsOnly (f : ℕ → ℤ) (marks : List Bool) (crossing : ℕ) : Type 0 where
  pub here : RemainsAt f marks crossing
  pub zeros : (k : ℕ) → k ≢ crossing → is_marked marks k ≡ true → f k ≡ pos 0

-- no nonzero remains
abbrev pub IsZeroOn : (ℕ → ℤ) → List Bool → Type 0
IsZeroOn f marks = (k : ℕ) → is_marked marks k ≡ true → f k ≡ pos 0

abbrev pub HasLeft : (ℕ → ℤ) → List Bool → Left → Type 0
HasLeft f marks left.Zero = IsZeroOn f marks
HasLeft f marks (left.One crossing) = IsOnly f marks crossing
HasLeft f marks left.Several = HasTwo f (marked marks)

-- the line is zero, or its only nonzero is in the named crossing line; `cross` names these
abbrev pub HasThinReason : (ℕ → ℤ) → List Bool → (ℕ → Line) → Reason → Type 0
HasThinReason f marks cross Zero = IsZeroOn f marks
HasThinReason f marks cross (One line) = (crossing : ℕ) × (line ≡ cross crossing) × IsOnly f marks crossing
HasThinReason f marks cross (Copy line) = ⊥
HasThinReason f marks cross (Negative line) = ⊥
