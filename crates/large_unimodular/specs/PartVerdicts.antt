-- How a part of a large matrix is decided.
use Rattle.std.specs.Prelude.{◌≡◌, ◌≢◌, ◌≤◌, ◌⊎◌, ℕ, ℤ, pos}
use Rattle.cmr_base.specs.declared.limits.TheConstants.{MAX_COLUMNS, MAX_ROWS}
use Rattle.cmr_base.specs.declared.line_set.LineSet.{LineSet}
use Rattle.cmr_base.specs.Matrix.{Matrix, height, entry}
use Rattle.cmr_base.specs.LineSets.{IsRowSet, IsColumnSet}
use Rattle.cmr_base.specs.Violator.{IsViolator, HasNoViolator}
use Rattle.tree_type.specs.DecompositionTrees.{Tree}
use Rattle.tree_type.specs.Verdicts.{Verdict, verdict_of}
use Rattle.tree_type.specs.Verdicts as verdicts
use Rattle.interval_matrices.specs.Intervals.{IsIntervalMatrix}
use Rattle.open_parts.specs.TriedShapes.{IsTriedWith}
use Rattle.large_unimodular.specs.declared.part_verdicts.PartVerdict.{PartVerdict}
use Rattle.large_unimodular.specs.declared.part_verdicts.PartVerdict.TheVariants.{Yes, No, Open}

-- a line with three nonzeros
pub record HasThreeNonzeros (f : ℕ → ℤ) : Type 0 where
  pub first : ℕ
  pub second : ℕ
  pub third : ℕ
  pub first_second : first ≢ second
  pub first_third : first ≢ third
  pub second_third : second ≢ third
  pub first_nonzero : f first ≢ pos 0
  pub second_nonzero : f second ≢ pos 0
  pub third_nonzero : f third ≢ pos 0

-- no column, or no row, has three nonzeros
abbrev pub IsThin : Matrix → Type 0
IsThin m = ((column : ℕ) → ¬ (HasThreeNonzeros (λ row. entry m row column))) ⊎ ((row : ℕ) → ¬ (HasThreeNonzeros (entry m row)))

-- within the limits of the type `Matrix`
pub record IsSmall (m : Matrix) : Type 0 where
  pub height_in : height m ≤ MAX_ROWS
  pub width_in : m.width ≤ MAX_COLUMNS

-- rows and columns of a matrix that are a violator
pub record IsFaultIn (m : Matrix) (fault : LineSet) : Type 0 where
  pub row_set : IsRowSet m fault.rows
  pub column_set : IsColumnSet m fault.columns
  pub violator : IsViolator (entry m) fault.rows fault.columns

-- yes without a violator, and no with a violator
abbrev pub IsRightOn : Matrix → PartVerdict → Type 0
IsRightOn m Yes = HasNoViolator m
IsRightOn m (No fault) = IsFaultIn m fault
IsRightOn m Open = ⊥

abbrev pub own_answer : Verdict → PartVerdict
own_answer verdicts.Yes = Yes
own_answer (verdicts.No fault) = No fault
own_answer (verdicts.Open lines) = Open

-- the verdict of a decomposition with this budget and this number of pivots
pub record IsTreeVerdict (limit pivots : ℕ) (m : Matrix) (verdict : PartVerdict) : Type 0 where
  pub tree : Tree
  pub shape : IsTriedWith limit pivots m tree
  pub verdict_is : verdict ≡ own_answer (verdict_of tree)

pub record IsThinVerdict (m : Matrix) (verdict : PartVerdict) : Type 0 where
  pub thin : IsThin m
  pub right : IsRightOn m verdict

pub record IsIntervalVerdict (m : Matrix) (verdict : PartVerdict) : Type 0 where
  pub thick : ¬ (IsThin m)
  pub intervals : IsIntervalMatrix m
  pub yes_is : verdict ≡ Yes

pub record IsSmallVerdict (limit pivots : ℕ) (m : Matrix) (verdict : PartVerdict) : Type 0 where
  pub thick : ¬ (IsThin m)
  pub uneven : ¬ (IsIntervalMatrix m)
  pub small : IsSmall m
  pub decomposed : IsTreeVerdict limit pivots m verdict

pub record IsTooLarge (m : Matrix) (verdict : PartVerdict) : Type 0 where
  pub thick : ¬ (IsThin m)
  pub uneven : ¬ (IsIntervalMatrix m)
  pub large : ¬ (IsSmall m)
  pub open_is : verdict ≡ Open

-- A thin part is a yes or a no. Another part with interval columns, or rows, is a yes. Any other part gets the verdict of its decomposition
-- if it is small, and stays open otherwise.
abbrev pub IsPartVerdict : (limit pivots : ℕ) → Matrix → PartVerdict → Type 0
IsPartVerdict limit pivots m verdict = IsThinVerdict m verdict ⊎ IsIntervalVerdict m verdict ⊎ IsSmallVerdict limit pivots m verdict ⊎ IsTooLarge m verdict
