-- What the removal of a line changes.
use Rattle.std.specs.Prelude.{◌≡◌, ◌<◌, ◌≤◌, ◌+◌, if◌then◌else◌, Bool, true, false, ℕ, List, length, slice_index, slice_index_or, Contains, Some}
use Rattle.std.specs.List.{remove}
use Rattle.cmr_base.specs.declared.line.Reason.{Reason}
use Rattle.cmr_base.specs.Matrix.{Matrix, entry, is_nonzero}
use Rattle.cmr_base.specs.LineSets.{without}
use Rattle.cmr_base.specs.Planes.{is_minus}
use Rattle.cmr_base.specs.Reductions.{Removal, removal_on}
use Rattle.sp_reduce.specs.declared.side.StayingLines.{StayingLines}
use Rattle.sp_reduce.specs.LineKinds.{other_kind, table, reason_for, is_twin}
use Rattle.sp_reduce.specs.StayingSides.{IsParallel, IsSide, IsAcross, AreNonzerosCounted, IsSettled, weight}

-- the line at a position is removed, and nothing else changes
pub record IsRemovedAt (place : ℕ) (old new : StayingLines) : Type 0 where
  pub kind : new.kind ≡ old.kind
  pub stays : new.stays.items ≡ remove old.stays.items place
  pub counts : new.counts.items ≡ remove old.counts.items place
  pub sums : new.sums.items ≡ remove old.sums.items place
  pub minus_sums : new.minus_sums.items ≡ remove old.minus_sums.items place
  pub settled : new.settled.items ≡ remove old.settled.items place

-- whether the line at a position has a nonzero in a crossing line
abbrev pub crosses : Matrix → StayingLines → ℕ → ℕ → Bool
crosses m side other at = is_nonzero (table (entry m) side.kind (slice_index side.stays.items at) other)

-- whether this entry is -1
abbrev pub has_minus : Matrix → StayingLines → ℕ → ℕ → Bool
has_minus m side other at = is_minus (table (entry m) side.kind (slice_index side.stays.items at) other)

-- the count and the sums of the line at a position include its entry in the crossing line
pub record IsHeldAt (m : Matrix) (side : StayingLines) (removed at : ℕ) : Type 0 where
  pub count : crosses m side removed at ≡ true → 1 ≤ slice_index side.counts.items at
  pub sum : crosses m side removed at ≡ true → weight removed ≤ slice_index side.sums.items at
  pub minus_sum : has_minus m side removed at ≡ true → weight removed ≤ slice_index side.minus_sums.items at

-- the same for each line
abbrev pub IsHeld : Matrix → StayingLines → ℕ → Type 0
IsHeld m side removed = (at : ℕ) → at < length side.stays.items → IsHeldAt m side removed at

-- the line at a position no longer counts the crossing line, and is settled only if it was settled and two nonzeros are left
pub record HasForgotten (m : Matrix) (old new : StayingLines) (removed at : ℕ) : Type 0 where
  pub count : slice_index new.counts.items at + (if crosses m old removed at then 1 else 0) ≡ slice_index old.counts.items at
  pub sum : slice_index new.sums.items at + (if crosses m old removed at then weight removed else 0) ≡ slice_index old.sums.items at
  pub minus_sum : slice_index new.minus_sums.items at + (if has_minus m old removed at then weight removed else 0) ≡ slice_index old.minus_sums.items at
  pub was : slice_index_or new.settled.items at false ≡ true → slice_index_or old.settled.items at false ≡ true
  pub many : slice_index_or new.settled.items at false ≡ true → crosses m old removed at ≡ true → 1 < slice_index new.counts.items at

pub record IsSameAt (old new : StayingLines) (at : ℕ) : Type 0 where
  pub count : slice_index new.counts.items at ≡ slice_index old.counts.items at
  pub sum : slice_index new.sums.items at ≡ slice_index old.sums.items at
  pub minus_sum : slice_index new.minus_sums.items at ≡ slice_index old.minus_sums.items at
  pub settled : slice_index_or new.settled.items at false ≡ slice_index_or old.settled.items at false

-- no line counts the crossing line any longer
pub record IsForgetting (m : Matrix) (old new : StayingLines) (removed : ℕ) : Type 0 where
  pub same : new ≡ record old { counts = new.counts; sums = new.sums; minus_sums = new.minus_sums; settled = new.settled }
  pub parallel : IsParallel new
  pub each : (at : ℕ) → at < length old.stays.items → HasForgotten m old new removed at

-- the line at a position is settled only if it was, and if it is neither the changed line nor a twin of the changed line
pub record IsUnsettled (binary : Bool) (m : Matrix) (old new : StayingLines) (across : List ℕ) (changed at : ℕ) : Type 0 where
  pub was : slice_index_or new.settled.items at false ≡ true → slice_index_or old.settled.items at false ≡ true
  pub other : slice_index_or new.settled.items at false ≡ true → at ≡ changed → ⊥
  pub no_twin : slice_index_or new.settled.items at false ≡ true
      → is_twin binary (table (entry m) old.kind) across (slice_index old.stays.items changed) (slice_index old.stays.items at) ≡ false

-- The counts, sums and marks of a side were right before a crossing line was removed for this reason.
pub record WasRightBefore (binary : Bool) (m : Matrix) (side : StayingLines) (across : List ℕ) (removed : ℕ) (reason : Reason) : Type 0 where
  pub before : List ℕ
  pub lines : IsAcross m side.kind before
  pub there : Contains before removed
  pub left : across ≡ without before removed
  pub counted : AreNonzerosCounted m side before
  pub settled : IsSettled binary m side before
  pub why : reason_for binary (entry m) (other_kind side.kind) before side.stays.items removed ≡ Some reason

-- two sides that cross, with right counts, sums and marks
pub record ArePaired (binary : Bool) (m : Matrix) (own across : StayingLines) : Type 0 where
  pub kinds : across.kind ≡ other_kind own.kind
  pub own_side : IsSide m own
  pub across_side : IsSide m across
  pub own_counted : AreNonzerosCounted m own across.stays.items
  pub across_counted : AreNonzerosCounted m across own.stays.items
  pub own_settled : IsSettled binary m own across.stays.items
  pub across_settled : IsSettled binary m across own.stays.items

-- the stated order from the lines of two sides to its end
abbrev pub removal_from : Bool → Matrix → (rows columns : StayingLines) → Removal
removal_from binary m rows columns = removal_on binary (entry m) (length rows.stays.items + length columns.stays.items) rows.stays.items columns.stays.items
