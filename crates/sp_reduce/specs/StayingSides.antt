-- The lines of one kind that remain, with the count, the two sums and the mark of each.
use Rattle.std.specs.Prelude.{◌≡◌, ◌<◌, ◌+◌, ◌-◌, ◌^◌, ◌&&◌, ◌==◌, not, if◌then◌else◌, Bool, true, false, ℕ, ℤ, neg_ℤ, List, [], ◌∷◌, length, slice_index, slice_index_or, sum_by, find, Option, Some, None, option_map}
use Rattle.std.specs.Option.{option_or}
use Rattle.std.specs.List.Sorted.{IsStrictlyIncreasing}
use Rattle.cmr_base.specs.declared.line.Reason.{Reason}
use Rattle.cmr_base.specs.declared.line.Reason.TheVariants.{Copy, Negative}
use Rattle.cmr_base.specs.declared.line.Step.{Step}
use Rattle.cmr_base.specs.Matrix.{Matrix, entry, is_nonzero}
use Rattle.cmr_base.specs.LineSets.{AllBelow}
use Rattle.cmr_base.specs.Planes.{is_minus}
use Rattle.cmr_base.specs.Reductions.{nonzeros_at, equal_at}
use Rattle.sp_reduce.specs.declared.kind.LineKind.{LineKind}
use Rattle.sp_reduce.specs.declared.side.Found.{Found}
use Rattle.sp_reduce.specs.declared.side.StayingLines.{StayingLines}
use Rattle.sp_reduce.specs.LineKinds.{line_named, count_of_kind, cross_size, table, reason_for}

-- different sets of lines usually have different sums of weights
abbrev pub weight : ℕ → ℕ
weight number = (number + 1) ^ 5

-- the sum of the weights of the positions of nonzeros
abbrev pub weight_at : List ℕ → (ℕ → ℤ) → ℕ
weight_at places f = sum_by (λ k. if is_nonzero (f k) then weight k else 0) places

-- the sum of the weights of the positions of entries -1
abbrev pub minus_weight_at : List ℕ → (ℕ → ℤ) → ℕ
minus_weight_at places f = sum_by (λ k. if is_minus (f k) then weight k else 0) places

-- each remaining line has a count, two sums and a mark
pub record IsParallel (side : StayingLines) : Type 0 where
  pub counts : length side.counts.items ≡ length side.stays.items
  pub sums : length side.sums.items ≡ length side.stays.items
  pub minus_sums : length side.minus_sums.items ≡ length side.stays.items
  pub settled : length side.settled.items ≡ length side.stays.items

-- increasing numbers of lines of the matrix
pub record IsSide (m : Matrix) (side : StayingLines) : Type 0 where
  pub increasing : IsStrictlyIncreasing side.stays.items
  pub in_range : AllBelow (count_of_kind m side.kind) side.stays.items
  pub parallel : IsParallel side

-- increasing numbers of crossing lines
pub record IsAcross (m : Matrix) (kind : LineKind) (across : List ℕ) : Type 0 where
  pub increasing : IsStrictlyIncreasing across
  pub in_range : AllBelow (cross_size m kind) across

-- the lines at two positions differ and have the same sum
abbrev pub may_be_twins : StayingLines → ℕ → ℕ → Bool
may_be_twins side place other =
    slice_index side.sums.items other == slice_index side.sums.items place && not (slice_index side.stays.items other == slice_index side.stays.items place)

-- the same, and the entries -1 have the sum of those of a copy
abbrev pub may_be_copy : StayingLines → ℕ → ℕ → Bool
may_be_copy side place other = may_be_twins side place other && slice_index side.minus_sums.items other == slice_index side.minus_sums.items place

-- the same, and the entries -1 have the sum of those of the negative: the entries 1 become entries -1
abbrev pub may_be_negative : StayingLines → ℕ → ℕ → Bool
may_be_negative side place other =
    may_be_twins side place other && slice_index side.minus_sums.items other == slice_index side.sums.items place - slice_index side.minus_sums.items place

-- no other line has the sum of the line at a position
abbrev pub IsAlone : StayingLines → ℕ → Type 0
IsAlone side place = (other : ℕ) → other < length side.stays.items → may_be_twins side place other ≡ false

-- the counts and sums of the nonzeros in these crossing lines are right
pub record AreNonzerosCounted (m : Matrix) (side : StayingLines) (across : List ℕ) : Type 0 where
  pub counts : (at : ℕ) → at < length side.stays.items
      → slice_index side.counts.items at ≡ nonzeros_at across (table (entry m) side.kind (slice_index side.stays.items at))
  pub sums : (at : ℕ) → at < length side.stays.items
      → slice_index side.sums.items at ≡ weight_at across (table (entry m) side.kind (slice_index side.stays.items at))
  pub minus_sums : (at : ℕ) → at < length side.stays.items
      → slice_index side.minus_sums.items at ≡ minus_weight_at across (table (entry m) side.kind (slice_index side.stays.items at))

-- a marked line is not reducible
abbrev pub IsSettled : Bool → Matrix → StayingLines → List ℕ → Type 0
IsSettled binary m side across = (at : ℕ) → at < length side.stays.items → slice_index_or side.settled.items at false ≡ true
    → reason_for binary (entry m) side.kind side.stays.items across (slice_index side.stays.items at) ≡ None

-- the step with the first reducible line of some lines of the kind
abbrev pub first_step_of : Bool → (ℕ → ℕ → ℤ) → LineKind → List ℕ → List ℕ → List ℕ → Option Step
first_step_of binary M kind own across [] = None
first_step_of binary M kind own across (line ∷ lines) =
    option_or (option_map (λ reason. record { line = line_named kind line; reason = reason }) (reason_for binary M kind own across line))
    (first_step_of binary M kind own across lines)

-- another line that equals this one
abbrev pub is_copy : (ℕ → ℕ → ℤ) → List ℕ → ℕ → ℕ → Bool
is_copy M across line twin = not (twin == line) && equal_at across (M twin) (M line)

-- another line that is the negative of this one
abbrev pub is_negative : (ℕ → ℕ → ℤ) → List ℕ → ℕ → ℕ → Bool
is_negative M across line twin = not (twin == line) && equal_at across (M twin) (λ other. neg_ℤ (M line other))

-- why a line with two nonzeros or more is reducible
abbrev pub twin_reason : Bool → (ℕ → ℕ → ℤ) → LineKind → List ℕ → List ℕ → ℕ → Option Reason
twin_reason binary M kind own across line =
    option_or (option_map (λ twin. Copy (line_named kind twin)) (find (is_copy (table M kind) across line) own))
    (if binary then None else option_map (λ twin. Negative (line_named kind twin)) (find (is_negative (table M kind) across line) own))

-- the line at the position that was found is the first reducible line, for this reason
pub record IsFirstReducible (binary : Bool) (m : Matrix) (side : StayingLines) (across : List ℕ) (found : Found) : Type 0 where
  pub in_range : found.place < length side.stays.items
  pub reason : reason_for binary (entry m) side.kind side.stays.items across (slice_index side.stays.items found.place) ≡ Some found.reason
  pub step : first_step_of binary (entry m) side.kind side.stays.items across side.stays.items
      ≡ Some (record { line = line_named side.kind (slice_index side.stays.items found.place); reason = found.reason })
