-- Rows and columns change places.
use Rattle.std.proofs.Common.{◌≡◌, ℕ, Bool, ℤ, List, Some, refl}
use Rattle.std.specs.List.Sorted.{IsStrictlyIncreasing}
use Rattle.cmr_base.specs.declared.line.Line.TheVariants.{Row, Column}
use Rattle.cmr_base.specs.declared.line.Reason.{Reason}
use Rattle.cmr_base.specs.Matrix.{Matrix}
use Rattle.sp_reduce.specs.declared.kind.LineKind.{LineKind}
use Rattle.sp_reduce.specs.declared.kind.LineKind.TheVariants.{Rows, Columns}
use Rattle.sp_reduce.specs.LineKinds.{line_named, index_of_line, other_kind, count_of_kind, cross_size, table, reason_for}
use Rattle.sp_reduce.proofs.Meanings.{IsMeant, meaning}

pub number-line_named : (kind : LineKind) (number : ℕ) → index_of_line (line_named kind number) ≡ number
number-line_named Rows number = refl
number-line_named Columns number = refl

pub other-other : (kind : LineKind) → other_kind (other_kind kind) ≡ kind
other-other Rows = refl
other-other Columns = refl

pub size-other : (m : Matrix) (kind : LineKind) → count_of_kind m (other_kind kind) ≡ cross_size m kind
size-other m Rows = refl
size-other m Columns = refl

pub meant_for : (binary : Bool) (M : ℕ → ℕ → ℤ) (kind : LineKind) (R C : List ℕ) (removed : ℕ) (reason : Reason) → IsStrictlyIncreasing C
    → reason_for binary M (other_kind kind) R C removed ≡ Some reason
    → IsMeant binary (λ k l. table M kind l k) (line_named kind) R C removed reason
meant_for binary M Rows R C removed reason increases e = meaning binary (λ k l. M l k) Column Row R C removed reason increases e
meant_for binary M Columns R C removed reason increases e = meaning binary (λ k l. M k l) Row Column R C removed reason increases e
