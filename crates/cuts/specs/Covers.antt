-- Cuts with given lines in side one and given lines in side two, and the lines that they separate from the lines in side one.
use Rattle.std.specs.Prelude.{◌≡◌, ◌≢◌, ◌<◌, ◌≤◌, ◌+◌, ◌⊎◌, ℕ, Bool, true, false, not, nat_eq, ◌||◌, ◌&&◌}
use Rattle.cmr_base.specs.declared.line.Line.{Line}
use Rattle.cmr_base.specs.declared.line.Line.TheVariants.{Row, Column}
use Rattle.cmr_base.specs.Matrix.{Matrix, height}
use Rattle.cmr_base.specs.Separations.{Lines}
use Rattle.cmr_base.specs.Trees.{support}
use Rattle.cuts.specs.declared.groups.Groups.{Groups}
use Rattle.cmr_base.specs.Seeds.{count}
use Rattle.cuts.specs.LineCuts.{IsCut, name_of}
use Rattle.cmr_base.specs.Components.{IsLineOf}

-- each line of the matrix that is in the first set is in the second
abbrev pub AreWithin : Matrix → Lines → Lines → Type 0
AreWithin m A B = (x : Line) → IsLineOf m x → A x ≡ true → B x ≡ true

-- no line of the first set is in the second
abbrev pub AreOutside : Matrix → Lines → Lines → Type 0
AreOutside m A B = (x : Line) → IsLineOf m x → A x ≡ true → B x ≡ false

-- a cut with the lines of H in side one and the lines of K in side two
pub record IsCutWith (m : Matrix) (H K T : Lines) : Type 0 where
  pub cut : IsCut m T
  pub one : AreWithin m H T
  pub two : AreOutside m K T

-- each line of side two of such a cut is in P
abbrev pub Covers : Matrix → Lines → Lines → Lines → Type 0
Covers m H K P = (T : Lines) → IsCutWith m H K T → (x : Line) → IsLineOf m x → T x ≡ false → P x ≡ true

-- each cut with given lines in side one also has the lines of one of two other sets there
abbrev pub IsHalved : Matrix → (before one other : Lines) → Type 0
IsHalved m before one other = (T : Lines) → IsCut m T → AreWithin m before T → AreWithin m one T ⊎ AreWithin m other T

-- each line of the first set is in the second or in the third
abbrev pub AddsAtMost : Matrix → (after before added : Lines) → Type 0
AddsAtMost m after before added = (x : Line) → IsLineOf m x → after x ≡ true → (before x ≡ true) ⊎ (added x ≡ true)

-- the lines outside the set get the name of one line, and the others keep their names
pub record GetName (m : Matrix) (before after : Groups) (P : Lines) (e : Line) : Type 0 where
  pub renamed : (x : Line) → IsLineOf m x → P x ≡ false → name_of m after x ≡ name_of m before e
  pub kept : (x : Line) → IsLineOf m x → P x ≡ true → name_of m after x ≡ name_of m before x

-- the lines outside the set are on the side of the line e
abbrev pub AreOnOneSide : Matrix → Line → Lines → Type 0
AreOnOneSide m e P = (T : Lines) → IsCut m T → (x : Line) → IsLineOf m x → P x ≡ false → T x ≡ T e

-- ---- patterns: the positions in which a line is not 0, on the lines of a set that cross it

abbrev pub IsNonzeroOn : Matrix → Lines → Line → Type 0
IsNonzeroOn m H (Row r) = (c : ℕ) × (c < m.width) × (H (Column c) ≡ true) × (support m r c ≡ true)
IsNonzeroOn m H (Column c) = (r : ℕ) × (r < height m) × (H (Row r) ≡ true) × (support m r c ≡ true)

-- two rows, or two columns, of which exactly one is 0 somewhere on the set
abbrev pub Differ : Matrix → Lines → Line → Line → Type 0
Differ m H (Row r) (Row s) = (c : ℕ) × (c < m.width) × (H (Column c) ≡ true) × (support m r c ≢ support m s c)
Differ m H (Column c) (Column d) = (r : ℕ) × (r < height m) × (H (Row r) ≡ true) × (support m r c ≢ support m r d)
Differ m H (Row r) (Column d) = ⊥
Differ m H (Column c) (Row s) = ⊥

-- the patterns are different, and neither is 0
pub record AreUnlike (m : Matrix) (H : Lines) (x y : Line) : Type 0 where
  pub met_one : IsNonzeroOn m H x
  pub met_two : IsNonzeroOn m H y
  pub differ : Differ m H x y

-- each line of one set is unlike each line of the other
abbrev pub AreAllUnlike : Matrix → Lines → Lines → Lines → Type 0
AreAllUnlike m H X Y = (x y : Line) → IsLineOf m x → IsLineOf m y → X x ≡ true → Y y ≡ true → AreUnlike m H x y

-- classes of the rows, or of the columns: lines outside the set with different classes other than 0 are unlike
abbrev pub AreClasses : Matrix → Lines → (ℕ → Line) → (ℕ → ℕ) → Type 0
AreClasses m H line class = (a b : ℕ) → IsLineOf m (line a) → IsLineOf m (line b) → H (line a) ≡ false → H (line b) ≡ false → class a ≢ 0 → class b ≢ 0 → class a ≢ class b → AreUnlike m H (line a) (line b)

-- the lines outside the set with class 0 or the given class
abbrev pub may_be_outside : Lines → (ℕ → Line) → (class : ℕ → ℕ) → (given : ℕ) → ℕ → Bool
may_be_outside H line class given a = not (H (line a)) && (nat_eq (class a) 0 || nat_eq (class a) given)

-- for each class, at most `bound` lines are outside the set with class 0 or this class
abbrev pub AreAtMost : Lines → (ℕ → Line) → (ℕ → ℕ) → (size bound : ℕ) → Type 0
AreAtMost H line class size bound = (given : ℕ) → count (may_be_outside H line class given) size ≤ bound

-- a side that has none of the set, and no two unlike lines, has fewer than four lines
pub record LeavesFew (m : Matrix) (H : Lines) : Type 0 where
  pub rows : ℕ → ℕ
  pub columns : ℕ → ℕ
  pub most_rows : ℕ
  pub most_columns : ℕ
  pub row_classes : AreClasses m H Row rows
  pub column_classes : AreClasses m H Column columns
  pub rows_at_most : AreAtMost H Row rows (height m) most_rows
  pub columns_at_most : AreAtMost H Column columns m.width most_columns
  pub few : most_rows + most_columns < 4
