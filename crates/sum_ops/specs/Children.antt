-- The lines of a child.
use Rattle.std.specs.Prelude.{◌≡◌, ◌<◌, ◌+◌, ◌==◌, ◌||◌, not, filter, ℕ, Bool, true, false, List, length}
use Rattle.std.specs.List.{list_any}
use Rattle.cmr_base.specs.declared.line.Line.{Line}
use Rattle.cmr_base.specs.declared.line_set.LineSet.{LineSet}
use Rattle.cmr_base.specs.Separations.{Lines, opposite, is_same_line, rows_in, columns_in}

-- side one, or the opposite side
abbrev pub on_side : Bool → Lines → Lines
on_side true side = side
on_side false side = opposite side

-- a number is on the list, or is not
abbrev pub on_list : Bool → List ℕ → ℕ → Bool
on_list true list number = list_any (λ other. other == number) list
on_list false list number = not (list_any (λ other. other == number) list)

-- the lines of one kind that are on the list, or, without `inside`, not on it, and the lines that `more` names
abbrev pub chosen : (ℕ → Line) → Bool → List ℕ → List Line → List ℕ → List ℕ
chosen kind inside side more lines = filter (λ line. on_list inside side line || list_any (is_same_line (kind line)) more) lines

-- the child has the lines that are in the set
pub record AreOfChild (lines : LineSet) (set : Lines) (child : LineSet) : Type 0 where
  pub rows : child.rows ≡ rows_in set lines.rows
  pub columns : child.columns ≡ columns_in set lines.columns

abbrev pub HasFewer : LineSet → LineSet → Type 0
HasFewer lines child = length child.rows + length child.columns < length lines.rows + length lines.columns
