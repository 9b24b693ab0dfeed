-- Rows and columns alike: lines of one kind, and those of the other kind, which they cross.
use Rattle.std.specs.Prelude.{◌||◌, ◌&&◌, ◌==◌, not, Bool, ℕ, ℤ, neg_ℤ, List, Option}
use Rattle.cmr_base.specs.declared.line.Line.{Line}
use Rattle.cmr_base.specs.declared.line.Line.TheVariants.{Row, Column}
use Rattle.cmr_base.specs.declared.line.Reason.{Reason}
use Rattle.cmr_base.specs.Matrix.{Matrix, height}
use Rattle.cmr_base.specs.Reductions.{equal_at, first_reason}
use Rattle.sp_reduce.specs.declared.kind.LineKind.{LineKind}
use Rattle.sp_reduce.specs.declared.kind.LineKind.TheVariants.{Rows, Columns}

abbrev pub line_named : LineKind → ℕ → Line
line_named Rows number = Row number
line_named Columns number = Column number

-- the line of the other kind
abbrev pub cross_named : LineKind → ℕ → Line
cross_named Rows number = Column number
cross_named Columns number = Row number

abbrev pub index_of_line : Line → ℕ
index_of_line (Row number) = number
index_of_line (Column number) = number

abbrev pub other_kind : LineKind → LineKind
other_kind Rows = Columns
other_kind Columns = Rows

-- the line of the kind through a row and a column
abbrev pub own_line : LineKind → ℕ → ℕ → ℕ
own_line Rows row column = row
own_line Columns row column = column

-- how many lines of the kind there are, and how many of the other kind
abbrev pub count_of_kind : Matrix → LineKind → ℕ
count_of_kind m Rows = height m
count_of_kind m Columns = m.width

abbrev pub cross_size : Matrix → LineKind → ℕ
cross_size m Rows = m.width
cross_size m Columns = height m

-- the entry of a line of the kind and a line of the other kind
abbrev pub table : (ℕ → ℕ → ℤ) → LineKind → ℕ → ℕ → ℤ
table M Rows line other = M line other
table M Columns line other = M other line

-- why a line is reducible among the lines of its kind and those that it crosses
abbrev pub reason_for : Bool → (ℕ → ℕ → ℤ) → LineKind → List ℕ → List ℕ → ℕ → Option Reason
reason_for binary M kind own across line = first_reason binary (table M kind) (line_named kind) (cross_named kind) own across line

-- another line of the kind that equals this one, or is its negative
abbrev pub is_twin : Bool → (ℕ → ℕ → ℤ) → List ℕ → ℕ → ℕ → Bool
is_twin binary M across line twin =
    not (twin == line) && (equal_at across (M twin) (M line) || not binary && equal_at across (M twin) (λ other. neg_ℤ (M line other)))
