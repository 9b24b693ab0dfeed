-- The sums by their kinds.
use Rattle.std.specs.Prelude.{◌≡◌, ◌+◌, ℕ}
use Rattle.cmr_base.specs.declared.separation.Form.{Form}
use Rattle.cmr_base.specs.declared.separation.Form.TheVariants as form
use Rattle.cmr_base.specs.Matrix.{Matrix, height}
use Rattle.cmr_base.specs.MatrixSums.{one_sum, HaveTwoSum, two_sum, HaveThreeSum, three_sum}
use Rattle.sum_ops.specs.declared.error.SumError.{SumError}
use Rattle.sum_ops.specs.SumCauses.{IsCause, IsConcentratedCause}
use Rattle.compose.specs.declared.sum_kind.SumKind.{SumKind}
use Rattle.compose.specs.declared.sum_kind.SumKind.TheVariants.{One, Two, Delta, YForm, Mixed, Concentrated}

abbrev pub kind_of_form : Form → SumKind
kind_of_form form.Delta = Delta
kind_of_form form.YForm = YForm
kind_of_form form.Mixed = Mixed
kind_of_form form.Concentrated = Concentrated

-- the matrices have the connecting lines of the sum
abbrev pub HaveSum : SumKind → Matrix → Matrix → Type 0
HaveSum One first second = Unit {0}
HaveSum Two first second = HaveTwoSum first second
HaveSum Delta first second = HaveThreeSum form.Delta first second
HaveSum YForm first second = HaveThreeSum form.YForm first second
HaveSum Mixed first second = HaveThreeSum form.Mixed first second
HaveSum Concentrated first second = HaveThreeSum form.Concentrated first second

abbrev pub sum_of : SumKind → Matrix → Matrix → Matrix
sum_of One first second = one_sum first second
sum_of Two first second = two_sum first second
sum_of Delta first second = three_sum form.Delta first second
sum_of YForm first second = three_sum form.YForm first second
sum_of Mixed first second = three_sum form.Mixed first second
sum_of Concentrated first second = three_sum form.Concentrated first second

-- the number of rows, and of columns, that the sum has less than its two matrices
abbrev pub lost_rows : SumKind → ℕ
lost_rows One = 0
lost_rows Two = 1
lost_rows Delta = 2
lost_rows YForm = 4
lost_rows Mixed = 3
lost_rows Concentrated = 3

abbrev pub lost_columns : SumKind → ℕ
lost_columns One = 0
lost_columns Two = 1
lost_columns Delta = 4
lost_columns YForm = 2
lost_columns Mixed = 3
lost_columns Concentrated = 3

-- the sum has `lost_rows` rows, and `lost_columns` columns, less than the two matrices together
abbrev pub LosesRows : SumKind → Matrix → Matrix → Type 0
LosesRows kind first second = height (sum_of kind first second) + lost_rows kind ≡ height first + height second

abbrev pub LosesColumns : SumKind → Matrix → Matrix → Type 0
LosesColumns kind first second = (sum_of kind first second).width + lost_columns kind ≡ first.width + second.width

abbrev pub SumsLoseLines : Type 0
SumsLoseLines = (kind : SumKind) (first second : Matrix) → HaveSum kind first second → LosesRows kind first second × LosesColumns kind first second

-- the reason why there is no sum
abbrev pub IsCauseOf : SumKind → Matrix → Matrix → SumError → Type 0
IsCauseOf One first second = IsCause (HaveSum One first second)
IsCauseOf Two first second = IsCause (HaveSum Two first second)
IsCauseOf Delta first second = IsCause (HaveSum Delta first second)
IsCauseOf YForm first second = IsCause (HaveSum YForm first second)
IsCauseOf Mixed first second = IsCause (HaveSum Mixed first second)
IsCauseOf Concentrated first second = IsConcentratedCause first second
