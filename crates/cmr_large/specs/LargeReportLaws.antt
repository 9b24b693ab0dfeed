-- What the arguments and the text determine of a report, and which part stays open.
use Rattle.std.specs.Prelude.{◌≡◌, ◌≢◌, ◌⊎◌, ℕ, List}
use Rattle.cmr_base.specs.declared.line_set.LineSet.{LineSet}
use Rattle.cmr_base.specs.Matrix.{Matrix}
use Rattle.tree_type.specs.Soundness.{part}
use Rattle.large_unimodular.specs.declared.part_verdicts.PartVerdict.TheVariants as own
use Rattle.large_unimodular.specs.PartVerdicts.{IsSmall, IsThin, IsTreeVerdict}
use Rattle.cmr_front.specs.declared.status.Answer.TheVariants.{No}
use Rattle.cmr_front.specs.Report.{Report}
use Rattle.cmr_front.specs.Status.{answer_status}
use Rattle.cmr_large.specs.LargeReports.{IsUndecidedPart}
use Rattle.cmr_large.specs.LargeTu.{LargeOrder, large_tool}

-- the whole report, except for the violator of a no
abbrev pub LargeReportsAreOne : Type 0
LargeReportsAreOne = (order : LargeOrder) (bytes : List (List ℕ)) (one other : Report) → (large_tool order).Reports bytes one → (large_tool order).Reports bytes other
    → one.status ≢ answer_status No → one ≡ other

-- A row and a column of the part have three nonzeros. It has more than 1,000 rows or columns, or its decomposition stays undecided.
pub record IsBeyond (limit pivots : ℕ) (m : Matrix) : Type 0 where
  pub thick : ¬ (IsThin m)
  pub cause : ¬ (IsSmall m) ⊎ IsTreeVerdict limit pivots m own.Open

abbrev pub UndecidedPartsAreBeyond : Type 0
UndecidedPartsAreBeyond = (limit pivots : ℕ) (m : Matrix) (lines : LineSet) → IsUndecidedPart limit pivots m lines → IsBeyond limit pivots (part m lines)
