-- The answer and the printed words of a verdict.
use Rattle.std.specs.Prelude.{ℕ, List, [], codes}
use Rattle.cmr_base.specs.LineSets.{submatrix_sum}
use Rattle.cmr_base.specs.Matrix.{Matrix}
use Rattle.tree_type.specs.Verdicts as verdicts
use Rattle.tree_type.specs.Verdicts.{Verdict}
use Rattle.cmr_front.specs.declared.status.Answer.{Answer}
use Rattle.cmr_front.specs.declared.status.Answer.TheVariants.{Yes, No, Undecided}
use Rattle.cmr_front.specs.Printed.{open_line, violator_line}

abbrev pub answer_of : Verdict → Answer
answer_of verdicts.Yes = Yes
answer_of (verdicts.No fault) = No
answer_of (verdicts.Open lines) = Undecided

abbrev pub answer_word : Verdict → List ℕ
answer_word verdicts.Yes = codes ": yes\n"
answer_word (verdicts.No fault) = codes ": no\n"
answer_word (verdicts.Open lines) = codes ": undecided\n"

-- the violator that a no names, and the open lines
abbrev pub named_line : Matrix → Verdict → List ℕ
named_line m verdicts.Yes = []
named_line m (verdicts.No fault) = violator_line fault.rows fault.columns (submatrix_sum m fault.rows fault.columns)
named_line m (verdicts.Open lines) = open_line lines.rows lines.columns
