-- Reports of decisions by faults, under the label of a tool.
use Rattle.std.specs.Prelude.{◌++◌, ℕ, ℤ, List, [], Option, codes}
use Rattle.std.specs.Fmt.{signed_decimal}
use Rattle.cmr_base.specs.declared.line_set.LineSet.{LineSet}
use Rattle.cmr_base.specs.Matrix.{Matrix, height}
use Rattle.cmr_base.specs.LineSets.{first_lines, submatrix_sum}
use Rattle.matrix_text.specs.CanonicalMatrices.{submatrix_text}
use Rattle.cmr_front.specs.declared.status.Answer.TheVariants.{Yes, No, Undecided}
use Rattle.cmr_front.specs.Printed.{line_set_text, open_line}
use Rattle.cmr_front.specs.Report.{Report, asked_file}
use Rattle.cmr_front.specs.Status.{answer_status}

-- a yes
abbrev pub yes_report : List ℕ → Report
yes_report label = record { status = answer_status Yes; output = label ++ codes ": yes\n"; error = []; files = [] }

-- the line on a fault and its sum
abbrev pub named_fault : List ℕ → List ℕ → ℤ → List ℕ
named_fault rows columns sum = codes "fault " ++ line_set_text rows columns ++ codes " sum " ++ signed_decimal sum ++ codes "\n"

-- a no with this fault, which is written if its file is requested
abbrev pub fault_report : List ℕ → Option (List ℕ) → Matrix → LineSet → Report
fault_report label name m fault = record {
  status = answer_status No;
  output = label ++ codes ": no\n" ++ named_fault fault.rows fault.columns (submatrix_sum m fault.rows fault.columns);
  error = [];
  files = asked_file name (submatrix_text (height m) m.width fault);
}

-- all lines are left open
abbrev pub open_report : List ℕ → Matrix → Report
open_report label m = record {
  status = answer_status Undecided;
  output = label ++ codes ": undecided\n" ++ open_line (first_lines (height m)) (first_lines m.width);
  error = [];
  files = [];
}
