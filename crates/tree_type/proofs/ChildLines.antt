-- Sets of lines, by their rows and their columns.
use Rattle.std.proofs.Common.{◌≡◌, ap₂, List, ℕ, Result, Ok, Err, IfOk}
use Rattle.cmr_base.specs.declared.line_set.LineSet.{LineSet}

pub lines_are : {E : Type 0} (made : Result LineSet E) (rows columns : List ℕ) → IfOk made (λ lines. lines.rows ≡ rows) → IfOk made (λ lines. lines.columns ≡ columns) → IfOk made (λ lines. lines ≡ record { rows = rows; columns = columns })
lines_are (Ok lines) rows columns r c = ap₂ (λ (rows columns : List ℕ). record { rows = rows; columns = columns }) r c
lines_are (Err e) rows columns r c = tt
