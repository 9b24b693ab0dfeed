use Rattle.std.proofs.Common.{◌≡◌, ◌-◌, ◌*◌, ℤ, List, length, false}
use Rattle.text_fields.specs.Reading.{another, fields, times}
use Rattle.matrix_text.specs.declared.error.TextKind.TheVariants.{Short}
use Rattle.matrix_text.specs.Values.{entry_in}
use Rattle.sparse_text.proofs.DenseEntries.{AreEntries}
use Rattle.sparse_text.proofs.dense.matrix_by_entries.Given as goal

abbrev pub invariant-loop-place : goal.invariant-loop-place
invariant-loop-place l =
    (cells : List ℤ)
    × (times (another Short (entry_in false)) (l.rows * l.columns - l.place) cells l.words ≡ fields Short (entry_in false) (l.rows * l.columns) l.fn.words)
    × (length cells ≡ l.place)
    × AreEntries l.rows l.columns cells l.matrix
