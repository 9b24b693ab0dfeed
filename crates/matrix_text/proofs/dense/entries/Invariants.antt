use Rattle.std.proofs.Common.{◌≡◌, ◌-◌, ℕ, pos, length, get_or}
use Rattle.cmr_base.specs.Matrix.{IsEntry}
use Rattle.text_fields.specs.Reading.{times, another, fields}
use Rattle.matrix_text.specs.declared.error.TextKind.TheVariants.{Short}
use Rattle.matrix_text.specs.Values.{entry_in}
use Rattle.matrix_text.proofs.dense.entries.Given as goal

abbrev pub invariant-loop : goal.invariant-loop
invariant-loop l = record {
  read : times (another Short (entry_in l.binary)) (l.count - l.counter) l.cells.items l.words ≡ fields Short (entry_in l.binary) l.count l.fn.words;
  small : (k : ℕ) → IsEntry (get_or l.cells.items k (pos 0));
  len : length l.cells.items ≡ l.counter;
}
