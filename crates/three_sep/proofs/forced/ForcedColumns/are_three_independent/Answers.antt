use Rattle.std.proofs.Common.{◌∙◌, ◌≡◌, ◌&&◌, not, refl, sym, ℕ, Bool}
use Rattle.cmr_base.specs.Matrix.{Matrix}
use Rattle.cmr_base.specs.ColumnSets.{has_column}
use Rattle.three_sep.specs.Independent.{IsNewRow, outside_one, outside_two}
use Rattle.three_sep.proofs.ForcedLemmas.{or_none}
use Rattle.three_sep.proofs.forced.ForcedColumns.are_three_independent.Goals as goal

-- the same set
same_new : (m : Matrix) (j row : ℕ) (one two : ℕ → Bool) → ((column : ℕ) → one column ≡ two column) → IsNewRow m j one row → IsNewRow m j two row
same_new m j row one two same new = record { row_in = new.row_in; nonzero = new.nonzero; column = new.column; among = sym (same new.column) ∙ new.among; here = new.here }

both_same : (a b e f : Bool) → a ≡ b → e ≡ f → (a && not e) ≡ (b && not f)
both_same a b e f s t = rw (s, t) refl

pub returns-in-Some-new_row-2-clause-independent : goal.returns-in-Some-new_row-2-clause-independent
returns-in-Some-new_row-2-clause-independent c = λ e.
    let m = c.args.self.now.matrix.now in
    let set = has_column c.args.self.now.columns.words in
    let j = c.args.j in
    let one = c.in-Some.one in
    let two = c.in-Some-new_row.two in
    let three = c.in-Some-new_row-2._three in
    let left : (column : ℕ) → has_column c.add_outside_words.new.self.words column ≡ outside_one m set one column =
    λ column. c.add_outside_words.ensures.columns column ∙ or_none _ _ (c.clear.ensures.none column) ∙ both_same _ _ _ _ refl ((rw c.by_rows.ensures.matrix at c.columns_of.ensures.columns) column) in
    let last : (column : ℕ) → has_column c.add_outside_words-2.new.self.words column ≡ outside_two m set one two column =
    λ column. c.add_outside_words-2.ensures.columns column ∙ or_none _ _ (c.clear-2.ensures.none column) ∙ both_same _ _ _ _ (left column) ((rw c.by_rows-2.ensures.matrix at c.columns_of-2.ensures.columns) column) in
    record {
      one = one;
      two = two;
      three = three;
      first = c.in-Some.ensures.new;
      second = same_new m j two _ (outside_one m set one) left c.in-Some-new_row.ensures.new;
      third = same_new m j three _ (outside_two m set one two) last c.in-Some-new_row-2.ensures.new;
    }
