use Rattle.std.proofs.Common.{◌∙◌, ap, refl, sym}
use Rattle.cmr_base.specs.Matrix.{Matrix, height, transposed}
use Rattle.cmr_base.proofs.Parts.{height-transposed}
use Rattle.cuts.proofs.ClassLemmas.{to_columns, to_rows, wide_size}
use Rattle.cuts.proofs.SideLemmas.{grown_lines, grown_rows, numbers_at, side_numbered}
use Rattle.cuts.proofs.sides.Side.grown.Goals as goal

pub add-requires-clause-numbers : goal.add-requires-clause-numbers
add-requires-clause-numbers c =
    let m = c.args.matrix.now in
    let side = c.args.self.now in
    let has = c.requires.numbers in
    numbers_at m c.by_rows.result.now c.in_ok-rows.rows side.lines.rows side.column_numbers.items c.by_rows.ensures.matrix c.in_ok-rows.ensures.set (c.in_ok-rows.ensures.numbers ∙ c.deref.ensures.value) has.lines.rows (side.column_size ∙ has.lines.columns)
    (to_columns m side.lines.rows.words side.column_numbers.items c.by_rows.ensures.shape has.columns)

pub add-requires-2-clause-numbers : goal.add-requires-2-clause-numbers
add-requires-2-clause-numbers c =
    let m = c.args.matrix.now in
    let side = c.args.self.now in
    let has = c.requires.numbers in
    numbers_at (transposed m) c.by_columns.result.now c.in_ok-columns.columns side.lines.columns side.row_numbers.items c.by_columns.ensures.matrix c.in_ok-columns.ensures.set (c.in_ok-columns.ensures.numbers ∙ c.deref-2.ensures.value)
    (has.lines.columns ∙ sym (height-transposed m)) (side.row_size ∙ has.lines.rows) (to_rows m side.lines.columns.words side.row_numbers.items (height m) c.by_rows.ensures.shape refl has.rows)

pub add-requires-2-clause-rows : goal.add-requires-2-clause-rows
add-requires-2-clause-rows c = wide_size c.args.matrix.now c.by_columns.result.now c.args.lines.now.columns.size c.by_columns.ensures.matrix (c.requires.lines.columns ∙ c.requires.numbers.lines.columns)

pub invariant_of-result : goal.invariant_of-result
invariant_of-result c =
    let rows = c.add.ensures.numbers in
    let columns = c.add-2.ensures.numbers in
    let by_rows = c.by_rows.ensures.matrix in
    let by_columns = c.by_columns.ensures.matrix in record {
      row_size = columns.size ∙ ap (λ (z : Matrix). z.width) by_columns ∙ sym (rows.set_size ∙ ap height by_rows);
      column_size = rows.size ∙ ap (λ (z : Matrix). z.width) by_rows ∙ sym (columns.set_size ∙ ap height by_columns ∙ height-transposed c.args.matrix.now);
    }

pub returns-clause-numbers : goal.returns-clause-numbers
returns-clause-numbers c =
    let (lines, rows, columns) = side_numbered c.args.matrix.now c.by_rows.result.now c.by_columns.result.now c.add.new.self c.add-2.new.self c.by_rows.ensures.shape c.by_rows.ensures.matrix c.by_columns.ensures.matrix c.add.ensures.numbers
    c.add-2.ensures.numbers in record { lines = lines; rows = rows; columns = columns }

pub returns-clause-lines : goal.returns-clause-lines
returns-clause-lines c = λ x l t.
    let before = c.args.self.now.lines in
    let further = c.args.lines.now in
    grown_lines before further (record { rows = c.add.new.self.set; columns = c.add-2.new.self.set })
    (grown_rows before.rows c.in_ok-rows.rows.set further.rows c.add.new.self.set c.in_ok-rows.ensures.set c.add.ensures.only)
    (grown_rows before.columns c.in_ok-columns.columns.set further.columns c.add-2.new.self.set c.in_ok-columns.ensures.set c.add-2.ensures.only) x t
