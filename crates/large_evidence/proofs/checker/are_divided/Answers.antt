use Rattle.std.proofs.Common.{rules, length}
use Rattle.sparse_matrix.specs.SparseRows.{sparse_entry}
use Rattle.part_numbers.specs.PartNumbering.{AreRowsTogether}
use Rattle.large_evidence.specs.declared.numbering.Side.TheVariants.{Columns, Rows}
use Rattle.large_evidence.specs.LineDivisions.{AreTheirPlaces, lines_at}
use Rattle.large_evidence.proofs.PlacedLines.{divided_parts, placed_parts}
use Rattle.large_evidence.proofs.checker.are_divided.Goals as goal

pub returns-then-are_places-2-clause-divided : goal.returns-then-are_places-2-clause-divided
returns-then-are_places-2-clause-divided c =
    let matrix = c.args.matrix.now in
    let left = c.args.left.now in
    let of_rows = c.args.of_rows.now in
    let of_columns = c.args.of_columns.now in
    let parts = c.args.parts.now in
    let rows_are : AreTheirPlaces left.rows.items of_rows.numbers.items of_rows.places.items (lines_at Rows parts) (length parts) = search rules in
    let columns_are : AreTheirPlaces left.columns.items of_columns.numbers.items of_columns.places.items (lines_at Columns parts) (length parts) = search rules in
    λ yes.
    let together : AreRowsTogether (sparse_entry matrix) left.rows.items left.columns.items of_rows.numbers.items of_columns.numbers.items = search (rules, yes) in
    divided_parts matrix c.rows-height.ensures.shape left.rows.items left.columns.items of_rows.numbers.items of_rows.places.items of_columns.numbers.items of_columns.places.items parts
    c.requires.marks.rows c.requires.marks.columns c.requires.of_columns.places rows_are columns_are together

pub returns-then-are_places-2-clause-placed : goal.returns-then-are_places-2-clause-placed
returns-then-are_places-2-clause-placed c =
    let matrix = c.args.matrix.now in
    let left = c.args.left.now in
    let of_rows = c.args.of_rows.now in
    let of_columns = c.args.of_columns.now in
    let parts = c.args.parts.now in
    let rows_are : AreTheirPlaces left.rows.items of_rows.numbers.items of_rows.places.items (lines_at Rows parts) (length parts) = search rules in
    let columns_are : AreTheirPlaces left.columns.items of_columns.numbers.items of_columns.places.items (lines_at Columns parts) (length parts) = search rules in
    λ yes.
    let together : AreRowsTogether (sparse_entry matrix) left.rows.items left.columns.items of_rows.numbers.items of_columns.numbers.items = search (rules, yes) in
    placed_parts matrix c.rows-height.ensures.shape left.rows.items left.columns.items of_rows.numbers.items of_rows.places.items of_columns.numbers.items of_columns.places.items parts
    c.requires.marks.rows c.requires.marks.columns c.requires.of_columns.places rows_are columns_are together
