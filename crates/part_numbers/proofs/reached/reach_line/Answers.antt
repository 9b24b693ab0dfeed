use Rattle.std.proofs.Common.{◌<◌, length, refl, rules}
use Rattle.part_numbers.proofs.MarkedSearch.{reaches_column, reaches_row}
use Rattle.part_numbers.proofs.reached.reach_line.Goals as goal

pub returns-in-Row-clause-reaches : goal.returns-in-Row-clause-reaches
returns-in-Row-clause-reaches c =
    let before = c.args.search.now in
    let row = c.in-Row.row in
    let inside : row < length before.rows.items = search rules in
    let numbered : row < length before.of_rows.items = search rules in
    reaches_row before _ c.args.line row c.args.part c.in-Row.is inside numbered c.requires.free refl refl refl refl c.in_ok-push.ensures.items

pub returns-in-Column-clause-reaches : goal.returns-in-Column-clause-reaches
returns-in-Column-clause-reaches c =
    let before = c.args.search.now in
    let column = c.in-Column.column in
    let inside : column < length before.columns.items = search rules in
    let numbered : column < length before.of_columns.items = search rules in
    reaches_column before _ c.args.line column c.args.part c.in-Column.is inside numbered c.requires.free refl refl refl refl c.in_ok-push.ensures.items
