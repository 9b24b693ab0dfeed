use Rattle.std.proofs.Common.{◌<◌, ◌∙◌, false, length, ap, rules, sym}
use Rattle.std.proofs.lemmas.List.{get_or_read}
use Rattle.part_numbers.specs.PartSearches.{is_in_core, is_reached}
use Rattle.part_numbers.proofs.ReachedLines.{free_test}
use Rattle.part_numbers.proofs.reached.is_free.Goals as goal

pub returns-then-index : goal.returns-then-index
returns-then-index c =
    let core = c.args.core.now in
    let before = c.args.search.now in
    let row = c.in-Row.row in
    let in_core : row < length core.rows.items = search rules in
    let inside : row < length before.rows.items = search rules in
    free_test core before c.args.line c.index-then-index.result.now
    (ap (is_in_core core) c.in-Row.is ∙ sym (get_or_read core.rows.items row c.index.result.now in_core c.index.ensures false) ∙ c.if-index.true)
    (ap (is_reached before) c.in-Row.is ∙ sym (get_or_read before.rows.items row c.index-then-index.result.now inside c.index-then-index.ensures false))

pub returns-then-index-2 : goal.returns-then-index-2
returns-then-index-2 c =
    let core = c.args.core.now in
    let before = c.args.search.now in
    let column = c.in-Column.column in
    let in_core : column < length core.columns.items = search rules in
    let inside : column < length before.columns.items = search rules in
    free_test core before c.args.line c.index-then-index-2.result.now
    (ap (is_in_core core) c.in-Column.is ∙ sym (get_or_read core.columns.items column c.index-in-Column.result.now in_core c.index-in-Column.ensures false) ∙ c.if-index-2.true)
    (ap (is_reached before) c.in-Column.is ∙ sym (get_or_read before.columns.items column c.index-then-index-2.result.now inside c.index-then-index-2.ensures false))
