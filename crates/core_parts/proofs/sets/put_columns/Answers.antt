use Rattle.std.proofs.Common.{◌∙◌, ◌+◌, sym, subst, take}
use Rattle.core_parts.specs.SetsOfParts.{ArePlacesBy, HaveColumns}
use Rattle.core_parts.proofs.SetsOfParts.{column_above, column_count, columns_put, columns_without, places_with, places_without}
use Rattle.core_parts.proofs.sets.put_columns.Goals as goal
use Rattle.core_parts.proofs.sets.put_columns.Goals.{then-marks-line+in_ok-place, else-marks-line}

pub put_column-requires : goal.put_column-requires
put_column-requires c = record {
  above = column_above c.args.marks.now c.args.numbers.now c.loop-line.line c.loop-line-test.true c.args.sets.now c.loop-line.sets (c.requires.below c.loop-line.line
      c.if-marks-line.true) c.index-sets-numbers.result
      c.loop-line.invariant.0;
}

pub loop-line-preserved : goal.loop-line-preserved
loop-line-preserved c =
    let marks = c.args.marks.now in
    let numbers = c.args.numbers.now in
    let line = c.loop-line.line in
    let is = c.loop-line.invariant in
    let below = c.loop-line-test.true in
    let before = c.args.sets.now in
    let sets = c.loop-line.sets in
    elim c.if-marks-line.branch [
      | then-marks-line+in_ok-place w ↦
          let inside = c.requires.below line w.if-marks-line.true in
          let default = w.index-sets-numbers.result in
          let place_is = w.place-is ∙ w.in_ok-place.ensures.place ∙ column_count marks numbers line below before sets inside default is.0 in (
            columns_put marks numbers line below before sets inside default w.put_column.new.set c.if-marks-line.sets w.if-marks-line.true w.sets-is w.in_ok-place.ensures.set is.0,
            subst (ArePlacesBy (take (line + 1) marks) numbers) (sym c.in_ok-push.ensures.items)
                (places_with marks numbers line below c.loop-line.places.items c.if-marks-line.place is.1 w.if-marks-line.true place_is),
          )
      | else-marks-line w ↦ (
        subst (HaveColumns before (take (line + 1) marks) numbers) (sym w.sets-is) (columns_without marks numbers line below before sets w.if-marks-line.false is.0),
        subst (ArePlacesBy (take (line + 1) marks) numbers) (sym c.in_ok-push.ensures.items)
            (places_without marks numbers line below c.loop-line.places.items c.if-marks-line.place is.1 w.if-marks-line.false),
      )
    ]
