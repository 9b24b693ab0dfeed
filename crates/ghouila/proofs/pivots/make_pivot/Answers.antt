use Rattle.std.proofs.Common.{◌≢◌, ◌<◌, [], ◌∷◌, ℕ, List, length, get_or, take, subst, sym, arith}
use Rattle.std.proofs.lemmas.List.{take_more}
use Rattle.cmr_base.specs.Matrix.{Matrix, height, entry, IsEntry}
use Rattle.cmr_base.specs.LineSets.{IsRowSet}
use Rattle.cmr_base.proofs.Lists.{all_at, all-take, all_weaker}
use Rattle.cmr_base.proofs.IncreasingLists.{row_set_increases, increasing_prefix}
use Rattle.cmr_base.specs.PlacedPivots.{reduced}
use Rattle.ghouila.specs.Pivot.{IsOutside, IsTernaryRow, KeepsRowsElsewhere, PivotsRows}
use Rattle.ghouila.proofs.PivotRow.{pivots_more, keeps_more, reduced_same}
use Rattle.ghouila.proofs.pivots.make_pivot.Goals as goal

before_apart : (m : Matrix) (left : List ℕ) (k : ℕ) → IsRowSet m left → k < length left → IsOutside (get_or left k 0) (take k left)
before_apart m left k is h = all_weaker (λ x. x < get_or left k 0) (λ x. x ≢ get_or left k 0) (λ x below. omega arith) (take k left) (increasing_prefix 0 (height m) left (row_set_increases m left is) k h)

pub pivot_row-requires-clause-small : goal.pivot_row-requires-clause-small
pivot_row-requires-clause-small c = λ j h.
    let m = c.args.work.now in
    let now = c.loop-other.work in
    let left = c.args.left.now in
    let k = c.loop-other.other-index in
    let other = get_or left k 0 in
    let keeps = c.loop-other.invariant.others in
    let row_out : IsOutside c.args.row (take k left) = all-take (λ x. x ≢ c.args.row) k left c.requires.apart in
    let other_out : IsOutside other (take k left) = before_apart m left k c.requires.rows c.loop-other-test.true in
    subst IsEntry (sym (reduced_same (entry now) (entry m) c.args.row c.args.column other j (keeps.others c.args.row c.args.column row_out) (keeps.others other c.args.column other_out) (keeps.others c.args.row j row_out) (keeps.others other j other_out)))
    (all_at (λ i. IsTernaryRow m.width (reduced (entry m) c.args.row c.args.column i)) left k 0 c.requires.small c.loop-other-test.true j (let w = keeps.same_width in omega arith))

pub loop-other-preserved : goal.loop-other-preserved
loop-other-preserved c =
    let m = c.args.work.now in
    let now = c.loop-other.work in
    let left = c.args.left.now in
    let k = c.loop-other.other-index in
    let other = get_or left k 0 in
    let row_out : IsOutside c.args.row (take k left) = all-take (λ x. x ≢ c.args.row) k left c.requires.apart in
    let other_out : IsOutside other (take k left) = before_apart m left k c.requires.rows c.loop-other-test.true in
    let apart : IsOutside c.args.row (other ∷ []) = (all_at (λ x. x ≢ c.args.row) left k 0 c.requires.apart c.loop-other-test.true, tt) in
    let more = sym (take_more left k 0 c.loop-other-test.true) in
    record {
      pivoted = subst (PivotsRows m c.pivot_row.new.work c.args.row c.args.column) more
          (pivots_more m now c.pivot_row.new.work c.args.row c.args.column other (take k left) row_out other_out apart c.requires.column c.loop-other.invariant.pivoted c.loop-other.invariant.others c.pivot_row.ensures.pivoted c.pivot_row.ensures.others);
      others = subst (KeepsRowsElsewhere m c.pivot_row.new.work) more
          (keeps_more m now c.pivot_row.new.work c.args.row c.args.column other (take k left) row_out other_out apart c.loop-other.invariant.others c.pivot_row.ensures.others);
    }
