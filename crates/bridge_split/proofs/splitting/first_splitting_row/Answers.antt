use Rattle.std.proofs.Common.{◌+◌, ◌∙◌, sym, ap, subst, arith, List, ℕ, Option, get_or}
use Rattle.cmr_base.specs.Splits.{AreParts}
use Rattle.cmr_base.specs.Trees.{support}
use Rattle.cmr_base.proofs.Members.{in_at}
use Rattle.bridge_split.specs.PartNumbers.{numbered_parts, IsSearching}
use Rattle.bridge_split.specs.declared.part_walk.PartWalk.{PartWalk}
use Rattle.bridge_split.proofs.FirstSplit.{splits_two, first_split, none_splits, searching_on, searching_past}
use Rattle.bridge_split.proofs.NumberedParts.{numbered_are_parts}
use Rattle.bridge_split.proofs.splitting.first_splitting_row.Goals as goal
use Rattle.bridge_split.proofs.splitting.first_splitting_row.Goals.{then-row-untested+else-count-ge-SPLIT_PARTS, else-row-untested}

pub number_parts-count-requires-clause-row : goal.number_parts-count-requires-clause-row
number_parts-count-requires-clause-row c = in_at c.args.rows.now c.loop-row.row-index c.loop-row-test.true

pub returns-then-count-ge-SPLIT_PARTS : goal.returns-then-count-ge-SPLIT_PARTS
returns-then-count-ge-SPLIT_PARTS c =
    let M = support c.args.matrix.now in
    let S = c.args.rows.now in
    let p = c.loop-row.row-index in
    let i = get_or S p 0 in
    let numbers = c.number_parts-count.new.self.part.items in
    let count = c.number_parts-count.result in
    let parts = c.number_parts-count.ensures.parts in (
      first_split M S c.requires.increasing p c.loop-row-test.true c.loop-row.invariant.none (splits_two M S c.requires.increasing i numbers count parts (in_at S p c.loop-row-test.true) c.if-count-ge-SPLIT_PARTS.true),
      subst (AreParts M S i) (sym (c.in_ok-parts.ensures ∙ ap (λ (n : List (Option ℕ)). numbered_parts n S count) c.deref.ensures.value)) (numbered_are_parts M S i c.requires.increasing numbers count parts),
    )

pub loop-row-preserved : goal.loop-row-preserved
loop-row-preserved c =
    let m = c.args.matrix.now in
    let S = c.args.rows.now in
    let p = c.loop-row.row-index in
    let walk = c.loop-row.walk in
    elim c.if-row-untested.branch [
      | then-row-untested+else-count-ge-SPLIT_PARTS w ↦
          subst (λ (v : PartWalk). IsSearching m S (p + 1) v) (sym w.walk-is)
          (searching_on m S c.requires.increasing p w.number_parts-count.result walk w.number_parts-count.new.self
          c.loop-row.invariant c.loop-row-test.true w.number_parts-count.ensures.room w.number_parts-count.ensures.parts w.if-count-ge-SPLIT_PARTS.false)
      | else-row-untested w ↦
          subst (λ (v : PartWalk). IsSearching m S (p + 1) v) (sym w.walk-is)
          (searching_past m S c.requires.increasing p walk c.loop-row.invariant (c.requires.tested (get_or S p 0) (let k = w.if-row-untested.false in omega arith)))
    ]

pub returns : goal.returns
returns c = none_splits (support c.args.matrix.now) c.args.rows.now c.requires.increasing c.loop-row.row-index c.loop-row-test.false c.loop-row.invariant.none
