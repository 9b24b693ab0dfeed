use Rattle.std.proofs.Common.{◌<◌, ◌+◌, ◌*◌, ◌∙◌, ℕ, length, subst, sym, arith, MatchOption, Bool}
use Rattle.cmr_base.specs.Matrix.{height}
use Rattle.cmr_base.specs.ColumnSets.{Denies}
use Rattle.cmr_base.specs.Splits.{HasNoThree, Splits}
use Rattle.cmr_base.specs.Trees.{support}
use Rattle.bridge_split.specs.SplitCases.{AreSidesOf}
use Rattle.graph_realise.specs.TreeSearches.{IsSearch, IsSplit}
use Rattle.graph_realise.specs.BitTables.{AreChunksOf}
use Rattle.graph_realise.proofs.NoCuts.{no_odd}
use Rattle.bridge_split.proofs.SidesOfParts.{parts_few}
use Rattle.graph_realise.proofs.SearchLemmas.{all_numbered, clear_more, fits, joined_clear, joined_cuts, kept_more, named_off, none_more, others_more, whole_more, parts_disjoint, parts_in_rows, some_three, with_below, with_fewer}
use Rattle.graph_realise.proofs.SideLemmas.{keeps_row_trans}
use Rattle.graph_realise.proofs.side_search.+find_sides.Goals as goal
use Rattle.cmr_base.proofs.Places.{members_below}
use Rattle.cmr_base.proofs.GraphicMatrices.{nonzero_in_range}

pub find_sides-draw_star-requires-clause-few : goal.find_sides-draw_star-requires-clause-few
find_sides-draw_star-requires-clause-few t c =
    subst (λ (yes : Bool). Denies yes (HasNoThree (support c.args.matrix.now) c.args.rows.now)) c.if-not-branch.true c.in_ok-has_column_with_three.ensures

pub find_sides-returns-in-None-clause-found : goal.find_sides-returns-in-None-clause-found
find_sides-returns-in-None-clause-found t c =
    let M = support c.args.matrix.now in
    let S = c.args.rows.now in
    let none : (row : ℕ) → ¬ (Splits M S row) = subst (λ o. MatchOption o ((row : ℕ) → ¬ (Splits M S row)) (IsSplit M S)) c.in-None.is c.in_ok-find_split.ensures in
    some_three M S (subst (λ (yes : Bool). Denies yes (HasNoThree M S)) c.if-not-branch.false c.in_ok-has_column_with_three.ensures) none

pub find_sides-returns-in-OddCycle-clause-found : goal.find_sides-returns-in-OddCycle-clause-found
find_sides-returns-in-OddCycle-clause-found t c =
    let M = support c.args.matrix.now in
    let S = c.args.rows.now in
    let split : IsSplit M S c.in-Some.split = subst (λ o. MatchOption o ((row : ℕ) → ¬ (Splits M S row)) (IsSplit M S)) c.in-Some.is c.in_ok-find_split.ensures in
    λ K. no_odd M S K c.in-Some.split.row split.here c.in-OddCycle.field-0 (subst (AreSidesOf M S c.in-Some.split.row c.in-Some.split.parts) c.in-OddCycle.is c.in_ok-sides_at-in-Some.ensures)

pub find_sides-join_parts-requires : goal.find_sides-join_parts-requires
find_sides-join_parts-requires t c =
    let M = support c.args.matrix.now in
    let S = c.args.rows.now in
    let split : IsSplit M S c.in-Some.split = subst (λ o. MatchOption o ((row : ℕ) → ¬ (Splits M S row)) (IsSplit M S)) c.in-Some.is c.in_ok-find_split.ensures in
    let falls : 2 * length c.args.rows.now < t = omega (arith, c.decreases) in
    (falls, (c.requires.rows, (c.requires.tables, (split, subst (AreSidesOf M S c.in-Some.split.row c.in-Some.split.parts) c.in-Found.is c.in_ok-sides_at-in-Some.ensures))))

pub join_parts-new-requires-clause-row : goal.join_parts-new-requires-clause-row
join_parts-new-requires-clause-row t c = members_below (height c.args.matrix.now) c.args.rows.now c.requires.rows c.args.split.now.row c.requires.split.here

pub join_parts-new-requires-clause-parts : goal.join_parts-new-requires-clause-parts
join_parts-new-requires-clause-parts t c =
    parts_in_rows (support c.args.matrix.now) c.args.rows.now c.args.split.now.row (height c.args.matrix.now) c.args.split.now.parts c.requires.split.parts (members_below (height c.args.matrix.now) c.args.rows.now c.requires.rows)

pub join_parts-new-requires-clause-disjoint : goal.join_parts-new-requires-clause-disjoint
join_parts-new-requires-clause-disjoint t c = parts_disjoint (support c.args.matrix.now) c.args.rows.now c.args.split.now.row c.args.split.now.parts c.requires.split.parts

pub join_parts-new-requires-clause-few : goal.join_parts-new-requires-clause-few
join_parts-new-requires-clause-few t c = parts_few (support c.args.matrix.now) c.args.rows.now c.args.split.now.row c.args.split.now.parts c.requires.split.parts (height c.args.matrix.now) c.requires.rows

pub join_parts-rows_with-requires-clause-row : goal.join_parts-rows_with-requires-clause-row
join_parts-rows_with-requires-clause-row t c =
    let J = c.in_ok-joint.ensures.joint in
    let l = members_below (height c.args.matrix.now) c.args.rows.now c.requires.rows c.args.split.now.row c.requires.split.here in
    let e = J.row in
    let f = J.rows in
    omega arith

pub join_parts-overflow_add-split : goal.join_parts-overflow_add-split
join_parts-overflow_add-split t c =
    let l = members_below (height c.args.matrix.now) c.args.rows.now c.requires.rows c.args.split.now.row c.requires.split.here in
    let few = c.new.ensures.shape.height_in in
    omega arith

pub join_parts-find_sides-requires : goal.join_parts-find_sides-requires
join_parts-find_sides-requires t c =
    let m = c.args.matrix.now in
    let S = c.args.rows.now in
    let i = c.args.split.now.row in
    let parts = c.args.split.now.parts in
    let within : c.loop-place.place < length parts = let e = c.len-place-end.ensures in let l = c.loop-place-test.true in omega arith in
    let T = c.in_ok-rows_with.rows_with in
    let low = members_below (height m) S c.requires.rows in
    let short = nonzero_in_range m c.in_ok-joint.ensures.shape.rectangular in
    let fewer = with_fewer (support m) (height m) m.width short S low i c.requires.split.here parts c.requires.split.parts c.args.ends.now c.requires.ends c.in_ok-joint.joint c.in_ok-joint.ensures.joint
    c.loop-place.place within T c.in_ok-rows_with.ensures.rows c.requires.split.two c.in_ok-rows_with.ensures.increasing in
    let falls : 2 * length T + 1 < t = omega (arith, c.decreases) in (
      falls,
      (
        with_below (support m) (height m) m.width short S low i c.requires.split.here parts c.requires.split.parts c.args.ends.now c.requires.ends c.in_ok-joint.joint c.in_ok-joint.ensures.joint c.loop-place.place within T
            c.in_ok-rows_with.ensures.rows,
        (
          whole_more (support m) (height m) m.width short S low i c.requires.split.here parts c.requires.split.parts c.args.ends.now c.requires.ends c.in_ok-joint.joint c.in_ok-joint.ensures.joint c.loop-place.place within T
              c.in_ok-rows_with.ensures.rows c.requires.split.first,
          c.loop-place.invariant.tables,
        ),
      ),
    )

pub join_parts-returns-in_err-find_sides-clause-others : goal.join_parts-returns-in_err-find_sides-clause-others
join_parts-returns-in_err-find_sides-clause-others t c =
    let m = c.args.matrix.now in
    let S = c.args.rows.now in
    let parts = c.args.split.now.parts in
    let within : c.loop-place.place < length parts = let e = c.len-place-end.ensures in let l = c.loop-place-test.true in omega arith in
    others_more (support m) (height m) m.width (nonzero_in_range m c.in_ok-joint.ensures.shape.rectangular) S (members_below (height m) S c.requires.rows) c.args.split.now.row c.requires.split.here parts c.requires.split.parts c.args.ends.now c.requires.ends
    c.in_ok-joint.joint c.in_ok-joint.ensures.joint c.loop-place.place within c.in_ok-rows_with.rows_with c.in_ok-rows_with.ensures.rows c.args.sides.now c.loop-place.sides c.find_sides.new.sides c.loop-place.invariant.others c.find_sides.ensures.others

pub join_parts-returns-in-NoTree-clause-found : goal.join_parts-returns-in-NoTree-clause-found
join_parts-returns-in-NoTree-clause-found t c =
    let m = c.args.matrix.now in
    let S = c.args.rows.now in
    let parts = c.args.split.now.parts in
    let within : c.loop-place.place < length parts = let e = c.len-place-end.ensures in let l = c.loop-place-test.true in omega arith in
    let T = c.in_ok-rows_with.rows_with in
    none_more (support m) (height m) m.width (nonzero_in_range m c.in_ok-joint.ensures.shape.rectangular) S (members_below (height m) S c.requires.rows) c.args.split.now.row c.requires.split.here parts c.requires.split.parts c.args.ends.now c.requires.ends
    c.in_ok-joint.joint c.in_ok-joint.ensures.joint c.loop-place.place within T c.in_ok-rows_with.ensures.rows
    (subst (IsSearch (support m) T c.find_sides.new.sides) c.in-NoTree.is c.in_ok-find_sides.ensures.found)

pub join_parts-returns-in-NoTree-clause-others : goal.join_parts-returns-in-NoTree-clause-others
join_parts-returns-in-NoTree-clause-others t c =
    let m = c.args.matrix.now in
    let S = c.args.rows.now in
    let parts = c.args.split.now.parts in
    let within : c.loop-place.place < length parts = let e = c.len-place-end.ensures in let l = c.loop-place-test.true in omega arith in
    others_more (support m) (height m) m.width (nonzero_in_range m c.in_ok-joint.ensures.shape.rectangular) S (members_below (height m) S c.requires.rows) c.args.split.now.row c.requires.split.here parts c.requires.split.parts c.args.ends.now c.requires.ends
    c.in_ok-joint.joint c.in_ok-joint.ensures.joint c.loop-place.place within c.in_ok-rows_with.rows_with c.in_ok-rows_with.ensures.rows c.args.sides.now c.loop-place.sides c.find_sides.new.sides c.loop-place.invariant.others c.find_sides.ensures.others

pub join_parts-loop-place-preserved : goal.join_parts-loop-place-preserved
join_parts-loop-place-preserved t c =
    let m = c.args.matrix.now in
    let S = c.args.rows.now in
    let parts = c.args.split.now.parts in
    let within : c.loop-place.place < length parts = let e = c.len-place-end.ensures in let l = c.loop-place-test.true in omega arith in
    let T = c.in_ok-rows_with.rows_with in
    let low = members_below (height m) S c.requires.rows in
    let short = nonzero_in_range m c.in_ok-joint.ensures.shape.rectangular in record {
      tables = c.find_sides.ensures.tables;
      kept = kept_more (support m) (height m) m.width short S low c.args.split.now.row c.requires.split.here parts c.requires.split.parts c.args.ends.now c.requires.ends c.in_ok-joint.joint c.in_ok-joint.ensures.joint
          c.loop-place.place within T c.in_ok-rows_with.ensures.rows c.loop-place.sides c.find_sides.new.sides c.loop-place.invariant.kept c.find_sides.ensures.others
          (subst (IsSearch (support m) T c.find_sides.new.sides) c.in-Found.is c.in_ok-find_sides.ensures.found).cuts;
      clear = clear_more (support m) (height m) m.width short S low c.args.split.now.row c.requires.split.here parts c.requires.split.parts c.args.ends.now c.requires.ends c.in_ok-joint.joint c.in_ok-joint.ensures.joint
          c.loop-place.place within T c.in_ok-rows_with.ensures.rows c.loop-place.sides c.find_sides.new.sides c.loop-place.invariant.clear c.find_sides.ensures.others
          (subst (IsSearch (support m) T c.find_sides.new.sides) c.in-Found.is c.in_ok-find_sides.ensures.found).clear;
      others = others_more (support m) (height m) m.width short S low c.args.split.now.row c.requires.split.here parts c.requires.split.parts c.args.ends.now c.requires.ends c.in_ok-joint.joint c.in_ok-joint.ensures.joint
          c.loop-place.place within T c.in_ok-rows_with.ensures.rows c.args.sides.now c.loop-place.sides c.find_sides.new.sides c.loop-place.invariant.others c.find_sides.ensures.others;
    }

pub join_parts-join-requires-clause-joint : goal.join_parts-join-requires-clause-joint
join_parts-join-requires-clause-joint t c =
    let m = c.args.matrix.now in
    let short = nonzero_in_range m c.in_ok-joint.ensures.shape.rectangular in
    let below = members_below (height m) c.args.rows.now c.requires.rows in
    let J = c.in_ok-joint.ensures.joint in
    record {
      fits = fits (support m) (height m) m.width short c.args.rows.now below c.args.split.now.row c.requires.split.here c.args.split.now.parts
          c.requires.split.parts c.args.ends.now c.requires.ends c.in_ok-joint.joint J;
      off = named_off (support m) (height m) m.width short c.args.rows.now below c.args.split.now.row c.requires.split.here c.args.split.now.parts
          c.requires.split.parts c.args.ends.now c.requires.ends c.in_ok-joint.joint J;
      chunks = subst (λ (r : ℕ). AreChunksOf (support m r) m.width c.in_ok-joint.joint.row_chunks) (sym J.row) J.own_chunks;
    }

pub join_parts-join-requires-clause-numbered : goal.join_parts-join-requires-clause-numbered
join_parts-join-requires-clause-numbered t c =
    let m = c.args.matrix.now in
    all_numbered (support m) (height m) m.width (nonzero_in_range m c.in_ok-joint.ensures.shape.rectangular) c.args.rows.now (members_below (height m) c.args.rows.now c.requires.rows) c.args.split.now.row c.requires.split.here c.args.split.now.parts
    c.requires.split.parts c.args.ends.now c.requires.ends c.in_ok-joint.joint c.in_ok-joint.ensures.joint

pub join_parts-join-requires-clause-clear : goal.join_parts-join-requires-clause-clear
join_parts-join-requires-clause-clear t c = λ r hr n.
    let J = c.in_ok-joint.ensures.joint in
    let q = c.requires.split.parts.all r hr (λ e. n (e ∙ sym J.row)) in
    c.loop-place.invariant.clear q.0 r (let e = c.len-place-end.ensures in let k = c.loop-place-test.false in let l = q.1 in omega arith) q.2

pub join_parts-returns-clause-found : goal.join_parts-returns-clause-found
join_parts-returns-clause-found t c =
    let m = c.args.matrix.now in
    let short = nonzero_in_range m c.in_ok-joint.ensures.shape.rectangular in
    let low = members_below (height m) c.args.rows.now c.requires.rows in
    let before = c.loop-place.invariant.tables in
    let after = c.join.ensures.tables in record {
      cuts = joined_cuts (support m) (height m) m.width short c.args.rows.now low c.args.split.now.row c.requires.split.here c.args.split.now.parts
          c.requires.split.parts c.args.ends.now c.requires.ends c.in_ok-joint.joint c.in_ok-joint.ensures.joint c.loop-place.sides c.join.new.sides after.first_width after.last_width after.arcs_width before.first_width before.arcs_width
          (λ a l. c.loop-place.invariant.kept a (let e = c.len-place-end.ensures in let k = c.loop-place-test.false in omega arith)) c.join.ensures.joined;
      clear = joined_clear (support m) (height m) m.width short c.args.rows.now low c.args.split.now.row c.requires.split.here c.args.split.now.parts
          c.requires.split.parts c.args.ends.now c.requires.ends c.in_ok-joint.joint c.in_ok-joint.ensures.joint c.loop-place.sides c.join.new.sides after.first_width after.last_width after.arcs_width before.first_width before.arcs_width
          (λ a l. c.loop-place.invariant.kept a (let e = c.len-place-end.ensures in let k = c.loop-place-test.false in omega arith)) c.join.ensures.joined;
    }

pub join_parts-returns-clause-others : goal.join_parts-returns-clause-others
join_parts-returns-clause-others t c = λ r n. keeps_row_trans c.args.sides.now c.loop-place.sides c.join.new.sides r (c.loop-place.invariant.others r n) (c.join.ensures.others r n)
