use Rattle.std.proofs.Common.{◌≤◌, ◌+◌, arith, refl, subst, sym}
use Rattle.cmr_base.specs.declared.separation.Form.TheVariants.{Concentrated}
use Rattle.three_sep.specs.declared.connectors.Connectors.{Connectors}
use Rattle.three_sep.specs.Concentrated.{IsFirstPair}
use Rattle.three_sep.specs.Searches.{corner_prefix}
use Rattle.three_sep.proofs.SearchLemmas.{level_ends, none_below_more, first_below}
use Rattle.three_sep.proofs.ConcentratedLemmas.{no_column, none_over_zeros, none_to_first, pair_of}
use Rattle.three_sep.proofs.concentrated.first_connectors.Goals as goal
use Rattle.three_sep.proofs.concentrated.first_connectors.Goals.{then-is_right_column+in_default-first_other_row, else-is_right_column}

pub loop-q-init : goal.loop-q-init
loop-q-init c = (none_to_first c.args.matrix.now c.args.corners.now, let l = c.requires.inside.column_one in let w = c.columns-columns.ensures.shape.width_in in omega arith)

pub returns-in-Some-first_other_row : goal.returns-in-Some-first_other_row
returns-in-Some-first_other_row c =
    let m = c.args.matrix.now in
    let corners = c.args.corners.now in
    let row = c.in-Some-first_other_row.ensures in
    subst (λ (d : Connectors). IsFirstPair m corners d) (sym c.at.ensures) (record {
      corners = refl;
      pair = pair_of m corners c.in-Some.q c.in-Some-first_other_row.o c.requires.inside c.requires.corners c.in-Some.ensures.first.1 row.inside (c.is_right_column.ensures.yes c.if-is_right_column.true) row.row;
      columns = none_over_zeros m corners c.loop-q.from c.in-Some.q c.loop-q.invariant.0 c.in-Some.ensures.first.2;
      rows = row.rows;
    })

pub loop-q-preserved : goal.loop-q-preserved
loop-q-preserved c =
    let m = c.args.matrix.now in
    let q = c.in-Some.q in
    let before = none_over_zeros m c.args.corners.now c.loop-q.from q c.loop-q.invariant.0 c.in-Some.ensures.first.2 in
    let more : q + 1 ≤ 1000 = let l = c.in-Some.ensures.small in omega arith in
    elim c.if-is_right_column.branch [
      | then-is_right_column+in_default-first_other_row w ↦ (none_below_more m (corner_prefix Concentrated c.args.corners.now) q before w.in_default-first_other_row.ensures, more)
      | else-is_right_column w ↦ (none_below_more m (corner_prefix Concentrated c.args.corners.now) q before (no_column m c.args.corners.now q (c.is_right_column.ensures.no w.if-is_right_column.false)), more)
    ]

pub returns : goal.returns
returns c =
    let m = c.args.matrix.now in
    level_ends m (corner_prefix Concentrated c.args.corners.now) m.width (omega arith) (none_over_zeros m c.args.corners.now c.loop-q.from m.width c.loop-q.invariant.0 (λ column a l. c.in_default.ensures.first column a))
    (first_below m Concentrated c.args.corners.now)
