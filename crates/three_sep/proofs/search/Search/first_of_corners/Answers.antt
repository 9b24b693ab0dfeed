use Rattle.std.proofs.Common.{◌≡◌, ◌∙◌, ap, arith, subst, Bool, sym}
use Rattle.three_sep.specs.declared.search.Search.{Search}
use Rattle.cmr_base.specs.Separations.{first_is_flat}
use Rattle.three_sep.specs.Searches.{corner_prefix, line_count}
use Rattle.three_sep.proofs.SearchLemmas.{below_line, found_some, none_more, level_ends, none_below_more, first_below}
use Rattle.three_sep.proofs.SideLemmas.{no_good_refused}
use Rattle.three_sep.proofs.KeptSideLemmas.{held_at_own}
use Rattle.three_sep.proofs.search.Search.first_of_corners.Goals as goal
use Rattle.three_sep.proofs.search.Search.first_of_corners.Goals.{then-branch+in_ok-three+in_default, else-branch}

pub returns-then-not-branch-clause-found : goal.returns-then-not-branch-clause-found
returns-then-not-branch-clause-found c = no_good_refused c.args.self.now.matrix.now c.args.form c.requires.crossing c.args.corners.now (c.in_ok-may_part.ensures.refused c.if-not-branch.true)

pub hold_first-requires-clause-line : goal.hold_first-requires-clause-line
hold_first-requires-clause-line c =
    rw c.loop-q.invariant.0 (below_line c.args.self.now.matrix.now (first_is_flat c.args.form) c.loop-q.q (let l = c.loop-q-test.true in let e = c.count_of-q-end.ensures.count ∙ ap (λ (z : Bool). line_count c.args.self.now.matrix.now z) c.first_is_flat.ensures in omega arith))

pub returns-in-Some-clause-found : goal.returns-in-Some-clause-found
returns-in-Some-clause-found c = found_some c.args.self.now.matrix.now (corner_prefix c.args.form c.args.corners.now) c.loop-q.q c.in_ok-three.field-0 c.in-Some.three (omega arith) c.loop-q.invariant.1 c.in-Some.is (rw (c.in_ok-hold_first.ensures.matrix ∙ c.loop-q.invariant.0) at c.in_ok-three.ensures.found)

pub loop-q-preserved : goal.loop-q-preserved
loop-q-preserved c =
    let m = c.args.self.now.matrix.now in
    let prefix = corner_prefix c.args.form c.args.corners.now in
    elim c.if-branch.branch [
      | then-branch+in_ok-three+in_default w ↦ (
        subst (λ (s : Search). s.matrix.now ≡ m) (sym w.self-is) (w.in_ok-three.ensures.matrix ∙ c.in_ok-hold_first.ensures.matrix ∙ c.loop-q.invariant.0),
        none_more m prefix c.loop-q.q w.in_ok-three.field-0 c.loop-q.invariant.1 w.in_default.is (rw (c.in_ok-hold_first.ensures.matrix ∙ c.loop-q.invariant.0) at w.in_ok-three.ensures.found),
      )
      | else-branch w ↦ (
        subst (λ (s : Search). s.matrix.now ≡ m) (sym w.self-is) (c.in_ok-hold_first.ensures.matrix ∙ c.loop-q.invariant.0),
        none_below_more m prefix c.loop-q.q c.loop-q.invariant.1 (rw c.loop-q.invariant.0 at (c.in_ok-hold_first.ensures.no w.if-branch.false)),
      )
    ]

pub returns-clause-found : goal.returns-clause-found
returns-clause-found c = level_ends c.args.self.now.matrix.now (corner_prefix c.args.form c.args.corners.now) c.loop-q.q (omega arith) c.loop-q.invariant.1
    (λ s S b g h. let k = first_below c.args.self.now.matrix.now c.args.form c.args.corners.now s S b g h in
    let l = c.loop-q-test.false in let e = c.count_of-q-end.ensures.count ∙ ap (λ (z : Bool). line_count c.args.self.now.matrix.now z) c.first_is_flat.ensures in omega arith)

pub hold_first-requires-clause-inside : goal.hold_first-requires-clause-inside
hold_first-requires-clause-inside c = rw c.loop-q.invariant.0 c.requires.corners.inside

pub first_of_connector-requires-clause-corners : goal.first_of_connector-requires-clause-corners
first_of_connector-requires-clause-corners c = rw (c.in_ok-hold_first.ensures.matrix ∙ c.loop-q.invariant.0) c.requires.corners

pub first_of_connector-requires-clause-held : goal.first_of_connector-requires-clause-held
first_of_connector-requires-clause-held c =
    held_at_own c.loop-q.self.matrix.now c.args.form c.args.corners.now c.loop-q.q _ (c.in_ok-hold_first.ensures.held c.if-branch.true)
