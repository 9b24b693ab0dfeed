use Rattle.std.proofs.Common.{◌≡◌, ◌∙◌, [], ◌∷◌, sym, arith, subst}
use Rattle.three_sep.specs.declared.search.Search.{Search}
use Rattle.cmr_base.specs.Seeds.{form_number}
use Rattle.three_sep.proofs.SearchLemmas.{found_some, none_more, level_ends, none_below_more, good_inside, no_good_second_row}
use Rattle.three_sep.proofs.search.Search.first_of_corner.Goals as goal
use Rattle.three_sep.proofs.search.Search.first_of_corner.Goals.{then-is_second_row+in_ok-three+in_default, else-is_second_row}

pub returns-in-Some-clause-found : goal.returns-in-Some-clause-found
returns-in-Some-clause-found c = found_some c.args.self.now.matrix.now (form_number c.args.form ∷ c.args.i ∷ c.args.p ∷ []) c.loop-k.k c.in_ok-three.field-0 c.in-Some.three (omega arith) c.loop-k.invariant.1 c.in-Some.is (rw c.loop-k.invariant.0 at c.in_ok-three.ensures.found)

pub loop-k-preserved : goal.loop-k-preserved
loop-k-preserved c =
    let m = c.args.self.now.matrix.now in
    elim c.if-is_second_row.branch [
      | then-is_second_row+in_ok-three+in_default w ↦ (
        subst (λ (s : Search). s.matrix.now ≡ m) (sym w.self-is) (w.in_ok-three.ensures.matrix ∙ c.loop-k.invariant.0),
        none_more m (form_number c.args.form ∷ c.args.i ∷ c.args.p ∷ []) c.loop-k.k w.in_ok-three.field-0 c.loop-k.invariant.1 w.in_default.is (rw c.loop-k.invariant.0 at w.in_ok-three.ensures.found),
      )
      | else-is_second_row w ↦ (
        subst (λ (s : Search). s.matrix.now ≡ m) (sym w.self-is) c.loop-k.invariant.0,
        none_below_more m (form_number c.args.form ∷ c.args.i ∷ c.args.p ∷ []) c.loop-k.k c.loop-k.invariant.1 (no_good_second_row m c.args.form c.requires.crossing c.loop-k.self.groups c.args.i c.args.p c.loop-k.k (rw c.loop-k.invariant.0 at c.loop-k.self.together) (c.is_second_row.ensures.no w.if-is_second_row.false)),
      )
    ]

pub returns-clause-found : goal.returns-clause-found
returns-clause-found c = level_ends c.args.self.now.matrix.now (form_number c.args.form ∷ c.args.i ∷ c.args.p ∷ []) c.loop-k.k (omega arith) c.loop-k.invariant.1
    (λ s S b g h. let k = (good_inside c.args.self.now.matrix.now s S g).row_two in let e = h.1.1.1.0 in let l = c.loop-k-test.false in let r = c.rows-k-end.ensures.rows in omega arith)

pub is_second_row-requires-clause-names : goal.is_second_row-requires-clause-names
is_second_row-requires-clause-names c = rw c.loop-k.invariant.0 at c.loop-k.self.names

pub first_of_second_row-requires-clause-corner : goal.first_of_second_row-requires-clause-corner
first_of_second_row-requires-clause-corner c = rw c.loop-k.invariant.0 c.requires.corner

pub first_of_second_row-requires-clause-below : goal.first_of_second_row-requires-clause-below
first_of_second_row-requires-clause-below c =
    let l = c.loop-k-test.true in
    let r = c.rows-k-end.ensures.rows in
    rw c.loop-k.invariant.0 (record { row = omega arith; column = c.requires.corner.column; nonzero = c.is_second_row.ensures.yes c.if-is_second_row.true })
