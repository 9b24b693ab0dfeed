use Rattle.std.proofs.Common.{◌≡◌, ◌∙◌, [], ◌∷◌, sym, arith, subst}
use Rattle.three_sep.specs.declared.search.Search.{Search}
use Rattle.cmr_base.specs.Seeds.{form_number}
use Rattle.three_sep.proofs.SearchLemmas.{found_some, none_more, level_ends, none_below_more, good_inside, no_good_corner, no_good_whole}
use Rattle.three_sep.proofs.search.Search.first_of_row.Goals as goal
use Rattle.three_sep.proofs.search.Search.first_of_row.Goals.{then-is_nonzero+in_ok-three+in_default, else-is_nonzero}

pub returns-then-are_all_one-clause-found : goal.returns-then-are_all_one-clause-found
returns-then-are_all_one-clause-found c = no_good_whole c.args.self.now.matrix.now c.args.form c.requires.crossing c.args.self.now.groups c.args.i c.args.self.now.names c.args.self.now.together (c.are_all_one.ensures c.if-are_all_one.true)

pub returns-in-Some-clause-found : goal.returns-in-Some-clause-found
returns-in-Some-clause-found c = found_some c.args.self.now.matrix.now (form_number c.args.form ∷ c.args.i ∷ []) c.loop-p.p c.in_ok-three.field-0 c.in-Some.three (omega arith) c.loop-p.invariant.1 c.in-Some.is (rw c.loop-p.invariant.0 at c.in_ok-three.ensures.found)

pub loop-p-preserved : goal.loop-p-preserved
loop-p-preserved c =
    let m = c.args.self.now.matrix.now in
    elim c.if-is_nonzero.branch [
      | then-is_nonzero+in_ok-three+in_default w ↦ (
        subst (λ (s : Search). s.matrix.now ≡ m) (sym w.self-is) (w.in_ok-three.ensures.matrix ∙ c.loop-p.invariant.0),
        none_more m (form_number c.args.form ∷ c.args.i ∷ []) c.loop-p.p w.in_ok-three.field-0 c.loop-p.invariant.1 w.in_default.is (rw c.loop-p.invariant.0 at w.in_ok-three.ensures.found),
      )
      | else-is_nonzero w ↦ (
        subst (λ (s : Search). s.matrix.now ≡ m) (sym w.self-is) c.loop-p.invariant.0,
        none_below_more m (form_number c.args.form ∷ c.args.i ∷ []) c.loop-p.p c.loop-p.invariant.1 (no_good_corner m (form_number c.args.form) c.args.i c.loop-p.p (c.is_nonzero.ensures.no w.if-is_nonzero.false)),
      )
    ]

pub returns-clause-found : goal.returns-clause-found
returns-clause-found c = level_ends c.args.self.now.matrix.now (form_number c.args.form ∷ c.args.i ∷ []) c.loop-p.p (omega arith) c.loop-p.invariant.1
    (λ s S b g h. let k = (good_inside c.args.self.now.matrix.now s S g).column_one in let e = h.1.1.0 in let l = c.loop-p-test.false in let r = c.columns-p-end.ensures.columns in omega arith)

pub first_of_corner-requires-clause-corner : goal.first_of_corner-requires-clause-corner
first_of_corner-requires-clause-corner c =
    let l = c.loop-p-test.true in
    let r = c.columns-p-end.ensures.columns in
    rw c.loop-p.invariant.0 (record { row = c.requires.row; column = omega arith; nonzero = c.is_nonzero.ensures.yes c.if-is_nonzero.true })
