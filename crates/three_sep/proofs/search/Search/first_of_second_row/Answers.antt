use Rattle.std.proofs.Common.{◌≡◌, ◌∙◌, [], ◌∷◌, sym, arith, subst}
use Rattle.three_sep.specs.declared.search.Search.{Search}
use Rattle.cmr_base.specs.Seeds.{form_number}
use Rattle.three_sep.proofs.SearchLemmas.{found_some, none_more, level_ends, none_below_more, good_inside, no_good_second_column}
use Rattle.three_sep.proofs.search.Search.first_of_second_row.Goals as goal
use Rattle.three_sep.proofs.search.Search.first_of_second_row.Goals.{then-is_second_column+in_ok-three+in_default, else-is_second_column}

pub returns-in-Some-clause-found : goal.returns-in-Some-clause-found
returns-in-Some-clause-found c = found_some c.args.self.now.matrix.now (form_number c.args.form ∷ c.args.i ∷ c.args.p ∷ c.args.k ∷ []) c.loop-j.j c.in_ok-three.field-0 c.in-Some.three (omega arith) c.loop-j.invariant.1 c.in-Some.is (rw c.loop-j.invariant.0 at c.in_ok-three.ensures.found)

pub loop-j-preserved : goal.loop-j-preserved
loop-j-preserved c =
    let m = c.args.self.now.matrix.now in
    elim c.if-is_second_column.branch [
      | then-is_second_column+in_ok-three+in_default w ↦ (
        subst (λ (s : Search). s.matrix.now ≡ m) (sym w.self-is) (w.in_ok-three.ensures.matrix ∙ c.loop-j.invariant.0),
        none_more m (form_number c.args.form ∷ c.args.i ∷ c.args.p ∷ c.args.k ∷ []) c.loop-j.j w.in_ok-three.field-0 c.loop-j.invariant.1 w.in_default.is (rw c.loop-j.invariant.0 at w.in_ok-three.ensures.found),
      )
      | else-is_second_column w ↦ (
        subst (λ (s : Search). s.matrix.now ≡ m) (sym w.self-is) c.loop-j.invariant.0,
        none_below_more m (form_number c.args.form ∷ c.args.i ∷ c.args.p ∷ c.args.k ∷ []) c.loop-j.j c.loop-j.invariant.1 (no_good_second_column m c.args.form c.requires.crossing c.loop-j.self.groups c.args.i c.args.p c.args.k c.loop-j.j (rw c.loop-j.invariant.0 at c.loop-j.self.together) (c.is_second_column.ensures.no w.if-is_second_column.false)),
      )
    ]

pub returns-clause-found : goal.returns-clause-found
returns-clause-found c = level_ends c.args.self.now.matrix.now (form_number c.args.form ∷ c.args.i ∷ c.args.p ∷ c.args.k ∷ []) c.loop-j.j (omega arith) c.loop-j.invariant.1
    (λ s S b g h. let k = (good_inside c.args.self.now.matrix.now s S g).column_two in let e = h.1.1.1.1.0 in let l = c.loop-j-test.false in let r = c.columns-j-end.ensures.columns in omega arith)

pub is_second_column-requires-clause-names : goal.is_second_column-requires-clause-names
is_second_column-requires-clause-names c = rw c.loop-j.invariant.0 at c.loop-j.self.names

pub first_of_corners-requires-clause-corners : goal.first_of_corners-requires-clause-corners
first_of_corners-requires-clause-corners c =
    let l = c.loop-j-test.true in
    let r = c.columns-j-end.ensures.columns in
    rw c.loop-j.invariant.0 (record {
      inside = record { row_one = c.requires.corner.row; column_one = c.requires.corner.column; row_two = c.requires.below.row; column_two = omega arith };
      first = c.requires.corner.nonzero;
      second = c.is_second_column.ensures.corner c.if-is_second_column.true;
      upper = c.is_second_column.ensures.right c.if-is_second_column.true;
      lower = c.requires.below.nonzero;
    })
