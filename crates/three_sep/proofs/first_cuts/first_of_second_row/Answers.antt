use Rattle.std.proofs.Common.{◌≡◌, ◌∙◌, [], ◌∷◌, sym, arith, subst}
use Rattle.three_sep.specs.declared.search.Search.{Search}
use Rattle.three_sep.proofs.CutSeedLemmas.{cut_level_ends, cut_none, cut_some, no_cut_below_more, no_seed_with_column}
use Rattle.three_sep.proofs.first_cuts.first_of_second_row.Goals as goal
use Rattle.three_sep.proofs.first_cuts.first_of_second_row.Goals.{then-is_cut_column+in_ok-lines+in_default, else-is_cut_column}

pub returns-in-Some-clause-found : goal.returns-in-Some-clause-found
returns-in-Some-clause-found c = cut_some c.args.search.now.matrix.now (c.args.i ∷ c.args.p ∷ c.args.k ∷ []) c.loop-j.j c.in_ok-lines.field-0 c.in-Some.lines (omega arith) c.loop-j.invariant.1 c.in-Some.is (rw c.loop-j.invariant.0 at c.in_ok-lines.ensures.found)

pub loop-j-preserved : goal.loop-j-preserved
loop-j-preserved c =
    let m = c.args.search.now.matrix.now in
    elim c.if-is_cut_column.branch [
      | then-is_cut_column+in_ok-lines+in_default w ↦ (
        subst (λ (s : Search). s.matrix.now ≡ m) (sym w.search-is) (w.in_ok-lines.ensures.matrix ∙ c.loop-j.invariant.0),
        cut_none m (c.args.i ∷ c.args.p ∷ c.args.k ∷ []) c.loop-j.j w.in_ok-lines.field-0 c.loop-j.invariant.1 w.in_default.is (rw c.loop-j.invariant.0 at w.in_ok-lines.ensures.found),
      )
      | else-is_cut_column w ↦ (
        subst (λ (s : Search). s.matrix.now ≡ m) (sym w.search-is) c.loop-j.invariant.0,
        no_cut_below_more m (c.args.i ∷ c.args.p ∷ c.args.k ∷ []) c.loop-j.j c.loop-j.invariant.1
            (no_seed_with_column m c.loop-j.search.groups (rw c.loop-j.invariant.0 at c.loop-j.search.together) c.args.i c.args.p c.args.k c.loop-j.j (c.is_cut_column.ensures.no w.if-is_cut_column.false)),
      )
    ]

pub returns-clause-found : goal.returns-clause-found
returns-clause-found c = cut_level_ends c.args.search.now.matrix.now (c.args.i ∷ c.args.p ∷ c.args.k ∷ []) c.loop-j.j (omega arith) c.loop-j.invariant.1
    (λ s S b g h. let k = g.inside.column_two in let e = h.1.1.1.0 in let r = c.columns-j-end.ensures.columns in let l = c.loop-j-test.false in omega arith)

pub is_cut_column-requires-clause-names : goal.is_cut_column-requires-clause-names
is_cut_column-requires-clause-names c = rw c.loop-j.invariant.0 at c.loop-j.search.names

pub first_of_corners-requires : goal.first_of_corners-requires
first_of_corners-requires c =
    let l = c.loop-j-test.true in
    let r = c.columns-j-end.ensures.columns in
    rw c.loop-j.invariant.0 (record {
      inside = record { row_one = c.requires.row; column_one = c.requires.column; row_two = c.requires.second_row; column_two = omega arith };
      upper = c.is_cut_column.ensures.yes c.if-is_cut_column.true;
      lower = c.requires.lower;
    })
