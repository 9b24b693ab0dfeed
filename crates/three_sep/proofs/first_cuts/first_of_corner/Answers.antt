use Rattle.std.proofs.Common.{◌≡◌, ◌∙◌, [], ◌∷◌, sym, arith, subst}
use Rattle.three_sep.specs.declared.search.Search.{Search}
use Rattle.three_sep.proofs.CutSeedLemmas.{cut_level_ends, cut_none, cut_some, no_cut_below_more, no_seed_with_row}
use Rattle.three_sep.proofs.first_cuts.first_of_corner.Goals as goal
use Rattle.three_sep.proofs.first_cuts.first_of_corner.Goals.{then-is_cut_row+in_ok-lines+in_default, else-is_cut_row}

pub returns-in-Some-clause-found : goal.returns-in-Some-clause-found
returns-in-Some-clause-found c = cut_some c.args.search.now.matrix.now (c.args.i ∷ c.args.p ∷ []) c.loop-k.k c.in_ok-lines.field-0 c.in-Some.lines (omega arith) c.loop-k.invariant.1 c.in-Some.is (rw c.loop-k.invariant.0 at c.in_ok-lines.ensures.found)

pub loop-k-preserved : goal.loop-k-preserved
loop-k-preserved c =
    let m = c.args.search.now.matrix.now in
    elim c.if-is_cut_row.branch [
      | then-is_cut_row+in_ok-lines+in_default w ↦ (
        subst (λ (s : Search). s.matrix.now ≡ m) (sym w.search-is) (w.in_ok-lines.ensures.matrix ∙ c.loop-k.invariant.0),
        cut_none m (c.args.i ∷ c.args.p ∷ []) c.loop-k.k w.in_ok-lines.field-0 c.loop-k.invariant.1 w.in_default.is (rw c.loop-k.invariant.0 at w.in_ok-lines.ensures.found),
      )
      | else-is_cut_row w ↦ (
        subst (λ (s : Search). s.matrix.now ≡ m) (sym w.search-is) c.loop-k.invariant.0,
        no_cut_below_more m (c.args.i ∷ c.args.p ∷ []) c.loop-k.k c.loop-k.invariant.1
            (no_seed_with_row m c.loop-k.search.groups (rw c.loop-k.invariant.0 at c.loop-k.search.together) c.args.i c.args.p c.loop-k.k (c.is_cut_row.ensures.no w.if-is_cut_row.false)),
      )
    ]

pub returns-clause-found : goal.returns-clause-found
returns-clause-found c = cut_level_ends c.args.search.now.matrix.now (c.args.i ∷ c.args.p ∷ []) c.loop-k.k (omega arith) c.loop-k.invariant.1
    (λ s S b g h. let k = g.inside.row_two in let e = h.1.1.0 in let r = c.rows-k-end.ensures.rows in let l = c.loop-k-test.false in omega arith)

pub is_cut_row-requires-clause-names : goal.is_cut_row-requires-clause-names
is_cut_row-requires-clause-names c = rw c.loop-k.invariant.0 at c.loop-k.search.names

pub first_of_second_row-requires-clause-row : goal.first_of_second_row-requires-clause-row
first_of_second_row-requires-clause-row c = rw c.loop-k.invariant.0 c.requires.row

pub first_of_second_row-requires-clause-column : goal.first_of_second_row-requires-clause-column
first_of_second_row-requires-clause-column c = rw c.loop-k.invariant.0 c.requires.column

pub first_of_second_row-requires-clause-second_row : goal.first_of_second_row-requires-clause-second_row
first_of_second_row-requires-clause-second_row c = let l = c.loop-k-test.true in let r = c.rows-k-end.ensures.rows in rw c.loop-k.invariant.0 (omega arith)

pub first_of_second_row-requires-clause-lower : goal.first_of_second_row-requires-clause-lower
first_of_second_row-requires-clause-lower c = rw c.loop-k.invariant.0 (c.is_cut_row.ensures.yes c.if-is_cut_row.true)
