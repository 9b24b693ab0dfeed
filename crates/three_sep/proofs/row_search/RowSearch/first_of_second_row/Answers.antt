use Rattle.std.proofs.Common.{[], ◌∷◌, ◌∙◌, ℕ, arith, sym, inl, inr}
use Rattle.cmr_base.specs.Matrix.{Matrix, entry}
use Rattle.cmr_base.specs.ColumnSets.{has_column}
use Rattle.cmr_base.specs.Trees.{support}
use Rattle.cmr_base.proofs.Booleans.{false_is, nonzero_is, not_both}
use Rattle.cmr_base.proofs.RowLists.{two_cases}
use Rattle.cuts.specs.declared.corners.Corners.{Corners}
use Rattle.cuts.specs.LineCuts.{AreInside}
use Rattle.three_sep.specs.Concentrated.{AreConcentratedCorners}
use Rattle.three_sep.proofs.SearchLemmas.{found_some, none_more, level_ends, good_inside}
use Rattle.three_sep.proofs.ConcentratedLemmas.{no_common, none_between_seconds}
use Rattle.three_sep.proofs.RowSearchLemmas.{from_row, same_row}
use Rattle.three_sep.proofs.row_search.RowSearch.first_of_second_row.Goals as goal

pub returns-then-not-meets_words-clause-found : goal.returns-then-not-meets_words-clause-found
returns-then-not-meets_words-clause-found c =
    let self = c.args.self.now in
    let m = self.matrix.now in
    no_common m self.row c.args.p c.args.k self.candidates self.are_candidates (λ x. elim (two_cases (support m c.args.k x)) [
      | inl row ↦ inr (false_is (has_column self.candidates.words x) (λ h. not_both c.meets_words.result
          (c.meets_words.ensures.1 (x, h, (rw c.by_rows.ensures.matrix at c.columns_of.ensures.columns) x ∙ row)) c.if-not-meets_words.true))
      | inr none ↦ inl none
    ])

pub first_of_corners-requires-clause-row : goal.first_of_corners-requires-clause-row
first_of_corners-requires-clause-row c = sym c.loop-j.invariant.1.row_is

pub first_of_corners-requires-clause-inside : goal.first_of_corners-requires-clause-inside
first_of_corners-requires-clause-inside c =
    let self = c.args.self.now in
    let corners : Corners = record { one = record { row = self.row; column = c.args.p }; two = record { row = c.args.k; column = c.in-Some.j } } in
    from_row _ _ c.loop-j.self c.loop-j.invariant.1 (λ (n : Matrix) (x : ℕ). AreInside n corners)
    (record { row_one = self.row_in; column_one = c.requires.column; row_two = c.requires.second_row; column_two = omega (arith, c.in-Some.ensures.inside, c.in_ok-columns.ensures.size) })

pub first_of_corners-requires-clause-corners : goal.first_of_corners-requires-clause-corners
first_of_corners-requires-clause-corners c =
    let self = c.args.self.now in
    let corners : Corners = record { one = record { row = self.row; column = c.args.p }; two = record { row = c.args.k; column = c.in-Some.j } } in
    from_row _ _ c.loop-j.self c.loop-j.invariant.1 (λ (n : Matrix) (x : ℕ). AreConcentratedCorners (entry n) corners)
    (record { first = c.requires.nonzero; second = nonzero_is (entry self.matrix.now c.args.k c.in-Some.j) (c.in_ok-columns.ensures.yes c.in-Some.j c.in-Some.ensures.member) })

pub returns-in-Some-2-clause-found : goal.returns-in-Some-2-clause-found
returns-in-Some-2-clause-found c =
    let self = c.args.self.now in
    let m = self.matrix.now in
    found_some m (3 ∷ self.row ∷ c.args.p ∷ c.args.k ∷ []) c.in-Some.j c.in_ok-three.field-0 c.in-Some-2.three (omega arith)
    (none_between_seconds m self.row c.args.p c.args.k c.loop-j.from c.in-Some.j c.in_ok-columns.columns self.candidates self.are_candidates c.in_ok-columns.ensures.no c.loop-j.invariant.0 c.in-Some.ensures.first)
    c.in-Some-2.is (rw c.loop-j.invariant.1.matrix_is at c.in_ok-three.ensures.found)

pub loop-j-preserved : goal.loop-j-preserved
loop-j-preserved c =
    let self = c.args.self.now in
    let m = self.matrix.now in
    let before = none_between_seconds m self.row c.args.p c.args.k c.loop-j.from c.in-Some.j c.in_ok-columns.columns self.candidates self.are_candidates c.in_ok-columns.ensures.no c.loop-j.invariant.0 c.in-Some.ensures.first in (
      none_more m (3 ∷ self.row ∷ c.args.p ∷ c.args.k ∷ []) c.in-Some.j c.in_ok-three.field-0 before c.in_default-2.is (rw c.loop-j.invariant.1.matrix_is at c.in_ok-three.ensures.found),
      same_row m self.row c.loop-j.self c.loop-j.invariant.1 _ c.in_ok-three.ensures.row,
      omega (arith, c.in-Some.ensures.inside, c.in_ok-columns.ensures.size),
    )

pub returns-clause-found : goal.returns-clause-found
returns-clause-found c =
    let self = c.args.self.now in
    let m = self.matrix.now in
    level_ends m (3 ∷ self.row ∷ c.args.p ∷ c.args.k ∷ []) m.width (omega arith)
    (none_between_seconds m self.row c.args.p c.args.k c.loop-j.from m.width c.in_ok-columns.columns self.candidates self.are_candidates c.in_ok-columns.ensures.no c.loop-j.invariant.0 (λ x a l. c.in_default.ensures x a))
    (λ s S b g h. let k = (good_inside m s S g).column_two in let e = h.1.1.1.1.0 in omega arith)
