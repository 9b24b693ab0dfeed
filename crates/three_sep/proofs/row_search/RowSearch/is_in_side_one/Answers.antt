use Rattle.std.proofs.Common.{◌∙◌, ℕ, subst, sym}
use Rattle.cmr_base.specs.Matrix.{entry}
use Rattle.cmr_base.proofs.Booleans.{nonzero_is}
use Rattle.cmr_base.proofs.TransposedLines.{transposed_inside, transposed_row, transposed_support}
use Rattle.three_sep.specs.Concentrated.{AreCandidates, HasNoneBetween}
use Rattle.three_sep.proofs.ConcentratedLemmas.{none_past}
use Rattle.three_sep.proofs.row_search.RowSearch.is_in_side_one.Goals as goal

pub next_nonzero-requires-clause-row : goal.next_nonzero-requires-clause-row
next_nonzero-requires-clause-row c = transposed_inside c.args.self.now.matrix.now c.by_columns-columns.result.now c.by_columns-columns.ensures.matrix c.args.connectors.now.second.column c.requires.connectors.second_lines.1.0

pub pulls_other-requires-clause-row : goal.pulls_other-requires-clause-row
pulls_other-requires-clause-row c = transposed_row c.args.self.now.matrix.now c.by_columns-columns.result.now c.by_columns-columns.ensures.matrix c.in-Some.row c.in-Some.ensures.first.1

pub returns-then-pulls_other : goal.returns-then-pulls_other
returns-then-pulls_other c = λ e.
    let self = c.args.self.now in
    let m = self.matrix.now in
    let n = c.by_columns-columns.result.now in
    let columns_are = c.by_columns-columns.ensures.matrix in
    let j = c.args.connectors.now.second.column in
    let row = c.in-Some.row in
    let candidates = subst (λ (i : ℕ). AreCandidates m i self.candidates) (sym c.requires.row) self.are_candidates in
    subst (λ (i : ℕ). HasNoneBetween m i j) c.requires.row
    (none_past m c.args.connectors.now c.spread_rule-rule.result self.candidates row c.requires.connectors c.spread_rule-rule.ensures.lower candidates
    (transposed_row m n columns_are row c.in-Some.ensures.first.1) (nonzero_is (entry m row j) (sym (transposed_support m n columns_are row j c.by_columns-columns.ensures.shape) ∙ c.in-Some.ensures.first.2))
    (c.pulls_other.ensures c.if-pulls_other.true))
