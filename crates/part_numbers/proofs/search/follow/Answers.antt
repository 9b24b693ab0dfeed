use Rattle.std.proofs.Common.{◌≡◌, ◌<◌, ◌∙◌, inl, inr, ℕ, List, true, length, get_or, ap, sym, subst, arith}
use Rattle.std.proofs.lemmas.Bool.{cases_lt}
use Rattle.cmr_base.specs.declared.line.Line.{Line}
use Rattle.cmr_base.specs.Matrix.{entry}
use Rattle.sparse_matrix.specs.declared.nonzero.Nonzero.{Nonzero}
use Rattle.sparse_matrix.specs.SparseRows.{matrix_of_runs}
use Rattle.sparse_matrix.proofs.MarkedLines.{no_nonzero}
use Rattle.sparse_core.specs.TwoCores.{IsSparseLine}
use Rattle.part_numbers.specs.PartSearches.{AreAdjacent, IsReachedWith, crossing_line, is_in_core}
use Rattle.part_numbers.proofs.FollowedLines.{adjacent_crossing, crossing_adjacent, crossing_inside, reached_inside}
use Rattle.part_numbers.proofs.ReachedLines.{reaches_then, with_kept}
use Rattle.part_numbers.proofs.search.follow.Goals as goal

pub reach_from-requires-clause-line : goal.reach_from-requires-clause-line
reach_from-requires-clause-line c =
    let matrix = c.args.rows.now in
    let line = c.args.line in
    let index = c.loop-nonzero.nonzero-index in
    let run = c.nonzeros_of-run.ensures in
    subst (IsSparseLine matrix) (sym (c.crossing.ensures ∙ ap (λ (nonzeros : List Nonzero). crossing_line line (get_or nonzeros index no_nonzero).line) run.run))
    (crossing_inside matrix c.args.columns.now run.shape run.columns_shape c.requires.crossed line index
    (reached_inside matrix c.args.search.now line c.requires.grows.searched.sized c.requires.line)
    (subst (λ (nonzeros : List Nonzero). index < length nonzeros) run.run c.loop-nonzero-test.true))

pub reach_from-requires-clause-adjacent : goal.reach_from-requires-clause-adjacent
reach_from-requires-clause-adjacent c =
    let matrix = c.args.rows.now in
    let line = c.args.line in
    let index = c.loop-nonzero.nonzero-index in
    let run = c.nonzeros_of-run.ensures in
    subst (AreAdjacent (entry (matrix_of_runs matrix)) line) (sym (c.crossing.ensures ∙ ap (λ (nonzeros : List Nonzero). crossing_line line (get_or nonzeros index no_nonzero).line) run.run))
    (crossing_adjacent matrix c.args.columns.now run.shape run.columns_shape c.requires.crossed line index
    (reached_inside matrix c.args.search.now line c.requires.grows.searched.sized c.requires.line)
    (subst (λ (nonzeros : List Nonzero). index < length nonzeros) run.run c.loop-nonzero-test.true))

pub loop-nonzero-preserved : goal.loop-nonzero-preserved
loop-nonzero-preserved c =
    let core = c.args.core.now in
    let line = c.args.line in
    let index = c.loop-nonzero.nonzero-index in
    let run = c.nonzeros_of-run.result.now in
    let later = c.reach_from.new.search in
    let reached = c.in_ok-reach_from.ensures in
    let is = c.loop-nonzero.invariant in (
      reached.grows,
      reaches_then c.args.part c.args.search.now c.loop-nonzero.search later is.1 reached.reaches,
      λ k l. elim (cases_lt k index) [
        | inl b ↦ λ inside. with_kept c.args.part c.loop-nonzero.search later (crossing_line line (get_or run k no_nonzero).line) line reached.reaches
            (is.1.reached line c.requires.line) (is.2 k b inside)
        | inr b ↦ let same : index ≡ k = omega (arith, l, b) in
            subst (λ (other : Line). is_in_core core other ≡ true → IsReachedWith later other line)
            (c.crossing.ensures ∙ ap (λ (place : ℕ). crossing_line line (get_or run place no_nonzero).line) same) reached.line
      ],
    )

pub returns-clause-followed : goal.returns-clause-followed
returns-clause-followed c =
    let core = c.args.core.now in
    let line = c.args.line in
    let reached = c.loop-nonzero.search in
    let run = c.nonzeros_of-run.ensures in
    let all : (k : ℕ) → k < length c.nonzeros_of-run.result.now → is_in_core core (crossing_line line (get_or c.nonzeros_of-run.result.now k no_nonzero).line) ≡ true
    → IsReachedWith reached (crossing_line line (get_or c.nonzeros_of-run.result.now k no_nonzero).line) line =
    (λ k l. c.loop-nonzero.invariant.2 k (let end = c.loop-nonzero-test.false in omega (arith, l, end))) in
    λ other inside adjacent. adjacent_crossing c.args.rows.now c.args.columns.now run.shape run.columns_shape c.requires.crossed
    (λ x. is_in_core core x ≡ true → IsReachedWith reached x line) line other
    (subst (λ (nonzeros : List Nonzero). (k : ℕ) → k < length nonzeros → is_in_core core (crossing_line line (get_or nonzeros k no_nonzero).line) ≡ true
    → IsReachedWith reached (crossing_line line (get_or nonzeros k no_nonzero).line) line) run.run all) adjacent inside
