use Rattle.std.proofs.Common.{◌≡◌, ◌<◌, ◌∙◌, ℕ, sym, subst, arith}
use Rattle.cmr_base.specs.ColumnSets.{has_column}
use Rattle.three_sep.specs.declared.forced.ForcedColumns.{ForcedColumns}
use Rattle.three_sep.specs.Concentrated.{AreForcedWith}
use Rattle.three_sep.proofs.ForcedLemmas.{forced_by_three, forced_more}
use Rattle.three_sep.proofs.forced.ForcedColumns.add_more.Goals as goal
use Rattle.three_sep.proofs.forced.ForcedColumns.add_more.Goals.{then-not-has+then-are_three_independent, else-not-has, else-not-has-via-then-not-has+else-are_three_independent, else-not-has-via-else-not-has}

abbrev still_forced : (start now : ForcedColumns) → Type 0
still_forced start now = (now.matrix.now ≡ start.matrix.now) × ((i : ℕ) → AreForcedWith start.matrix.now i (has_column start.columns.words) → AreForcedWith start.matrix.now i (has_column now.columns.words))

pub loop-j-preserved : goal.loop-j-preserved
loop-j-preserved c =
    let start = c.args.self.now in
    let m = start.matrix.now in
    let j = c.loop-j.j in
    let so = c.loop-j.invariant in
    let shape = c.columns-j-end.ensures.shape in
    let low : j < m.width = let l = c.loop-j-test.true in let r = c.columns-j-end.ensures.columns in omega arith in
    elim c.if-not-has.branch [
      | then-not-has+then-are_three_independent w ↦
          let independent = rw so.0 at (w.are_three_independent.ensures.independent w.if-are_three_independent.true) in
          let only = rw w.are_three_independent.ensures.columns at w.insert.ensures.only in
          subst (λ (s : ForcedColumns). still_forced start s) (sym w.self-is) (
            w.are_three_independent.ensures.matrix ∙ so.0,
            λ i before. forced_more m i j (has_column c.loop-j.self.columns.words) _ (so.1 i before) (forced_by_three m shape i (has_column c.loop-j.self.columns.words) j (so.1 i before) independent low) only,
          )
      | else-not-has w ↦ elim w.else-not-has.branch [
        | else-not-has-via-then-not-has+else-are_three_independent u ↦
            subst (λ (s : ForcedColumns). still_forced start s) (sym (w.self-is ∙ u.self-is)) (
              u.are_three_independent.ensures.matrix ∙ so.0,
              λ i before. rw u.are_three_independent.ensures.columns (so.1 i before),
            )
        | else-not-has-via-else-not-has u ↦ subst (λ (s : ForcedColumns). still_forced start s) (sym (w.self-is ∙ u.self-is)) so
      ]
    ]
