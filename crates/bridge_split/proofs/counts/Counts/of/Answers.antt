use Rattle.std.proofs.Common.{◌≡◌, ◌+◌, cond, ◌&&◌, ◌||◌, ◌∙◌, nat_lt, ℕ, sym, subst, ap, ap₂, take, get_or}
use Rattle.std.specs.List.{count_by}
use Rattle.std.proofs.lemmas.List.Sums.{sum_by_more}
use Rattle.cmr_base.specs.BitSets.{AreWordsOf}
use Rattle.cmr_base.specs.Trees.{support}
use Rattle.bridge_split.proofs.ThreeNonzeros.{more_than, more_than_none}
use Rattle.bridge_split.proofs.counts.Counts.of.Goals as goal

pub add-requires : goal.add-requires
add-requires c = subst (λ (size : ℕ). AreWordsOf size c.columns_of.result.now) (sym c.loop-row.invariant.size) c.columns_of.ensures.whole

pub loop-row-preserved : goal.loop-row-preserved
loop-row-preserved c =
    let m = c.args.matrix.now in
    let S = c.args.rows.now in
    let k = c.loop-row.row-index in
    let x = get_or S k 0 in
    let so = c.loop-row.invariant in
    let row = c.columns_of.ensures.columns in
    let n : ℕ → ℕ = λ column. count_by (λ r. support m r column) (take k S) in
    let more : (column : ℕ) → count_by (λ r. support m r column) (take (k + 1) S) ≡ n column + cond (support m x column) 1 0 = λ column. sum_by_more (λ r. cond (support m r column) 1 0) S k 0 c.loop-row-test.true in
    record {
      matrix = so.matrix;
      size = c.add.ensures.size ∙ so.size;
      once = λ column.
          c.add.ensures.once column ∙ ap₂ (λ s t. s || t) (so.once column) (row column)
          ∙ sym (ap (nat_lt 0) (more column) ∙ more_than_none (n column) (support m x column));
      twice = λ column.
          c.add.ensures.twice column ∙ ap₂ (λ s t. s || t) (so.twice column) (ap₂ (λ s t. s && t) (so.once column) (row column))
          ∙ sym (ap (nat_lt 1) (more column) ∙ more_than 0 (n column) (support m x column));
      thrice = λ column.
          c.add.ensures.thrice column ∙ ap₂ (λ s t. s || t) (so.thrice column) (ap₂ (λ s t. s && t) (so.twice column) (row column))
          ∙ sym (ap (nat_lt 2) (more column) ∙ more_than 1 (n column) (support m x column));
    }
