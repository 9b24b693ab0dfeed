use Rattle.std.proofs.Common.{◌≡◌, ◌<◌, ◌≤◌, ◌∙◌, ◌+◌, ◌&&◌, ◌||◌, ℕ, List, ap, ap₂, refl, sym, subst, length, get_or}
use Rattle.cmr_base.specs.ColumnSets.{has_column}
use Rattle.cmr_base.specs.Trees.{support}
use Rattle.cmr_base.proofs.Booleans.{and_is, false_is, not_both, or_false}
use Rattle.bridge_split.proofs.CommonColumns.{is_shared, common_starts, common_more, common_ends, common_full}
use Rattle.bridge_split.proofs.cuts.set_common.Goals.{then-meets_words+else-is_within, else-meets_words}
use Rattle.bridge_split.proofs.cuts.set_common.Goals as goal

pub loop-other-init : goal.loop-other-init
loop-other-init c = common_starts c.args.matrix.now c.args._row c.args.part.now c.clear.new.self (c.clear.ensures.size ∙ c.requires.size) c.clear.ensures.none

pub loop-other-preserved : goal.loop-other-preserved
loop-other-preserved c =
    let m = c.args.matrix.now in
    let part = c.args.part.now in
    let p = c.loop-other.other-index in
    let before = c.loop-other.common in
    let items = c.as_slice-other-items.ensures.items in
    let inside : p < length part = subst (λ (xs : List ℕ). p < length xs) items c.loop-other-test.true in
    let own = has_column c.args.own.now.words in
    let other = has_column c.columns_of-columns.result.now in
    let shared : (column : ℕ) → (own column && other column) ≡ is_shared m c.args._row part p column =
    λ column. ap₂ (λ s t. s && t) (c.requires.own.exact column)
    (c.columns_of-columns.ensures.columns column ∙ ap (λ (xs : List ℕ). support m (get_or xs p 0) column) items) in
    elim c.if-meets_words.branch [
      | then-meets_words+else-is_within w ↦
          rw w.common-is (common_more m c.args._row part p before w.add_common_words.new.self inside c.loop-other.invariant w.add_common_words.ensures.size
          (λ column. w.add_common_words.ensures.columns column ∙ ap (λ t. has_column before.words column || t) (shared column)))
      | else-meets_words w ↦
          rw w.common-is (common_more m c.args._row part p before before inside c.loop-other.invariant refl
          (λ column. sym (ap (λ t. has_column before.words column || t) (sym (shared column) ∙ false_is (own column && other column) (λ e.
          let both = and_is (own column) (other column) e in not_both c.meets_words.result (c.meets_words.ensures.1 (column, both.0, both.1)) w.if-meets_words.false))
          ∙ or_false (has_column before.words column))))
    ]

pub returns-then-is_within-clause-common : goal.returns-then-is_within-clause-common
returns-then-is_within-clause-common c =
    let m = c.args.matrix.now in
    let part = c.args.part.now in
    let p = c.loop-other.other-index in
    let before = c.loop-other.common in
    let items = c.as_slice-other-items.ensures.items in
    let inside : p < length part = subst (λ (xs : List ℕ). p < length xs) items c.loop-other-test.true in
    let own = c.requires.own.exact in
    let other : (column : ℕ) → has_column c.columns_of-columns.result.now column ≡ support m (get_or part p 0) column =
    λ column. c.columns_of-columns.ensures.columns column ∙ ap (λ (xs : List ℕ). support m (get_or xs p 0) column) items in
    let full = c.is_within.ensures.0 c.if-is_within.true in
    common_full m c.args._row part (p + 1) c.add_common_words.new.self (λ column e. full column (own column ∙ e))
    (common_more m c.args._row part p before c.add_common_words.new.self inside c.loop-other.invariant c.add_common_words.ensures.size
    (λ column. c.add_common_words.ensures.columns column ∙ ap₂ (λ s t. has_column before.words column || (s && t)) (own column) (other column)))

pub returns-clause-common : goal.returns-clause-common
returns-clause-common c =
    let p = c.loop-other.other-index in
    let past : length c.args.part.now ≤ p = subst (λ (xs : List ℕ). length xs ≤ p) c.as_slice-other-items.ensures.items c.loop-other-test.false in
    common_ends c.args.matrix.now c.args._row c.args.part.now p c.loop-other.common past c.loop-other.invariant
