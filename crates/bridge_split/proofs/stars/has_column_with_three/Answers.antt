use Rattle.std.proofs.Common.{◌≡◌, ◌<◌, ◌≤◌, ◌∙◌, ℕ, List, refl, sym, ap, subst, length, get_or}
use Rattle.cmr_base.specs.Trees.{support}
use Rattle.cmr_base.proofs.RowLists.{not_both}
use Rattle.bridge_split.proofs.ThreeNonzeros.{third_found, no_third_more, no_third_ends}
use Rattle.bridge_split.proofs.stars.has_column_with_three.Goals as goal

pub loop-row-init : goal.loop-row-init
loop-row-init c = record {
  matrix = c.columns.ensures.shape;
  ones_size = c.in_ok-once.ensures.size ∙ c.columns.ensures.columns;
  twos_size = c.in_ok-twice.ensures.size ∙ c.columns-2.ensures.columns;
  once = c.in_ok-once.ensures.none;
  twice = c.in_ok-twice.ensures.none;
  few = λ column. refl;
}

pub loop-row-preserved : goal.loop-row-preserved
loop-row-preserved c =
    let m = c.args.matrix.now in
    let S = c.args.rows.now in
    let k = c.loop-row.row-index in
    let items = c.as_slice-row-items.ensures.items in
    let inside : k < length S = subst (λ (xs : List ℕ). k < length xs) items c.loop-row-test.true in
    let at : get_or c.as_slice-row-items.result.now k 0 ≡ get_or S k 0 = ap (λ (xs : List ℕ). get_or xs k 0) items in
    no_third_more m S k c.loop-row.once c.loop-row.twice c.add_words.new.self c.add_common_words.new.self c.columns_of-columns.result.now c.loop-row.invariant inside c.add_words.ensures.size c.add_common_words.ensures.size
    (λ column. c.columns_of-columns.ensures.columns column ∙ ap (λ (z : ℕ). support m z column) at)
    c.add_common_words.ensures.columns c.add_words.ensures.columns
    (λ common. not_both c.meets_words.result (c.meets_words.ensures.1 common) c.if-meets_words.false)

pub returns-then-meets_words : goal.returns-then-meets_words
returns-then-meets_words c =
    let m = c.args.matrix.now in
    let S = c.args.rows.now in
    let k = c.loop-row.row-index in
    let items = c.as_slice-row-items.ensures.items in
    let inside : k < length S = subst (λ (xs : List ℕ). k < length xs) items c.loop-row-test.true in
    let at : get_or c.as_slice-row-items.result.now k 0 ≡ get_or S k 0 = ap (λ (xs : List ℕ). get_or xs k 0) items in
    let common = c.meets_words.ensures.0 c.if-meets_words.true in
    third_found m S k common.0 c.as_slice-row-items.ensures.increasing inside (sym (c.loop-row.invariant.twice common.0) ∙ common.1)
    (sym (c.columns_of-columns.ensures.columns common.0 ∙ ap (λ (z : ℕ). support m z common.0) at) ∙ common.2)

pub returns : goal.returns
returns c =
    let S = c.args.rows.now in
    let k = c.loop-row.row-index in
    let past : length S ≤ k = subst (λ (xs : List ℕ). length xs ≤ k) c.as_slice-row-items.ensures.items c.loop-row-test.false in
    no_third_ends c.args.matrix.now S k c.loop-row.once c.loop-row.twice c.loop-row.invariant past
