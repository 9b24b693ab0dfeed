use Rattle.std.proofs.Common.{◌≡◌, ◌∙◌, ◌||◌, ℕ, List, length, get_or, ap, subst, arith}
use Rattle.cmr_base.specs.ColumnSets.{has_column}
use Rattle.cmr_base.specs.Trees.{support}
use Rattle.graph_realise.specs.Joints.{AreColumnsOf}
use Rattle.graph_realise.proofs.JointLemmas.{columns_of_more, columns_of_none}
use Rattle.graph_realise.proofs.joint.columns_of_part.Goals as goal

pub loop-row-init : goal.loop-row-init
loop-row-init c = record {
  size = c.in_ok-columns.ensures.size ∙ c.columns.ensures.columns;
  columns = columns_of_none (support c.args.matrix.now) c.args.part.now (has_column c.in_ok-columns.columns.words) c.in_ok-columns.ensures.none;
}

pub loop-row-preserved : goal.loop-row-preserved
loop-row-preserved c =
    let M = support c.args.matrix.now in
    let p = c.loop-row.row-index in
    let x = get_or c.as_slice-row-items.result.now p 0 in
    let at : x ≡ get_or c.args.part.now p 0 = ap (λ (xs : List ℕ). get_or xs p 0) c.as_slice-row-items.ensures.items in
    let old = c.loop-row.columns.words in record {
      size = c.add_words.ensures.size ∙ c.loop-row.invariant.size;
      columns = columns_of_more M c.args.part.now p (has_column old) (has_column c.add_words.new.self.words) c.loop-row.invariant.columns
          (λ column. c.add_words.ensures.columns column ∙ ap (λ t. has_column old column || t) (c.columns_of.ensures.columns column)
          ∙ ap (λ (z : ℕ). has_column old column || M z column) at);
    }

pub returns : goal.returns
returns c =
    let e = ap (λ (xs : List ℕ). length xs) c.as_slice-row-items.ensures.items in
    let l = c.loop-row-test.false in
    let b = c.loop-row.auto.row-index-end in
    let f : c.loop-row.row-index ≡ length c.args.part.now = omega arith in record {
      size = c.loop-row.invariant.size;
      columns = subst (λ (n : ℕ). AreColumnsOf (support c.args.matrix.now) c.args.part.now n (has_column c.loop-row.columns.words)) f c.loop-row.invariant.columns;
    }
