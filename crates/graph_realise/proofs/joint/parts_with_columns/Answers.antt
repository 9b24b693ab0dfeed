use Rattle.std.proofs.Common.{◌≡◌, ◌<◌, ◌∙◌, ◌&&◌, ◌||◌, not, ℕ, [], length, ap, sym, subst, arith}
use Rattle.std.specs.Prelude.{slice_index_or}
use Rattle.std.proofs.lemmas.List.{get_or_default}
use Rattle.cmr_base.specs.BitSets.{Bits}
use Rattle.cmr_base.specs.ColumnSets.{has_column}
use Rattle.cmr_base.specs.Trees.{support}
use Rattle.graph_realise.specs.Joints.{IsPartNumber, number_at, set_at}
use Rattle.graph_realise.proofs.JointLemmas.{named_more, named_none, of_rows}
use Rattle.graph_realise.proofs.joint.parts_with_columns.Goals as goal

pub loop-place-init : goal.loop-place-init
loop-place-init c = record {
  columns_fit = c.in_ok-columns.ensures.size ∙ c.columns-2.ensures.columns;
  size = c.in_ok-numbers.ensures.size ∙ c.columns.ensures.columns;
  named = λ column. named_none (support c.args.matrix.now) c.args.row c.args.parts.now column (number_at c.in_ok-numbers.numbers.items column) (c.in_ok-numbers.ensures.none column);
}

pub add_outside_words-requires-clause-one : goal.add_outside_words-requires-clause-one
add_outside_words-requires-clause-one c =
    let l = c.loop-place-test.true in
    let sets = c.args.sets.now in
    let place = c.loop-place.place in
    let inside : place < length c.args.parts.now = let k = c.len-place-end.ensures in omega arith in
    let item : c.index-sets-place.result ≡ set_at sets place = c.index-sets-place.is ∙ get_or_default sets place c.index-sets-place.result (set_at [] 0) (omega (arith, inside, c.requires.sets.many)) in
    ap (λ (set : Bits). set.size) item ∙ (c.requires.sets.each place inside).size ∙ sym (c.clear.ensures.size ∙ c.loop-place.invariant.columns_fit)

pub number_columns-requires : goal.number_columns-requires
number_columns-requires c = c.add_outside_words.ensures.size ∙ c.clear.ensures.size ∙ c.loop-place.invariant.columns_fit ∙ sym c.loop-place.invariant.size

pub loop-place-preserved : goal.loop-place-preserved
loop-place-preserved c =
    let m = c.args.matrix.now in
    let M = support m in
    let parts = c.args.parts.now in
    let place = c.loop-place.place in
    let rows = slice_index_or parts place [] in
    let sets = c.args.sets.now in
    let inside : place < length parts = let l = c.loop-place-test.true in let k = c.len-place-end.ensures in omega arith in
    let item : c.index-sets-place.result ≡ set_at sets place = c.index-sets-place.is ∙ get_or_default sets place c.index-sets-place.result (set_at [] 0) (omega (arith, inside, c.requires.sets.many)) in
    let met = (set_at sets place).words in
    let set = c.add_outside_words.new.self.words in
    let words = c.columns_of.result.now in
    let of = of_rows M c.args.row rows (length rows) (has_column met) (has_column set) (c.requires.sets.each place inside).columns (λ column. c.add_outside_words.ensures.columns column
    ∙ ap (λ t. t || (has_column c.index-sets-place.result.words column && not (has_column words column))) (c.clear.ensures.none column)
    ∙ ap (λ (s : Bits). has_column s.words column && not (has_column words column)) item
    ∙ ap (λ t. has_column met column && not t) (c.columns_of.ensures.columns column)) in
    record {
      columns_fit = c.add_outside_words.ensures.size ∙ c.clear.ensures.size ∙ c.loop-place.invariant.columns_fit;
      size = c.number_columns.ensures.size ∙ c.loop-place.invariant.size;
      named = λ column. named_more M c.args.row parts place (has_column set) column (number_at c.loop-place.numbers.items column) (number_at c.number_columns.new.numbers.items column)
          of (c.loop-place.invariant.named column)
          (c.number_columns.ensures.inside column)
          (c.number_columns.ensures.outside column);
    }

pub returns-clause-parts : goal.returns-clause-parts
returns-clause-parts c = λ column.
    let l = c.loop-place-test.false in
    let k = c.len-place-end.ensures in
    let b = c.loop-place.auto.place-end in
    let e : c.loop-place.place ≡ length c.args.parts.now = omega arith in
    subst (λ (n : ℕ). IsPartNumber (support c.args.matrix.now) c.args.row c.args.parts.now n column (number_at c.loop-place.numbers.items column)) e (c.loop-place.invariant.named column)
